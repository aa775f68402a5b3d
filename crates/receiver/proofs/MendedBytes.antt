-- How many bytes of a line were mended: by the bytes at the packet's start, and never more than a header has. And what is known of some lines' sums.
use mathlib.Core.Path.{◌≡◌, refl, sym, ap, ◌∙◌}
use mathlib.Core.Bool.{Bool, true, false, cond, ◌&&◌}
use mathlib.Core.List.{List, [], ◌∷◌, ◌++◌, append-nil}
use Prim.Native.Nat.{ℕ, suc, ◌+◌, ◌-◌, ◌≤◌, ◌<◌}
use native.Mathlib.Nat.{add-zero, zero-add}
use native.Mathlib.Omega.{arith}
use lib.Dec.{eqb, leb, lit≤}
use lib.ListN.{length, get_or}
use Rattle.std.specs.Prelude.{Option, Ok, Result}
use Rattle.laws.proofs.Keeps.{either}
use Rattle.coding.specs.Bits.{turned_byte}
use Rattle.coding.specs.Hamming.{how_many_corrected}
use Rattle.coding.proofs.Mended.{corrected_append, corrected_at_most}
use Rattle.grid.specs.Grid.{last_row}
use Rattle.packet.specs.Addresses.{address_of}
use Rattle.packet.specs.Headers.{control_bytes}
use Rattle.packet.specs.Lines.{packet_bytes, packet_length}
use Rattle.packet.specs.Texts.{header_column}
use Rattle.packet.specs.Writing.{address_length, header_length}
use Rattle.packet.specs.declared.Address.{Address}
use Rattle.packet.specs.declared.Address.TheVariants.{Whole}
use Rattle.packet.specs.declared.WrongLength.{WrongLength}
use Rattle.packet.proofs.Bytes.{bytes_more, length_bytes}
use Rattle.receiver.specs.Entries.{answer_paper}
use Rattle.receiver.specs.Kinds.{seen, seen_ours, seen_whole}
use Rattle.receiver.specs.Mended.{address_pair, brought, brought_by, examined, is_own, mended_in, none_mended, packet_mended, summed}
use Rattle.receiver.specs.declared.Closing.{Closing}
use Rattle.receiver.specs.declared.Mended.{Mended}
use Rattle.receiver.specs.declared.Receiver.{Receiver}
use Rattle.receiver.specs.declared.kinds.Seen.{Seen}
use Rattle.receiver.specs.declared.kinds.Seen.TheVariants.{Another, OurRow, OurHeader, Unsure}

-- ---- byte by byte

-- of one byte more of a packet
pub corrected_more : (packet : List ℕ) (first count : ℕ) → (first - 1) + count < length packet
    → how_many_corrected (packet_bytes packet first count) + how_many_corrected (turned_byte (get_or packet ((first - 1) + count) 0) ∷ [])
    ≡ how_many_corrected (packet_bytes packet first (suc count))
corrected_more packet first count h =
    sym (corrected_append (packet_bytes packet first count) (turned_byte (get_or packet ((first - 1) + count) 0) ∷ []))
    ∙ ap how_many_corrected (sym (bytes_more packet first count h))

pub one_at_most : (byte : ℕ) → how_many_corrected (byte ∷ []) ≤ 1
one_at_most byte = corrected_at_most (byte ∷ [])

module _ (packet : List ℕ) (whole : length packet ≡ packet_length) where
  -- of the address
  pub corrected-pair : how_many_corrected (turned_byte (get_or packet 0 0) ∷ []) + how_many_corrected (turned_byte (get_or packet 1 0) ∷ [])
      ≡ how_many_corrected (address_pair packet)
  unfolding address_pair packet_bytes how_many_corrected
  corrected-pair =
      let first = sym (zero-add (how_many_corrected (turned_byte (get_or packet 0 0) ∷ []))) ∙ corrected_more packet 1 0 (omega arith) in
      ap (λ (n : ℕ). n + how_many_corrected (turned_byte (get_or packet 1 0) ∷ [])) first ∙ corrected_more packet 1 1 (omega arith)

  -- ---- never more than a header has

  pub at_most : (first count : ℕ) → (first - 1) + count ≤ length packet → how_many_corrected (packet_bytes packet first count) ≤ count
  at_most first count h = omega (arith, corrected_at_most (packet_bytes packet first count), length_bytes packet first count h)

  pub control-at-most : how_many_corrected (control_bytes packet) ≤ header_column
  control-at-most = at_most 3 header_column (omega arith)

  pub pair-at-most : how_many_corrected (address_pair packet) ≤ address_length
  unfolding address_pair
  pair-at-most = at_most 1 address_length (omega arith)

  pub mended-header : mended_in OurHeader packet ≡ how_many_corrected (address_pair packet) + how_many_corrected (control_bytes packet)
  unfolding mended_in examined
  mended-header = corrected_append (address_pair packet) (control_bytes packet)

  pub mended-at-most : (shows : Seen) → mended_in shows packet ≤ header_length
  unfolding mended_in examined
  mended-at-most Another = omega (arith, pair-at-most)
  mended-at-most (OurRow row) = omega (arith, pair-at-most)
  mended-at-most OurHeader = omega (arith, pair-at-most, control-at-most, corrected_append (address_pair packet) (control_bytes packet))
  mended-at-most (Unsure could) = omega (arith, pair-at-most)

-- ---- of a whole address, by what it says

examined_by : (ours zeroth inside : Bool) (row : ℕ) (packet : List ℕ)
    → examined (cond ours (cond zeroth OurHeader (cond inside (OurRow row) Another)) Another) packet
    ≡ address_pair packet ++ cond (ours && zeroth) (control_bytes packet) []
unfolding examined
examined_by true true inside row packet = refl
examined_by true false true row packet = sym (append-nil (address_pair packet))
examined_by true false false row packet = sym (append-nil (address_pair packet))
examined_by false zeroth inside row packet = sym (append-nil (address_pair packet))

pub mended_whole : (receiver : Receiver) (packet : List ℕ) (magazine row : ℕ) → address_of packet ≡ Ok (Whole magazine row)
    → packet_mended receiver packet
    ≡ how_many_corrected (address_pair packet ++ cond (eqb magazine receiver.selection.magazine && eqb row 0) (control_bytes packet) [])
unfolding packet_mended mended_in seen seen_whole seen_ours
mended_whole receiver packet magazine row e =
    let ours = receiver.selection.magazine in
    ap (λ (a : Result Address WrongLength). mended_in (seen ours a) packet) e
    ∙ ap how_many_corrected (examined_by (eqb magazine ours) (eqb row 0) (leb row last_row) row packet)

-- ---- sums

-- what a line that is taken adds
pub brought_is : (kind count : ℕ) (word : Option Closing) (mended : ℕ)
    → brought_by (answer_paper (Ok (record { kind = kind; count = count; closing = word; mended = mended }))) ≡ brought kind mended
unfolding brought_by answer_paper
brought_is kind count word mended = refl

pub none_more : (so : Mended) → summed so none_mended ≡ so
unfolding summed
none_more so = λ i. record { bytes = add-zero so.bytes i; lines = add-zero so.lines i; own = add-zero so.own i }

pub none_first : (so : Mended) → summed none_mended so ≡ so
unfolding summed
none_first so = λ i. record { bytes = zero-add so.bytes i; lines = zero-add so.lines i; own = zero-add so.own i }

-- a line with nothing mended adds nothing
pub brought_none : (kind : ℕ) → brought kind 0 ≡ none_mended
unfolding brought
brought_none kind = ap (λ (n : ℕ). record { bytes = 0; lines = 0; own = n }) (either (λ (n : ℕ). n ≡ 0) (is_own kind) 0 0 refl refl)

-- a line adds its bytes, no more than itself, and to the page's own no more than its bytes
pub record Within (more : Mended) (mended : ℕ) : Type 0 where
  pub bytes : more.bytes ≡ mended
  pub lines : more.lines ≤ 1
  pub own : more.own ≤ mended

pub brought_within : (kind mended : ℕ) → Within (brought kind mended) mended
unfolding brought
brought_within kind mended =
    record {
      bytes = refl;
      lines = either (λ (n : ℕ). n ≤ 1) (eqb mended 0) 0 1 (lit≤ tt) (lit≤ tt);
      own = either (λ (n : ℕ). n ≤ mended) (is_own kind) mended 0 (omega arith) (omega arith);
    }
