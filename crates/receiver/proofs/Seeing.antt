-- What an address shows, message by message, as the code reads it.
use mathlib.Core.Path.{◌≡◌, refl, sym, ap, ◌∙◌}
use mathlib.Core.Bool.{Bool, true, false, cond}
use mathlib.Core.List.{List}
use mathlib.Core.Option.{Option, none, some}
use Prim.Native.Nat.{ℕ, ◌%◌, ◌/◌, ◌≤◌}
use native.Mathlib.Omega.{arith}
use borrow.Author.Tests.{eq-eqb, eqb-false, eqb-true, ne_eqb}
use lib.Dec.{eqb}
use lib.ListN.{length}
use Rattle.std.specs.Prelude.{Ok, Err}
use Rattle.coding.specs.Hamming.{message}
use Rattle.packet.specs.Addresses.{address_of, magazine_of, row_of, row_weight1, shown}
use Rattle.packet.specs.Lines.{packet_byte, packet_length, wrong_length}
use Rattle.receiver.specs.Kinds.{seen, seen_whole}
use Rattle.receiver.specs.Private.{seen_with, seen_without}
use Rattle.receiver.specs.declared.kinds.Seen.TheVariants.{Another}

-- the magazine of a first message, as its three bits and as a number of 1 to 8
magazine_by : (first : ℕ) (b : Bool) → eqb (first % 8) 0 ≡ b → cond b 8 (first % 8) % 8 ≡ first % 8
magazine_by first true z = sym (eqb-true (first % 8) 0 z)
magazine_by first false z = omega arith

magazine_bits : (first : ℕ) → magazine_of first % 8 ≡ first % 8
unfolding magazine_of
magazine_bits first = magazine_by first (eqb (first % 8) 0) refl

magazine_range : (first : ℕ) (b : Bool) → eqb (first % 8) 0 ≡ b → (1 ≤ cond b 8 (first % 8)) × (cond b 8 (first % 8) ≤ 8)
magazine_range first true z = (omega arith, omega arith)
magazine_range first false z = (omega (arith, eqb-false (first % 8) 0 z), omega arith)

module _ (ours first : ℕ) where
  pub not_ours : (first % 8 ≡ ours % 8 → ⊥) → magazine_of first ≡ ours → ⊥
  not_ours d e = d (sym (magazine_bits first) ∙ ap (λ (n : ℕ). n % 8) e)

  pub is_ours : 1 ≤ ours → ours ≤ 8 → first % 8 ≡ ours % 8 → magazine_of first ≡ ours
  unfolding magazine_of
  is_ours low high e =
      let range = magazine_range first (eqb (first % 8) 0) refl in
      omega (arith, range.0, range.1, magazine_bits first)

module _ (ours : ℕ) (packet : List ℕ) (whole : length packet ≡ packet_length) where
  -- the two messages of the address
  abbrev two : Option ℕ
  two = message (packet_byte packet 2)

  shown-is : {one : Option ℕ} → message (packet_byte packet 1) ≡ one → seen ours (address_of packet) ≡ seen ours (Ok (shown one two))
  unfolding address_of
  shown-is e =
      ap (λ (b : Bool). seen ours (cond b (Ok (shown (message (packet_byte packet 1)) two)) (Err wrong_length))) (eq-eqb (length packet) packet_length whole)
      ∙ ap (λ (one : Option ℕ). seen ours (Ok (shown one two))) e

  elsewhere : (first : ℕ) (second : Option ℕ) → (magazine_of first ≡ ours → ⊥) → Another ≡ seen ours (Ok (shown (some first) second))
  unfolding shown seen seen_whole
  elsewhere first none d = rw (ne_eqb (magazine_of first) ours d)
  elsewhere first (some second) d = rw (ne_eqb (magazine_of first) ours d)

  with_second : (first : ℕ) (second : Option ℕ) → magazine_of first ≡ ours → seen_with (first / 8) second ≡ seen ours (Ok (shown (some first) second))
  unfolding shown seen seen_whole seen_with row_of row_weight1
  with_second first none e = rw (eq-eqb (magazine_of first) ours e)
  with_second first (some second) e = rw (eq-eqb (magazine_of first) ours e)

  without-first : (second : Option ℕ) → seen_without second ≡ seen ours (Ok (shown none second))
  unfolding shown seen seen_without
  without-first none = refl
  without-first (some second) = refl

  pub seen-elsewhere : (first : ℕ) → message (packet_byte packet 1) ≡ some first → (first % 8 ≡ ours % 8 → ⊥) → Another ≡ seen ours (address_of packet)
  seen-elsewhere first e d = elsewhere first two (not_ours ours first d) ∙ sym (shown-is e)

  pub seen-ours : (first : ℕ) → message (packet_byte packet 1) ≡ some first → 1 ≤ ours → ours ≤ 8 → first % 8 ≡ ours % 8
      → seen_with (first / 8) two ≡ seen ours (address_of packet)
  seen-ours first e low high same = with_second first two (is_ours ours first low high same) ∙ sym (shown-is e)

  pub seen-refused : message (packet_byte packet 1) ≡ none → seen_without two ≡ seen ours (address_of packet)
  seen-refused e = without-first two ∙ sym (shown-is e)
