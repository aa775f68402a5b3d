-- What a line within the damage tells of the line that was sent: its address, whole or in part, its header and its characters.
use mathlib.Core.Path.{◌≡◌, refl, sym, ap, subst, ◌∙◌}
use mathlib.Core.Logic.{inl, inr, ⊎_elim}
use mathlib.Core.Bool.{false}
use mathlib.Core.List.{List}
use mathlib.Core.Option.{Option, none, some}
use Prim.Native.Nat.{ℕ, ◌+◌, ◌*◌, ◌≤◌, ◌<◌}
use native.Mathlib.Decide.{ℕ_discrete}
use native.Mathlib.Omega.{arith}
use borrow.Author.Tests.{eq-eqb}
use lib.Dec.{T}
use lib.ListN.{length, get_or, length-map}
use lib.Seq.{get_or-drop}
use Rattle.std.specs.Prelude.{Ok, Result, Err}
use Rattle.coding.specs.Characters.{character}
use Rattle.coding.specs.Hamming.{message}
use Rattle.packet.specs.Addresses.{address_of, row_of, row_weight1, shown}
use Rattle.packet.specs.Headers.{header_of}
use Rattle.packet.specs.Lines.{packet_byte}
use Rattle.packet.specs.Sent.{damage, line_packet, sent_by_rules, sent_first, sent_header, sent_magazine, sent_row, sent_second, sent_text}
use Rattle.grid.specs.Grid.{columns, last_row}
use Rattle.packet.specs.Texts.{Text, column_bytes, text_of}
use Rattle.packet.specs.declared.Address.{Address}
use Rattle.packet.specs.declared.Address.TheVariants.{Whole, First, Second, Unread}
use Rattle.packet.specs.declared.WrongLength.{WrongLength}
use Rattle.packet.specs.declared.Header.{Header}
use Rattle.packet.proofs.Bytes.{length_bytes}
use Rattle.packet.proofs.Sent.{AsSent, Carries, address-shown, column-kept, column-two, delivered, delivered-packet, first_two}
use Rattle.packet.proofs.Sent.{header-carries, header-two, received-packet, second-two, sent-packet, text-carries}
use Rattle.packet.proofs.Whole.{whole_text}
use Rattle.page.specs.Records.{record_length}
use Rattle.receiver.specs.Cells.{first_column, one_missing, row_found}
use Rattle.receiver.specs.Entries.{lawful, line_entered, packet_gives}
use Rattle.receiver.specs.declared.Receiver.{Receiver}
use Rattle.receiver.proofs.Entering.{line-is-taken}
use Rattle.receiver.proofs.Rows.{found_at, length_found}
use Rattle.receiver.proofs.Causes.{Anothers, harmless_second, late_row, no_packet, other_first, other_magazine}
use Rattle.receiver.proofs.Undoubted.{each_found, length_text}
use Rattle.demands.specs.Demands.{throughout}
use Rattle.demands.specs.Runs.{character_bytes}

-- a line within the damage is taken
pub line_taken : (d : ℕ) (s r : List ℕ) → T (sent_by_rules s) → T (damage d s r) → (receiver : Receiver) → T (lawful receiver) → (lent : List ℕ)
    → record_length ≤ length lent → line_entered receiver r lent ≡ packet_gives receiver (line_packet r) lent
line_taken d s r sent damaged receiver is lent long =
    line-is-taken receiver is lent long r (delivered d s r sent damaged)
    ∙ ap (λ (packet : List ℕ). packet_gives receiver packet lent) (delivered-packet d s r sent damaged)

-- ---- the address

-- each message is as it was sent, or refused
abbrev pub Told : List ℕ → Result Address WrongLength → Type 0
Told s (Ok (Whole magazine row)) = (sent_magazine s ≡ magazine) × (sent_row s ≡ row)
Told s (Ok (First magazine weight1)) = sent_magazine s ≡ magazine
Told s (Ok (Second second)) = 2 * second ≤ sent_row s
Told s (Ok Unread) = Unit {0}
Told s (Err short) = ⊥

second_told : (s : List ℕ) → 2 * sent_second s ≤ sent_row s
unfolding sent_row row_of
second_told s = most (row_weight1 (sent_first s)) (2 * sent_second s)
  where
    most : (a b : ℕ) → b ≤ a + b
    most a b = omega arith

shown_told : (s : List ℕ) (one two : Option ℕ) → AsSent (sent_first s) one → AsSent (sent_second s) two → Told s (Ok (shown one two))
unfolding shown sent_magazine sent_row
shown_told s one two (inl p) (inl q) = rw (p, q) (refl, refl)
shown_told s one two (inl p) (inr q) = rw (p, q) refl
shown_told s one two (inr p) (inl q) = rw (p, q) (second_told s)
shown_told s one two (inr p) (inr q) = rw (p, q) tt

module _ (d : ℕ) (mild : d ≤ throughout) (s r : List ℕ) (sent : T (sent_by_rules s)) (damaged : T (damage d s r)) where
  told : Told s (address_of (line_packet r))
  told =
      rw (address-shown d s r sent damaged)
      (shown_told s (message (packet_byte (line_packet r) 1)) (message (packet_byte (line_packet r) 2))
      (first_two d s r sent damaged mild)
      (second-two d s r sent damaged mild))

  -- an address that is read whole is the one that was sent
  pub whole_sent : (magazine row : ℕ) → address_of (line_packet r) ≡ Ok (Whole magazine row) → (sent_magazine s ≡ magazine) × (sent_row s ≡ row)
  whole_sent magazine row e = subst (Told s) e told

  -- and a line of another's is none of our rows that carry characters
  pub anothers-row : (ours : ℕ) → Anothers ours (address_of (line_packet r)) → sent_magazine s ≡ ours → sent_row s ≤ last_row → ⊥
  anothers-row ours (other_magazine magazine row e differs) our high = differs (sym (subst (Told s) e told).0 ∙ our)
  anothers-row ours (late_row magazine row e late) our high = omega (arith, (subst (Told s) e told).1)
  anothers-row ours (other_first magazine weight1 e differs) our high = differs (sym (subst (Told s) e told) ∙ our)
  anothers-row ours (harmless_second second e late) our high = omega (arith, subst (Told s) e told)
  anothers-row ours (no_packet e) our high = subst (Told s) e told

  -- ---- the header

  pub header-sent : sent_row s ≡ 0 → (found : Header) → header_of (line_packet r) ≡ Ok found → found ≡ sent_header s
  header-sent zeroth found e =
      ⊎_elim (λ p. cc) (λ p. absurd (let z : ◌≡◌ {A = ℕ} 0 1 = cc in omega arith)) (header-two d s r sent damaged zeroth mild)

-- ---- the characters

pub length_sent : (s : List ℕ) → T (sent_by_rules s) → length (sent_text s) ≡ columns
unfolding sent_text
length_sent s sent =
    length-map (column_bytes (line_packet s)) _ ∙ length_bytes (line_packet s) 3 columns (omega (arith, sent-packet s sent))

module _ (d : ℕ) (s r : List ℕ) (sent : T (sent_by_rules s)) (damaged : T (damage d s r)) (high : sent_row s ≤ last_row) where
  abbrev read : List ℕ
  read = (text_of (line_packet r)).bytes

  read_is : read ≡ column_bytes (line_packet r)
  read_is = ap (λ (t : Text). t.bytes) (whole_text (line_packet r) (received-packet d s r damaged))

  -- a column that carries a character
  module _ (c : ℕ) (low : first_column (sent_row s) ≤ c) (below : c < columns) where
    carries-by : Dec (sent_row s ≡ 0) → Carries d s r sent damaged c
    unfolding first_column
    carries-by (yes e) = header-carries d s r sent damaged e c (rw (eq-eqb (sent_row s) 0 e) at low) below
    carries-by (no n) = text-carries d s r sent damaged (omega arith) high c below

    carries : Carries d s r sent damaged c
    carries = carries-by (ℕ_discrete (sent_row s) 0)

    -- what is found there is what was sent
    pub column-sent : (v : ℕ) → character (get_or read c 0) ≡ some v → v ≡ get_or (sent_text s) c 0
    column-sent v e =
        ⊎_elim (λ p. cc (ap (λ (bytes : List ℕ). character (get_or bytes c 0)) read_is))
        (λ p. absurd (let z : ◌≡◌ {A = ℕ} 0 1 = cc (ap (λ (bytes : List ℕ). character (get_or bytes c 0)) read_is) in omega arith))
        (column-two d s r sent damaged c below carries)

    -- and it is found where its byte is right
    column-found : get_or (column_bytes (line_packet r)) c 0 ≡ get_or (column_bytes (line_packet s)) c 0
        → character (get_or read c 0) ≡ some (get_or (sent_text s) c 0)
    column-found e = rw read_is (column-kept d s r sent damaged c below carries e)

  -- where no character byte is wrong none is missing
  pub kept-found : character_bytes (sent_row s) r ≡ character_bytes (sent_row s) s → one_missing (row_found (sent_row s) read) ≡ false
  unfolding character_bytes
  kept-found e =
      each_found (row_found (sent_row s) read)
      (λ k h.
      let first : ℕ = first_column (sent_row s) in
      let below : first + k < columns = omega (arith, length_found (sent_row s) read (length_text (line_packet r))) in
      let low : first ≤ first + k = omega arith in
      let same : get_or (column_bytes (line_packet r)) (first + k) 0 ≡ get_or (column_bytes (line_packet s)) (first + k) 0 =
      sym (get_or-drop first (column_bytes (line_packet r)) k 0)
      ∙ (ap (λ (l : List ℕ). get_or l k 0) e ∙ get_or-drop first (column_bytes (line_packet s)) k 0) in
      let here = found_at (sent_row s) read (length_text (line_packet r)) (first + k) low below in
      record {
        code = get_or (sent_text s) (first + k) 0;
        is =
            ap (λ (n : ℕ). get_or (row_found (sent_row s) read) n none) (omega arith)
            ∙ (here ∙ column-found (first + k) low below same);
      })
