-- A line's count of mended bytes is how many came with a wrong bit, where none has more than one.
use mathlib.Core.Path.{◌≡◌, refl, sym, ap, ap₂, ◌∙◌}
use mathlib.Core.Bool.{Bool, true, false, cond, not}
use mathlib.Core.List.{List, [], ◌∷◌, ◌++◌, map}
use Prim.Native.Nat.{ℕ, ◌+◌, ◌-◌}
use native.Mathlib.Nat.{add_assoc, zero-add}
use native.Mathlib.Omega.{arith}
use borrow.Author.Tests.{eq-eqb}
use lib.Dec.{T, eqb, eqb→eq, leb→le}
use lib.ListN.{drop, take}
use Rattle.laws.specs.Every.{every, every_pair}
use Rattle.laws.proofs.Bools.{both_left, both_right}
use Rattle.coding.specs.Bits.{distance, turned_byte}
use Rattle.coding.specs.Hamming.{corrected, how_many_corrected, tests_of}
use Rattle.coding.proofs.Damage.{hamming-off}
use Rattle.coding.proofs.Mended.{corrected_append}
use Rattle.coding.proofs.Turning.{turned_small}
use Rattle.packet.specs.Headers.{control_bytes}
use Rattle.packet.specs.Lines.{packet_bytes, packet_of}
use Rattle.packet.specs.Sent.{damage, exact_byte, line_packet, near, sent_by_rules, sent_magazine, sent_row}
use Rattle.packet.proofs.Sent.{address-one, damage-parts, delivered-packet, header_damage, header_parts, sent-parts}
use Rattle.packet.proofs.Undamaged.{no_distance, undamaged}
use Rattle.receiver.specs.Effects.{Outcome}
use Rattle.receiver.specs.Entries.{entered}
use Rattle.receiver.specs.Mended.{address_pair, packet_mended}
use Rattle.receiver.specs.declared.Receiver.{Receiver}
use Rattle.receiver.specs.declared.Selection.{Selection}
use Rattle.receiver.proofs.MendedBytes.{mended_whole}
use Rattle.demands.specs.Demands.{lightly}
use Rattle.demands.specs.Mended.{CountsTheWrong, hamming_bytes, how_many_wrong, mended_of, wrong_at}
use Rattle.demands.specs.Runs.{is_row, line_at, received_at, sent_at}
use Rattle.demands.proofs.Through.{entry-is, line_within_law, mended_at, outcome_at, receiver_at, standing}

-- ---- byte by byte

one_wrong : (sent received : ℕ) → T (exact_byte (turned_byte sent)) → T (near lightly (turned_byte sent) (turned_byte received))
    → cond {A = ℕ} (corrected (tests_of (turned_byte received))) 1 0 ≡ cond (eqb (distance (turned_byte received) (turned_byte sent)) 0) 0 1
unfolding exact_byte near
one_wrong sent received exact close =
    let off =
    hamming-off (turned_byte sent) (turned_byte received) (turned_small sent) (turned_small received) exact
    (leb→le (distance (turned_byte received) (turned_byte sent)) lightly close) in
    ap (λ (b : Bool). cond b 1 0) off ∙ other_way (eqb (distance (turned_byte received) (turned_byte sent)) 0)
  where
    other_way : (b : Bool) → cond {A = ℕ} (not b) 1 0 ≡ cond b 0 1
    other_way true = refl
    other_way false = refl

-- of bytes as they stand in the two packets
all_wrong : (sent received : List ℕ) → T (every exact_byte (map turned_byte sent)) → T (every_pair (near lightly) (map turned_byte sent) (map turned_byte received))
    → how_many_corrected (map turned_byte received) ≡ how_many_wrong (map turned_byte sent) (map turned_byte received)
unfolding every every_pair how_many_corrected how_many_wrong
all_wrong [] [] exact close = refl
all_wrong [] (r ∷ received) exact close = absurd close
all_wrong (s ∷ sent) [] exact close = absurd close
all_wrong (s ∷ sent) (r ∷ received) exact close =
    ap₂ (λ (one others : ℕ). one + others)
    (one_wrong s r (both_left (exact_byte (turned_byte s)) (every exact_byte (map turned_byte sent)) exact)
    (both_left (near lightly (turned_byte s) (turned_byte r)) (every_pair (near lightly) (map turned_byte sent) (map turned_byte received)) close))
    (all_wrong sent received (both_right (exact_byte (turned_byte s)) (every exact_byte (map turned_byte sent)) exact)
    (both_right (near lightly (turned_byte s) (turned_byte r)) (every_pair (near lightly) (map turned_byte sent) (map turned_byte received)) close))

bytes_wrong : (p q : List ℕ) (first count : ℕ) → T (every exact_byte (packet_bytes p first count))
    → T (every_pair (near lightly) (packet_bytes p first count) (packet_bytes q first count))
    → how_many_corrected (packet_bytes q first count) ≡ how_many_wrong (packet_bytes p first count) (packet_bytes q first count)
unfolding packet_bytes
bytes_wrong p q first count exact close = all_wrong (take count (drop (first - 1) p)) (take count (drop (first - 1) q)) exact close

-- bytes one after the other
wrong_append : (test : ℕ → ℕ → Bool) (a b c d : List ℕ) → T (every_pair test a c) → how_many_wrong (a ++ b) (c ++ d) ≡ how_many_wrong a c + how_many_wrong b d
unfolding every_pair how_many_wrong
wrong_append test [] b [] d t = sym (zero-add (how_many_wrong b d))
wrong_append test [] b (y ∷ c) d t = absurd t
wrong_append test (x ∷ a) b [] d t = absurd t
wrong_append test (x ∷ a) b (y ∷ c) d t =
    let one : ℕ = cond (eqb (distance y x) 0) 0 1 in
    ap (λ (n : ℕ). one + n) (wrong_append test a b c d (both_right (test x y) (every_pair test a c) t)) ∙ sym (add_assoc one (how_many_wrong a c) (how_many_wrong b d))

-- ---- a line

module _ (receiver : Receiver) (s r : List ℕ) (sent : T (sent_by_rules s)) (damaged : T (damage lightly s r)) where
  abbrev magazine : ℕ
  magazine = receiver.selection.magazine

  abbrev is_header : Bool
  is_header = is_row magazine 0 s

  -- what is examined, by the line as sent
  examined-is : packet_mended receiver (line_packet r) ≡ how_many_corrected (hamming_bytes magazine s (line_packet r))
  unfolding address_pair hamming_bytes is_row
  examined-is = mended_whole receiver (line_packet r) (sent_magazine s) (sent_row s) (address-one lightly s r sent damaged (omega arith))

  pair-near : T (every_pair (near lightly) (packet_bytes (line_packet s) 1 2) (packet_bytes (line_packet r) 1 2))
  pair-near = (damage-parts lightly s r damaged).3

  zeroth : T is_header → sent_row s ≡ 0
  unfolding is_row
  zeroth t = eqb→eq (sent_row s) 0 (both_right (eqb (sent_magazine s) magazine) (eqb (sent_row s) 0) t)

  control-wrong : (b : Bool) → (T b → sent_row s ≡ 0)
      → how_many_corrected (cond b (control_bytes (line_packet r)) []) ≡ how_many_wrong (cond b (control_bytes (line_packet s)) []) (cond b (control_bytes (line_packet r)) [])
  unfolding how_many_corrected how_many_wrong
  control-wrong true is =
      bytes_wrong (line_packet s) (line_packet r) 3 8 (header_parts (sent_row s) (line_packet s) (is tt) (sent-parts s sent).4).0
      (header_damage lightly (sent_row s) (line_packet s) (line_packet r) (is tt) (damage-parts lightly s r damaged).4).0
  control-wrong false is = refl

  counts-wrong : packet_mended receiver (line_packet r) ≡ how_many_wrong (hamming_bytes magazine s (line_packet s)) (hamming_bytes magazine s (line_packet r))
  unfolding hamming_bytes
  counts-wrong =
      let pair = packet_bytes (line_packet r) 1 2 in
      let control = cond is_header (control_bytes (line_packet r)) [] in
      examined-is
      ∙ (corrected_append pair control
      ∙ (ap₂ (λ (n m : ℕ). n + m) (bytes_wrong (line_packet s) (line_packet r) 1 2 (sent-parts s sent).3 pair-near) (control-wrong is_header zeroth)
      ∙ sym (wrong_append (near lightly) (packet_bytes (line_packet s) 1 2) (cond is_header (control_bytes (line_packet s)) []) pair control pair-near)))

-- and of a line that comes as it was sent it is 0
none_wrong : (bytes : List ℕ) → how_many_wrong bytes bytes ≡ 0
unfolding how_many_wrong
none_wrong [] = refl
none_wrong (byte ∷ others) = ap₂ (λ (b : Bool) (n : ℕ). cond b 0 1 + n) (eq-eqb (distance byte byte) 0 (no_distance byte)) (none_wrong others)

pub unmended : (receiver : Receiver) (line : List ℕ) → T (sent_by_rules line) → packet_mended receiver (packet_of line) ≡ 0
unmended receiver line sent =
    let same = undamaged lightly line sent in
    ap (packet_mended receiver) (delivered-packet lightly line line sent same)
    ∙ (counts-wrong receiver line line sent same ∙ none_wrong (hamming_bytes receiver.selection.magazine line (line_packet line)))

-- ---- a line of a run

mended_entered : (o : Outcome) (mended : ℕ) → mended_of (entered o mended) ≡ mended
unfolding mended_of entered
mended_entered o mended = refl

pub counts_the_wrong : CountsTheWrong
unfolding wrong_at
counts_the_wrong run ready k light =
    let (sent, damaged) = line_within_law lightly (line_at run.lines k) light in
    let s = sent_at run.lines k in
    let r = received_at run.lines k in
    let before = receiver_at run ready k in
    ap mended_of (entry-is run ready lightly k sent damaged)
    ∙ (mended_entered (outcome_at run ready k) (mended_at run ready k)
    ∙ (counts-wrong before s r sent damaged
    ∙ ap (λ (selection : Selection). how_many_wrong (hamming_bytes selection.magazine s (line_packet s)) (hamming_bytes selection.magazine s (line_packet r)))
    (standing run ready k).selects))
