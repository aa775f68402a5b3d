-- One turn of playing, by what the line was seen to be: what the code ends with, or what holds before the next turn.
use mathlib.Core.Path.{◌≡◌, refl, sym, ap, ◌∙◌, subst}
use mathlib.Core.Bool.{Bool, true, false, not}
use mathlib.Core.List.{List}
use Prim.Native.Nat.{ℕ, ◌+◌, ◌-◌, ◌≤◌, ◌<◌, min}
use native.Mathlib.Omega.{arith}
use lib.ListN.{length, take, drop}
use Rattle.std.specs.Prelude.{None, Some, Result, Ok, Err, is_some, ⊤}
use Rattle.laws.specs.Digits.{most_counted}
use Rattle.coding.specs.Hamming.{how_many_corrected}
use Rattle.packet.specs.Addresses.{address_of}
use Rattle.packet.specs.Lines.{framed, line_length, packet_length, packet_of}
use Rattle.packet.proofs.Whole.{whole_line}
use Rattle.receiver.specs.Effects.{taken, unclosed}
use Rattle.receiver.specs.Entries.{Entered, Meets, answer_paper, line_by, line_entered, packet_gives}
use Rattle.receiver.specs.Kinds.{seen}
use Rattle.receiver.specs.Mended.{address_pair, brought, brought_by, examined, mended_in, none_mended, packet_mended, summed}
use Rattle.receiver.specs.Private.{Does, Holds, asked_of, line_asked, taken_of}
use Rattle.receiver.specs.Recordings.{PlaysAs, goes_on, played}
use Rattle.receiver.specs.declared.Mended.{Mended}
use Rattle.receiver.specs.declared.Receiver.{Receiver}
use Rattle.receiver.specs.declared.Refusal.{Refusal}
use Rattle.receiver.specs.declared.Stepped.{Stepped}
use Rattle.receiver.specs.declared.Taken.{Taken}
use Rattle.receiver.specs.declared.effects.Done.{Done}
use Rattle.receiver.specs.declared.kinds.Seen.{Seen}
use Rattle.receiver.specs.declared.kinds.Seen.TheVariants.{Another}
use Rattle.receiver.proofs.Asked.{Follows, asked-refused, done_meets, goes_on_is, handed_back, line-follows, line_fine, meets, refuses}
use Rattle.receiver.proofs.Carried.{taken_selection}
use Rattle.receiver.proofs.Closings.{length-stays}
use Rattle.receiver.proofs.MendedBytes.{Within, brought_is, brought_within, mended-at-most, none_more}
use Rattle.receiver.proofs.Outcomes.{taken-another}
use Rattle.receiver.proofs.Playing.{Turning, first_stops, turning-holds, turning-on, turning-stops, with_answer}

-- what is counted of another's line
pub another_counts : (packet : List ℕ) (shows : Seen) → shows ≡ Another → how_many_corrected (address_pair packet) ≡ mended_in shows packet
unfolding mended_in examined
another_counts packet shows e = ap (λ (s : Seen). mended_in s packet) (sym e)

-- a turn that has come to a line: what holds before it, and which part of the recording the line is
pub record AtLine (recording record₀ : List ℕ) (receiver : Receiver) (lent : List ℕ) (current : Receiver) (at used : ℕ) (so : Mended) (ours : ℕ) (line : List ℕ)
    : Type 0 where
  pub turning : Turning recording record₀ receiver lent current at used so
  pub same : current.selection.magazine ≡ ours
  pub more : at < length recording
  pub sized : length line ≡ min line_length (length recording - at)
  pub cut : line ≡ take line_length (drop at recording)

module _ {recording record₀ : List ℕ} {receiver : Receiver} {lent : List ℕ} {current : Receiver} {at used : ℕ} {so : Mended} {ours : ℕ} {line : List ℕ}
    (a : AtLine recording record₀ receiver lent current at used so ours line) where
  abbrev further : Entered
  further = line_by (framed line) current line lent

  follows : (known : Result ⊤ Refusal) → line_asked line ≡ known → Follows current (packet_of line) lent further known
  follows known e = subst (Follows current (packet_of line) lent further) e (line-follows current lent line)

  pub turn-refused : (given : Refusal) → line_asked line ≡ Err given
      → PlaysAs (played receiver recording record₀) (record { receiver = current; used = used + 1; mended = so; answer = Some (Err given) }) lent
  turn-refused given e =
      turning-stops a.turning a.more (length line) a.sized line a.cut (handed_back current given) lent (follows (Err given) e)
      so (sym (ap (summed so) (refuses given).1 ∙ none_more so)) (refuses given).0

  -- a line with a packet
  module _ (fine : line_asked line ≡ Ok tt) {packet : List ℕ} (is : packet ≡ packet_of line) where
    pub turn-whole : length packet ≡ packet_length
    turn-whole = ap length is ∙ (follows (Ok tt) fine).0

    further-is : packet_gives current packet lent ≡ further
    further-is = ap (λ (p : List ℕ). packet_gives current p lent) is ∙ sym (follows (Ok tt) fine).1

    whole-size : line_length ≤ length line
    whole-size = omega (arith, whole_line line (line_fine line fine))

    module _ {shows : Seen} (saw : shows ≡ seen ours (address_of packet)) where
      pub turn-seen : shows ≡ seen current.selection.magazine (address_of packet)
      turn-seen = saw ∙ ap (λ (m : ℕ). seen m (address_of packet)) (sym a.same)

      mended_is : mended_in shows packet ≡ packet_mended current packet
      unfolding packet_mended
      mended_is = ap (λ (s : Seen). mended_in s packet) turn-seen

      few : {mended : ℕ} → mended ≡ mended_in shows packet → mended ≤ length line
      few counts = omega (arith, counts, mended-at-most packet turn-whole shows, whole-size)

      pub turn_holds : length recording ≤ most_counted → {mended : ℕ} → mended ≡ mended_in shows packet → Holds so mended
      turn_holds fits {mended} counts =
          turning-holds a.turning mended (length line) (few counts) (omega (arith, a.sized, a.more)) fits (omega (arith, whole-size))

      module _ (done : Done) {next-receiver : Receiver} {left : List ℕ} (d : Does (taken current packet lent) done next-receiver left)
          {mended : ℕ} (counts : mended ≡ mended_in shows packet) {next : Mended} (sums : next ≡ summed so (brought done.kind mended)) where
        abbrev after : Stepped
        after = record { receiver = next-receiver; answer = Ok (taken_of done mended) }

        stepped : Meets further after left
        stepped = meets after left further-is (done_meets done d (counts ∙ mended_is))

        brings : brought_by (answer_paper (Ok (taken_of done mended))) ≡ brought done.kind mended
        brings = brought_is done.kind done.count done.closing mended

        sums-are : next ≡ with_answer so (answer_paper (Ok (taken_of done mended)))
        sums-are = sums ∙ ap (summed so) (sym brings)

        goes : {closes : Bool} → is_some done.closing ≡ closes → goes_on (answer_paper (Ok (taken_of done mended))) ≡ not closes
        goes e = goes_on_is done.kind done.count done.closing mended ∙ ap not e

        pub turn-stops : is_some done.closing ≡ true → {given : Taken} → given ≡ taken_of done mended
            → PlaysAs (played receiver recording record₀) (record { receiver = next-receiver; used = used + 1; mended = next; answer = Some (Ok given) }) left
        turn-stops closes g =
            subst (λ (t : Taken).
            PlaysAs (played receiver recording record₀) (record { receiver = next-receiver; used = used + 1; mended = next; answer = Some (Ok t) }) left)
            (sym g) (turning-stops a.turning a.more (length line) a.sized line a.cut after left stepped next sums-are (goes closes))

        pub turn_on : is_some done.closing ≡ false
            → Turning recording record₀ receiver left next-receiver (at + length line) (used + 1) next
        turn_on closes =
            turning-on a.turning a.more (length line) a.sized line a.cut after left stepped next sums-are (goes closes)
            (ap length d.left ∙ length-stays current packet lent a.turning.room)
            (subst (λ (m : Mended). Within m mended) (sym brings) (brought_within done.kind mended)) (few counts)

        pub turn-ours : next-receiver.selection.magazine ≡ ours
        turn-ours = ap (λ (r : Receiver). r.selection.magazine) d.kept ∙ (ap (λ s. s.magazine) (taken_selection current packet lent) ∙ a.same)

      -- a line of another's
      pub turn-another : shows ≡ Another → {mended : ℕ} → mended ≡ mended_in shows packet → {next : Mended} → next ≡ summed so (brought 0 mended)
          → Turning recording record₀ receiver lent current (at + length line) (used + 1) next
      unfolding unclosed
      turn-another e counts sums =
          let done : Done = record { kind = 0; count = 0; closing = None } in
          turn_on done
          (subst (λ o. Does o done current lent) (sym (taken-another current packet lent (sym turn-seen ∙ e)))
          (record { kept = refl; kind = refl; count = refl; word = refl; left = refl }))
          counts sums refl

-- 18 and 12 refuse the first line of a recording
pub recording-refused : (receiver : Receiver) (recording lent : List ℕ) → (length recording ≡ 0 → ⊥) → (given : Refusal) → asked_of receiver (length lent) ≡ Err given
    → PlaysAs (played receiver recording lent) (record { receiver = receiver; used = 1; mended = none_mended; answer = Some (Err given) }) lent
unfolding line_entered
recording-refused receiver recording lent more given e =
    first_stops receiver recording lent more (handed_back receiver given) lent
    (asked-refused receiver lent (line_by (framed (take line_length recording)) receiver (take line_length recording) lent) given e)
    (refuses given).0 (refuses given).1
