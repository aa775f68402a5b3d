-- Any two answers that meet a public function's contract are equal, and so is what then lies in the lent record; said of the generated contracts.
use mathlib.Core.Path.{◌≡◌, refl, ◌∙◌, sym, ap, ap₂}
use mathlib.Core.Bool.{cond}
use mathlib.Core.List.{List}
use mathlib.Core.Option.{Option, none, some}
use Prim.Native.Nat.{ℕ}
use lib.Dec.{eqb}
use lib.ListN.{get_or}
use Rattle.std.specs.Prelude as std
use Rattle.std.specs.Prelude.{Result, Ok, Err}
use Rattle.laws.specs.Paper.{Paper}
use Rattle.laws.specs.Unique.{Unique}
use Rattle.laws.proofs.Inverse.{told_apart}
use Rattle.receiver.specs.Entries.{Entered, Meets, answer_paper, closing_number, made_in}
use Rattle.receiver.specs.Selections.{selected_paper}
use Rattle.receiver.specs.declared.Closing.{Closing}
use Rattle.receiver.specs.declared.Closing.TheVariants as closing
use Rattle.receiver.specs.declared.OutOfRange.{OutOfRange}
use Rattle.receiver.specs.declared.Receiver.{Receiver}
use Rattle.receiver.specs.declared.Refusal.{Refusal}
use Rattle.receiver.specs.declared.Refusal.TheVariants as refused
use Rattle.receiver.specs.declared.Stepped.{Stepped}
use Rattle.receiver.specs.declared.Taken.{Taken}
use Rattle.receiver.specs.contracts.Receiver.new as new
use Rattle.receiver.proofs.Receiver.new.Reads as new-reads
use Rattle.receiver.specs.contracts.Receiver.or_zeros as or-zeros
use Rattle.receiver.proofs.Receiver.or_zeros.Reads as or-zeros-reads
use Rattle.receiver.specs.contracts.Refusal.number as number
use Rattle.receiver.proofs.Refusal.number.Reads as number-reads
use Rattle.receiver.specs.contracts.mending.mended_of as mended-of
use Rattle.receiver.proofs.mending.mended_of.Reads as mended-of-reads
use Rattle.receiver.specs.contracts.take_line as take-line
use Rattle.receiver.proofs.take_line.Reads as take-line-reads
use Rattle.receiver.specs.Recordings.{played_paper}
use Rattle.receiver.specs.contracts.take_packet as take-packet
use Rattle.receiver.proofs.take_packet.Reads as take-packet-reads
use Rattle.receiver.specs.contracts.take_recording as take-recording
use Rattle.receiver.proofs.take_recording.Reads as take-recording-reads

-- ---- answers by their numbers and values

abbrev to_closing : ℕ → std.Option Closing
to_closing n = cond (eqb n 0) std.None (cond (eqb n 1) (std.Some closing.Clean) (std.Some closing.Doubt))

abbrev to_line : List ℕ → Taken
to_line values =
    record { kind = get_or values 0 0; count = get_or values 1 0; closing = to_closing (get_or values 2 0); mended = get_or values 3 0 }

abbrev to_refusal : ℕ → Refusal
to_refusal n = cond (eqb n 18) refused.Unlawful (cond (eqb n 12) refused.ShortRecord (cond (eqb n 10) refused.WrongLength refused.WrongFraming))

abbrev to_answer : Option ℕ → List ℕ → Result Taken Refusal
to_answer none values = Err refused.Unlawful
to_answer (some n) values = cond (eqb n 0) (Ok (to_line values)) (Err (to_refusal n))

closing_back : (word : std.Option Closing) → to_closing (closing_number word) ≡ word
unfolding closing_number
closing_back std.None = refl
closing_back (std.Some closing.Clean) = refl
closing_back (std.Some closing.Doubt) = refl

answer_back_law : (a : Result Taken Refusal) → to_answer (answer_paper a).number (answer_paper a).values ≡ a
unfolding answer_paper
answer_back_law (Ok line) =
    λ i. Ok (record { kind = line.kind; count = line.count; closing = closing_back line.closing i; mended = line.mended })
answer_back_law (Err refused.Unlawful) = refl
answer_back_law (Err refused.ShortRecord) = refl
answer_back_law (Err refused.WrongLength) = refl
answer_back_law (Err refused.WrongFraming) = refl

pub answer_is : (a b : Result Taken Refusal) → answer_paper a ≡ answer_paper b → a ≡ b
answer_is = told_apart answer_paper (λ (p : Paper). to_answer p.number p.values) answer_back_law

abbrev to_played : Option Paper → std.Option (Result Taken Refusal)
to_played none = std.None
to_played (some p) = std.Some (to_answer p.number p.values)

played_back : (p : std.Option (Result Taken Refusal)) → to_played (played_paper p) ≡ p
unfolding played_paper
played_back std.None = refl
played_back (std.Some a) = ap std.Some (answer_back_law a)

pub played_is : (a b : std.Option (Result Taken Refusal)) → played_paper a ≡ played_paper b → a ≡ b
played_is = told_apart played_paper to_played played_back

-- a receiver and its refusal by the number and by what is read in them
abbrev to_made : Option ℕ → Receiver → Result Receiver OutOfRange
to_made none receiver = Err (record {})
to_made (some n) receiver = cond (eqb n 0) (Ok receiver) (Err (record {}))

made_back : (r : Result Receiver OutOfRange) → to_made (selected_paper r).number (made_in r) ≡ r
unfolding selected_paper made_in
made_back (Ok receiver) = refl
made_back (Err reason) = refl

made_is : (r s : Result Receiver OutOfRange) → selected_paper r ≡ selected_paper s → made_in r ≡ made_in s → r ≡ s
made_is r s p q = sym (made_back r) ∙ (ap₂ (λ (paper : Paper) (receiver : Receiver). to_made paper.number receiver) p q ∙ made_back s)

-- ---- the claims

stepped_is : (promised : Entered) (s t : Stepped) (left other : List ℕ) → Meets promised s left → Meets promised t other → s ≡ t
stepped_is promised s t left other m n =
    λ i.
    record {
      receiver = (m.kept ∙ sym n.kept) i;
      answer = answer_is s.answer t.answer (m.answered ∙ sym n.answered) i;
    }

pub new_unique : Unique new.ended new-reads.Post
new_unique κs a r r' ws ws' p q = (made_is r r' (p.0 ∙ sym q.0) (p.1 ∙ sym q.1), refl)

pub or_zeros_unique : Unique or-zeros.ended or-zeros-reads.Post
or_zeros_unique κs a r r' ws ws' p q = (p ∙ sym q, refl)

pub number_unique : Unique number.ended number-reads.Post
number_unique κs a r r' ws ws' p q = (p ∙ sym q, refl)

pub mended_of_unique : Unique mended-of.ended mended-of-reads.Post
mended_of_unique κs a r r' ws ws' p q = (p ∙ sym q, refl)

pub take_packet_unique : Unique take-packet.ended take-packet-reads.Post
take_packet_unique κs a r r' ws ws' p q =
    (stepped_is _ r r' _ _ p q, λ i. (tt, (tt, ((p.left ∙ sym q.left) i, tt))))

pub take_line_unique : Unique take-line.ended take-line-reads.Post
take_line_unique κs a r r' ws ws' p q =
    (stepped_is _ r r' _ _ p q, λ i. (tt, (tt, ((p.left ∙ sym q.left) i, tt))))

pub take_recording_unique : Unique take-recording.ended take-recording-reads.Post
take_recording_unique κs a r r' ws ws' p q = (
  λ i.
      record {
        receiver = (p.kept ∙ sym q.kept) i;
        used = (p.counted ∙ sym q.counted) i;
        mended = (p.mended ∙ sym q.mended) i;
        answer = played_is r.answer r'.answer (p.answered ∙ sym q.answered) i;
      },
  λ i. (tt, (tt, ((p.left ∙ sym q.left) i, tt))),
)
