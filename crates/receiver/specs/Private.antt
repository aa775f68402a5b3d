-- For the contracts of private functions: no promise rests on these words.
use Rattle.std.specs.Prelude.{Bool, true, false, cond, ◌&&◌, List, ◌≡◌, ℕ, ◌+◌, ◌*◌, ◌≤◌, ◌<◌, eqb, leb, ltb, get_or, length, Result, Ok, Err, ⊤}
use Rattle.std.specs.Prelude as std
use Rattle.std.proofs.Math.Option.{Option, none, some}
use Rattle.laws.specs.Digits.{most_counted}
use Rattle.grid.specs.Grid.{last_row}
use Rattle.packet.specs.Lines.{framed, packet_length}
use Rattle.packet.specs.declared.LineError.{LineError}
use Rattle.packet.specs.declared.LineError.TheVariants as unframed
use Rattle.page.specs.Lawful.{cells_fit, cells_lawful, highest_mark}
use Rattle.page.specs.Records.{record_length}
use Rattle.page.specs.declared.Cells.{Cells}
use Rattle.receiver.specs.Effects.{Outcome}
use Rattle.receiver.specs.Entries.{Entered, lawful, packet_gives, refusal, refusal_number}
use Rattle.receiver.specs.Kinds.{first_harmless, seen_ours}
use Rattle.receiver.specs.declared.Closing.{Closing}
use Rattle.receiver.specs.declared.Mended.{Mended}
use Rattle.receiver.specs.declared.Receiver.{Receiver}
use Rattle.receiver.specs.declared.Recorded.{Recorded}
use Rattle.receiver.specs.declared.Refusal.{Refusal}
use Rattle.receiver.specs.declared.Refusal.TheVariants as refused
use Rattle.receiver.specs.declared.Stepped.{Stepped}
use Rattle.receiver.specs.declared.Taken.{Taken}
use Rattle.receiver.specs.declared.effects.Done.{Done}
use Rattle.receiver.specs.declared.kinds.Effect.{Effect}
use Rattle.receiver.specs.declared.kinds.Effect.TheVariants.{Nothing, Store, Open, Close, Doubt}
use Rattle.receiver.specs.declared.kinds.Seen.{Seen}
use Rattle.receiver.specs.declared.kinds.Seen.TheVariants.{Another, Unsure}
use Rattle.receiver.specs.declared.recording.Ended.{Ended}

unfoldable pub one : Option ℕ → ℕ
one none = 0
one (some code) = 1

-- what 18 asks of the cells
unfoldable pub both_lawful : Cells → Bool
unfolding cells_fit cells_lawful
both_lawful cells = cells_fit cells && cells_lawful cells

-- 18, then 12, of a receiver and the length of what is lent
unfoldable pub asked_of : Receiver → ℕ → Result ⊤ Refusal
unfolding lawful
asked_of receiver room = cond (lawful receiver) (cond (ltb room record_length) (Err refused.ShortRecord) (Ok tt)) (Err refused.Unlawful)

-- marks of lawful cells
abbrev pub LowMarks : List ℕ → Type 0
LowMarks marks = (k : ℕ) → k < length marks → get_or marks k 0 ≤ highest_mark

-- ---- what a line shows

-- the first message good and ours, with row weight 1, by the second
unfoldable pub seen_with : ℕ → Option ℕ → Seen
unfolding seen_ours
seen_with weight1 none = Unsure (eqb weight1 0)
seen_with weight1 (some second) = seen_ours (weight1 + 2 * second)

-- the first message refused
unfoldable pub seen_without : Option ℕ → Seen
seen_without none = Unsure true
seen_without (some second) = cond (leb first_harmless second) Another (Unsure (eqb second 0))

-- ---- 10 and 11

-- of a packet
unfoldable pub packet_asked : List ℕ → Result ⊤ Refusal
packet_asked packet = cond (eqb (length packet) packet_length) (Ok tt) (Err refused.WrongLength)

-- of a line, by what it is
unfoldable pub refusal_of : LineError → Refusal
refusal_of unframed.WrongLength = refused.WrongLength
refusal_of unframed.WrongFraming = refused.WrongFraming

unfoldable pub asked_by : Result ⊤ LineError → Result ⊤ Refusal
unfolding refusal_of
asked_by (Ok fine) = Ok tt
asked_by (Err error) = Err (refusal_of error)

unfoldable pub line_asked : List ℕ → Result ⊤ Refusal
unfolding asked_by framed
line_asked line = asked_by (framed line)

-- what an entry gives once 18 and 12 were asked, by what 10 and 11 have against the line
unfoldable pub looked_at : Result ⊤ Refusal → Receiver → List ℕ → List ℕ → Entered
unfolding refusal refusal_number
looked_at (Ok fine) receiver packet lent = packet_gives receiver packet lent
looked_at (Err reason) receiver packet lent = refusal (refusal_number reason) receiver lent

-- ---- a line that is taken

-- what it finds: a lawful receiver, and a lent record that is long enough
pub record Ready (receiver : Receiver) (lent : List ℕ) : Type 0 where
  pub right : lawful receiver ≡ true
  pub room : record_length ≤ length lent

abbrev pub done_of : ℕ → ℕ → std.Option Closing → Done
done_of kind count word = record { kind = kind; count = count; closing = word }

-- a row that is to be stored has its cells
abbrev pub Storable : Effect → Type 0
Storable Nothing = Unit {0}
Storable (Store row) = row ≤ last_row
Storable (Open header) = Unit {0}
Storable (Close kind) = Unit {0}
Storable (Doubt could_be_header) = Unit {0}

-- what the code of an effect gives, where the receiver and the lent record are then these
pub record Does (outcome : Outcome) (done : Done) (receiver : Receiver) (lent : List ℕ) : Type 0 where
  pub kept : receiver ≡ outcome.receiver
  pub kind : done.kind ≡ outcome.kind
  pub count : done.count ≡ outcome.count
  pub word : done.closing ≡ outcome.closing
  pub left : lent ≡ outcome.lent

-- a line's answer
abbrev pub taken_of : Done → ℕ → Taken
taken_of done mended = record { kind = done.kind; count = done.count; closing = done.closing; mended = mended }

-- a line's mended bytes can be added
pub record Holds (so : Mended) (mended : ℕ) : Type 0 where
  pub bytes : so.bytes + mended ≤ most_counted
  pub lines : so.lines + 1 ≤ most_counted
  pub own : so.own + mended ≤ most_counted

-- ---- what an entry gives, of the receiver that it altered and what its code says

abbrev pub stepped_of : Receiver → Result Taken Refusal → Stepped
stepped_of receiver answer = record { receiver = receiver; answer = answer }

abbrev pub recorded_of : Receiver → Ended → Recorded
recorded_of receiver ended = record { receiver = receiver; used = ended.used; mended = ended.mended; answer = ended.answer }
