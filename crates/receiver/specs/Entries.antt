-- Document 01, "Numbers of refusal": the entries, a line in the order 18, 12, 10, 11, and a packet in the order 18, 12, 10. Refused, the receiver
-- handed in comes back and the lent record is untouched. And the constructor, 13.
use Rattle.std.specs.Prelude.{Bool, false, cond, not, ◌&&◌, List, [], ◌∷◌, ◌≡◌, ℕ, eqb, ltb, length, Option, Some, None, Result, Ok, Err, ⊤}
use Rattle.laws.specs.Paper.{Paper, accepted, refused_by}
use Rattle.laws.specs.Every.{every}
use Rattle.packet.specs.Headers.{header_values, zero_header}
use Rattle.packet.specs.Lines.{framed, packet_of, packet_length}
use Rattle.packet.specs.declared.LineError.{LineError}
use Rattle.packet.specs.declared.LineError.TheVariants as unframed
use Rattle.packet.specs.declared.Header.{Header}
use Rattle.page.specs.Lawful.{header_fits, cells_fit, cells_lawful}
use Rattle.page.specs.Records.{record_length, zero_cells}
use Rattle.receiver.specs.Cells.{blank}
use Rattle.receiver.specs.Effects.{Outcome, taken}
use Rattle.receiver.specs.Mended.{packet_mended}
use Rattle.receiver.specs.Selections.{in_range, matches}
use Rattle.receiver.specs.declared.Closing.{Closing}
use Rattle.receiver.specs.declared.Closing.TheVariants as closing
use Rattle.receiver.specs.declared.OutOfRange.{OutOfRange}
use Rattle.receiver.specs.declared.Receiver.{Receiver}
use Rattle.receiver.specs.declared.Refusal.{Refusal}
use Rattle.receiver.specs.declared.Refusal.TheVariants as refused
use Rattle.receiver.specs.declared.Selection.{Selection}
use Rattle.receiver.specs.declared.Stepped.{Stepped}
use Rattle.receiver.specs.declared.Taken.{Taken}
use Rattle.receiver.specs.declared.When.TheVariants.{Any}

-- ---- the numbers and values of the answers

-- 0 none, 1 clean, 2 doubt
unfoldable pub closing_number : Option Closing → ℕ
closing_number None = 0
closing_number (Some closing.Clean) = 1
closing_number (Some closing.Doubt) = 2

-- the kind, the count of bytes written and the closing word; and, by document 02, request 3, how many of the Hamming bytes examined were mended
unfoldable pub line_values : ℕ → ℕ → Option Closing → ℕ → List ℕ
unfolding closing_number
line_values kind count word mended = kind ∷ count ∷ closing_number word ∷ mended ∷ []

-- a refused line answers kind 0, count 0 and closing none, and none mended
unfoldable pub refused_line : ℕ → Paper
unfolding refused_by line_values
refused_line number = refused_by number (line_values 0 0 None 0)

unfoldable pub refusal_number : Refusal → ℕ
refusal_number refused.Unlawful = 18
refusal_number refused.ShortRecord = 12
refusal_number refused.WrongLength = 10
refusal_number refused.WrongFraming = 11

unfoldable pub answer_paper : Result Taken Refusal → Paper
unfolding accepted line_values refused_line refusal_number
answer_paper (Ok line) = accepted (line_values line.kind line.count line.closing line.mended)
answer_paper (Err reason) = refused_line (refusal_number reason)

-- ---- 18

-- with none open digits, time and control bits are 0
unfoldable pub is_zero : Header → Bool
unfolding every header_values
is_zero header = every (eqb 0) (header_values header)

-- an open page's header matches the selection; with none open there is no doubt and the header is 0
unfoldable pub state_of : Selection → Bool → Bool → Header → Bool
unfolding matches is_zero
state_of selection is_open doubt header = cond is_open (matches selection header) (not doubt && is_zero header)

unfoldable pub state_lawful : Receiver → Bool
unfolding state_of
state_lawful receiver = state_of receiver.selection receiver.«open» receiver.doubt receiver.header

-- whose selection does not fail 13, whose state is as above, and whose parts do not fail 24 or 23
unfoldable pub lawful : Receiver → Bool
unfolding in_range state_lawful header_fits cells_fit cells_lawful
lawful receiver =
    in_range receiver.selection && state_lawful receiver && header_fits receiver.header
    && cells_fit receiver.cells && cells_lawful receiver.cells

-- ---- the entries

-- what an entry gives: its answer, the receiver, and the lent record's later content
pub record Entered : Type 0 where
  pub answer : Paper
  pub receiver : Receiver
  pub lent : List ℕ

unfoldable pub refusal : ℕ → Receiver → List ℕ → Entered
unfolding refused_line
refusal number receiver lent = record { answer = refused_line number; receiver = receiver; lent = lent }

unfoldable pub entered : Outcome → ℕ → Entered
unfolding accepted line_values
entered outcome mended =
    record {
      answer = accepted (line_values outcome.kind outcome.count outcome.closing mended);
      receiver = outcome.receiver;
      lent = outcome.lent;
    }

-- a packet of 42 bytes: what it did, and how many of its bytes were mended
abbrev pub packet_gives : Receiver → List ℕ → List ℕ → Entered
packet_gives receiver packet lent = entered (taken receiver packet lent) (packet_mended receiver packet)

-- 10: a packet that is not 42 bytes
unfoldable pub packet_taken : Receiver → List ℕ → List ℕ → Entered
unfolding entered taken packet_mended refusal
packet_taken receiver packet lent =
    cond (eqb (length packet) packet_length) (packet_gives receiver packet lent) (refusal 10 receiver lent)

-- 10 and 11, by what the line is
unfoldable pub line_by : Result ⊤ LineError → Receiver → List ℕ → List ℕ → Entered
unfolding packet_taken packet_of refusal
line_by (Ok fine) receiver line lent = packet_taken receiver (packet_of line) lent
line_by (Err unframed.WrongLength) receiver line lent = refusal 10 receiver lent
line_by (Err unframed.WrongFraming) receiver line lent = refusal 11 receiver lent

-- 18, then 12, and then what follows
unfoldable pub asked : Receiver → List ℕ → Entered → Entered
unfolding lawful refusal
asked receiver lent further =
    cond (lawful receiver) (cond (ltb (length lent) record_length) (refusal 12 receiver lent) further) (refusal 18 receiver lent)

unfoldable pub packet_entered : Receiver → List ℕ → List ℕ → Entered
unfolding asked packet_taken
packet_entered receiver packet lent = asked receiver lent (packet_taken receiver packet lent)

unfoldable pub line_entered : Receiver → List ℕ → List ℕ → Entered
unfolding asked line_by framed
line_entered receiver line lent = asked receiver lent (line_by (framed line) receiver line lent)

-- what the code of an entry gives, where it was lent a record that then holds `lent`
pub record Meets (promised : Entered) (stepped : Stepped) (lent : List ℕ) : Type 0 where
  pub answered : answer_paper stepped.answer ≡ promised.answer
  pub kept : stepped.receiver ≡ promised.receiver
  pub left : lent ≡ promised.lent

-- ---- the constructor

-- spaces marked never and no page open; without doubt, and digits, time and control bits 0
unfoldable pub new_receiver : Selection → Receiver
unfolding zero_header blank
new_receiver selection =
    record { selection = selection; «open» = false; doubt = false; header = zero_header; cells = blank }

unfoldable pub zero_selection : Selection
zero_selection = record { magazine = 0; tens = 0; units = 0; when = Any }

-- all zeros
unfoldable pub zero_receiver : Receiver
unfolding zero_selection zero_header zero_cells
zero_receiver =
    record { selection = zero_selection; «open» = false; doubt = false; header = zero_header; cells = zero_cells }

-- 13: selection out of range, with zeros beside it
unfoldable pub made : Selection → Receiver
unfolding in_range new_receiver zero_receiver
made selection = cond (in_range selection) (new_receiver selection) zero_receiver

unfoldable pub made_answer : Selection → Paper
unfolding in_range accepted refused_by
made_answer selection = cond (in_range selection) (accepted []) (refused_by 13 [])

-- the receiver that the code gives, and zeros where it refuses
unfoldable pub made_in : Result Receiver OutOfRange → Receiver
unfolding zero_receiver
made_in (Ok receiver) = receiver
made_in (Err reason) = zero_receiver
