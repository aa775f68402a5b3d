-- Document 01, "The receiver": what each effect of the table does to the receiver and to the lent record, and what the line's answer then says: close,
-- then open, then store.
use Rattle.std.specs.Prelude.{Bool, true, false, cond, not, ◌||◌, List, ◌++◌, ℕ, eqb, drop, Option, Some, None}
use Rattle.packet.specs.Headers.{control_bit, zero_header}
use Rattle.packet.specs.Texts.{text_of}
use Rattle.packet.specs.declared.Header.{Header}
use Rattle.page.specs.Records.{page_of, record_length, record_of}
use Rattle.page.specs.declared.Cells.{Cells}
use Rattle.page.specs.declared.Page.{Page}
use Rattle.receiver.specs.Cells.{blank, aged, stored, row_found, how_many, one_missing}
use Rattle.receiver.specs.Kinds.{effect_due}
use Rattle.receiver.specs.declared.Closing.{Closing}
use Rattle.receiver.specs.declared.Closing.TheVariants as closing
use Rattle.receiver.specs.declared.Receiver.{Receiver}
use Rattle.receiver.specs.declared.kinds.Effect.{Effect}
use Rattle.receiver.specs.declared.kinds.Effect.TheVariants.{Nothing, Store, Open, Close, Doubt}

-- ---- a receiver with another state, and with other cells

abbrev pub with_state : Receiver → Bool → Bool → Header → Receiver
with_state receiver is_open doubt header =
    record { selection = receiver.selection; «open» = is_open; doubt = doubt; header = header; cells = receiver.cells }

abbrev pub with_cells : Receiver → Cells → Receiver
with_cells receiver cells =
    record {
      selection = receiver.selection;
      «open» = receiver.«open»;
      doubt = receiver.doubt;
      header = receiver.header;
      cells = cells;
    }

-- ---- closing

-- the page that is held, clean where there is no doubt
unfoldable pub held : Receiver → Page
held receiver = page_of receiver.selection.magazine receiver.header (not receiver.doubt) receiver.cells

-- after closing, digits, time, control bits and doubt are 0; cells and marks stay
unfoldable pub shut : Receiver → Receiver
unfolding zero_header
shut receiver = with_state receiver false false zero_header

-- closing happens only where a page is open
unfoldable pub closed : Receiver → Receiver
unfolding shut
closed receiver = cond receiver.«open» (shut receiver) receiver

-- "clean" or "doubt"; else "none"
unfoldable pub word_of : Bool → Bool → Option Closing
word_of is_open doubt = cond is_open (cond doubt (Some closing.Doubt) (Some closing.Clean)) None

unfoldable pub closing_word : Receiver → Option Closing
unfolding word_of
closing_word receiver = word_of receiver.«open» receiver.doubt

-- the lent record then holds the page, and what lay past it
unfoldable pub lent_after : Receiver → List ℕ → List ℕ
unfolding held record_of
lent_after receiver lent = cond receiver.«open» (record_of (held receiver) ++ drop record_length lent) lent

-- ---- opening

-- C4
unfoldable pub clears : Header → Bool
unfolding control_bit
clears header = eqb (control_bit header 4) 1

-- with C4 set all cells become space and never; without it fresh becomes older
unfoldable pub opening_cells : Cells → Header → Cells
unfolding blank aged clears
opening_cells cells header = cond (clears header) blank (aged cells)

-- the page starts without doubt
unfoldable pub opened : Receiver → Header → Receiver
unfolding opening_cells
opened receiver header = with_cells (with_state receiver true false header) (opening_cells receiver.cells header)

-- ---- storing, and doubt

-- each odd-parity byte of a row is stored, and another puts the page in doubt
unfoldable pub row_stored : Receiver → ℕ → List ℕ → Receiver
unfolding stored row_found one_missing
row_stored receiver row bytes =
    with_cells
    (with_state receiver receiver.«open» (receiver.doubt || one_missing (row_found row bytes)) receiver.header)
    (stored row bytes receiver.cells)

unfoldable pub doubted : Receiver → Receiver
doubted receiver = with_state receiver receiver.«open» true receiver.header

-- ---- the outcome of each effect

pub record Outcome : Type 0 where
  pub receiver : Receiver
  pub kind : ℕ
  pub count : ℕ
  pub closing : Option Closing
  pub lent : List ℕ

-- nothing is counted, closed or written
unfoldable pub unclosed : Receiver → ℕ → List ℕ → Outcome
unclosed receiver kind lent = record { receiver = receiver; kind = kind; count = 0; closing = None; lent = lent }

-- kind 1: stored
unfoldable pub text_taken : Receiver → ℕ → List ℕ → List ℕ → Outcome
unfolding row_stored how_many row_found
text_taken receiver row bytes lent =
    record {
      receiver = row_stored receiver row bytes;
      kind = 1;
      count = how_many (row_found row bytes);
      closing = None;
      lent = lent;
    }

-- kind 2: close, then open; then the header's characters are stored and counted
unfoldable pub header_taken : Receiver → Header → List ℕ → List ℕ → Outcome
unfolding row_stored opened closed closing_word lent_after how_many row_found
header_taken receiver header bytes lent =
    record {
      receiver = row_stored (opened (closed receiver) header) 0 bytes;
      kind = 2;
      count = how_many (row_found 0 bytes);
      closing = closing_word receiver;
      lent = lent_after receiver lent;
    }

-- kinds 3 and 5: close
unfoldable pub just_closed : Receiver → ℕ → List ℕ → Outcome
unfolding closed closing_word lent_after
just_closed receiver kind lent =
    record { receiver = closed receiver; kind = kind; count = 0; closing = closing_word receiver; lent = lent_after receiver lent }

-- kind 4: with a page open it is put in doubt, and closed too if the line could have been row 0; with none open nothing changes
unfoldable pub unsure_taken : Receiver → Bool → List ℕ → Outcome
unfolding just_closed doubted unclosed
unsure_taken receiver could_be_header lent =
    cond receiver.«open»
    (cond could_be_header (just_closed (doubted receiver) 4 lent) (unclosed (doubted receiver) 4 lent))
    (unclosed receiver 4 lent)

-- with the bytes of the line's columns
unfoldable pub effected : Receiver → Effect → List ℕ → List ℕ → Outcome
unfolding unclosed text_taken header_taken just_closed unsure_taken
effected receiver Nothing bytes lent = unclosed receiver 0 lent
effected receiver (Store row) bytes lent = text_taken receiver row bytes lent
effected receiver (Open header) bytes lent = header_taken receiver header bytes lent
effected receiver (Close kind) bytes lent = just_closed receiver kind lent
effected receiver (Doubt could_be_header) bytes lent = unsure_taken receiver could_be_header lent

-- one packet of 42 bytes, taken by a lawful receiver
unfoldable pub taken : Receiver → List ℕ → List ℕ → Outcome
unfolding effected effect_due text_of
taken receiver packet lent = effected receiver (effect_due receiver packet) (text_of packet).bytes lent
