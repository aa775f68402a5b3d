-- What the open page holds while its lines are fed: its header with C4 set, the header's text, the rows that were sent, and nothing else.
use mathlib.Core.Path.{◌≡◌, refl, sym, ap, subst, ◌∙◌}
use mathlib.Core.Bool.{Bool, true, ◌&&◌}
use mathlib.Core.List.{List}
use Prim.Native.Nat.{ℕ, suc, ◌≤◌, ◌<◌}
use native.Mathlib.Decide.{ℕ_discrete}
use native.Mathlib.Omega.{arith}
use lib.Dec.{T, eqb}
use lib.ListN.{get_or}
use Rattle.laws.proofs.Bools.{passed}
use Rattle.grid.specs.Grid.{columns, last_row}
use Rattle.packet.specs.Lines.{packet_of}
use Rattle.packet.specs.Texts.{header_column}
use Rattle.packet.specs.declared.Header.{Header}
use Rattle.page.specs.Lawful.{fresh, never, space}
use Rattle.page.specs.declared.Cells.{Cells}
use Rattle.page.specs.declared.Page.{Page}
use Rattle.receiver.specs.Effects.{taken}
use Rattle.receiver.specs.Selections.{matches, time_matches}
use Rattle.receiver.specs.declared.Receiver.{Receiver}
use Rattle.receiver.specs.declared.Selection.{Selection}
use Rattle.receiver.specs.declared.When.{When}
use Rattle.receiver.specs.declared.When.TheVariants.{Any, Time}
use Rattle.receiver.proofs.Carried.{Going}
use Rattle.receiver.proofs.Rows.{Stays}
use Rattle.receiver.proofs.Sized.{Sized}
use Rattle.sending.specs.Sending.{header_line, row_characters, row_line, with_c4}
use Rattle.returning.proofs.C4.{sets_c4}
use Rattle.returning.proofs.Given.{Gives, GivesRow}
use Rattle.returning.proofs.Taking.{CellHolds, cell_stays, opened-blank, opened-cell, opened-going, opened-header}
use Rattle.returning.proofs.Taking.{stored-cell, stored-going, stored-header, stored-others}

-- ---- a header with C4 set

-- matches what it matched before
same_time : (when : When) (header : Header) → time_matches when (with_c4 header) ≡ time_matches when header
unfolding time_matches with_c4
same_time Any header = refl
same_time (Time hours_tens hours_units minutes_tens minutes_units) header = refl

still_matches : (selection : Selection) (header : Header) → matches selection (with_c4 header) ≡ matches selection header
unfolding matches with_c4
still_matches selection header =
    ap (λ (b : Bool). eqb header.tens selection.tens && eqb header.units selection.units && b) (same_time selection.when header)

pub header_matches : (selection : Selection) (header : Header) → T (matches selection header) → matches selection (with_c4 header) ≡ true
header_matches selection header matched = still_matches selection header ∙ passed (matches selection header) matched

-- ---- the lines of the page are of the selected magazine

module _ (page : Page) (gives : Gives page) (receiver : Receiver) (ours : receiver.selection.magazine ≡ page.magazine) where
  pub header-given : GivesRow (header_line page) receiver.selection.magazine 0 (row_characters page.cells.characters 0)
  header-given = subst (λ (m : ℕ). GivesRow (header_line page) m 0 (row_characters page.cells.characters 0)) (sym ours) gives.header_row

  pub row-given : (row : ℕ) → 1 ≤ row → row ≤ last_row → GivesRow (row_line page row) receiver.selection.magazine row (row_characters page.cells.characters row)
  row-given row first last = subst (λ (m : ℕ). GivesRow (row_line page row) m row (row_characters page.cells.characters row)) (sym ours) (gives.rows row first last)

-- ---- what is held after so many rows

-- a row with the page's characters, and one with none
abbrev pub RowGiven : Page → Cells → ℕ → Type 0
RowGiven page cells row = (c : ℕ) → c < columns → CellHolds cells row c (get_or (row_characters page.cells.characters row) c 0) fresh

abbrev pub RowBlank : Cells → ℕ → Type 0
RowBlank cells row = (c : ℕ) → c < columns → CellHolds cells row c space never

pub record Holding (page : Page) (rows : List ℕ) (n : ℕ) (receiver : Receiver) : Type 0 where
  pub going : Going receiver
  pub header : receiver.header ≡ with_c4 page.header
  pub text : (c : ℕ) → header_column ≤ c → c < columns → CellHolds receiver.cells 0 c (get_or (row_characters page.cells.characters 0) c 0) fresh
  pub sent : (i : ℕ) → i < n → RowGiven page receiver.cells (get_or rows i 0)
  pub unsent : (row : ℕ) → 1 ≤ row → row ≤ last_row → ((i : ℕ) → i < n → get_or rows i 0 ≡ row → ⊥) → RowBlank receiver.cells row

-- none right after the header
module _ (page : Page) (gives : Gives page) (rows : List ℕ) (receiver : Receiver) (lent : List ℕ)
    (ours : receiver.selection.magazine ≡ page.magazine) (matched : T (matches receiver.selection page.header))
    (sized : Sized receiver.cells) where
  abbrev found : Header
  found = with_c4 page.header

  given : GivesRow (header_line page) receiver.selection.magazine 0 (row_characters page.cells.characters 0)
  given = header-given page gives receiver ours

  matches-found : matches receiver.selection found ≡ true
  matches-found = header_matches receiver.selection page.header matched

  pub holding-first : Holding page rows 0 (taken receiver (packet_of (header_line page)) lent).receiver
  holding-first =
      record {
        going = opened-going receiver (header_line page) lent found (row_characters page.cells.characters 0) given gives.header matches-found;
        header = opened-header receiver (header_line page) lent found (row_characters page.cells.characters 0) given gives.header matches-found;
        text = opened-cell receiver (header_line page) lent found (row_characters page.cells.characters 0) given gives.header matches-found sized;
        sent = λ i h. absurd (omega arith);
        unsent =
            λ row first last none c h.
            opened-blank receiver (header_line page) lent found (row_characters page.cells.characters 0) given gives.header matches-found
            (sets_c4 page.header) row c first last h;
      }

-- and one more after each row
module _ (page : Page) (gives : Gives page) (rows : List ℕ) (n : ℕ) (first : 1 ≤ get_or rows n 0) (last : get_or rows n 0 ≤ last_row)
    (receiver : Receiver) (lent : List ℕ) (ours : receiver.selection.magazine ≡ page.magazine) (sized : Sized receiver.cells)
    (was : Holding page rows n receiver) where
  abbrev row : ℕ
  row = get_or rows n 0

  abbrev line : List ℕ
  line = row_line page row

  abbrev after : Receiver
  after = (taken receiver (packet_of line) lent).receiver

  this-given : GivesRow line receiver.selection.magazine row (row_characters page.cells.characters row)
  this-given = row-given page gives receiver ours row first last

  others-stay : (other : ℕ) → (other ≡ row → ⊥) → (c : ℕ) → c < columns → Stays receiver.cells after.cells other c
  others-stay other differs c h =
      stored-others receiver line lent row (row_characters page.cells.characters row) this-given first last was.going other c differs h

  sent-here : (i : ℕ) → i < suc n → Dec (get_or rows i 0 ≡ row) → RowGiven page after.cells (get_or rows i 0)
  sent-here i h (yes e) =
      subst (RowGiven page after.cells) (sym e)
      (stored-cell receiver line lent row (row_characters page.cells.characters row) this-given first last was.going sized)
  sent-here i h (no differs) =
      let later : i ≡ n → ⊥ = λ e. differs (ap (λ (k : ℕ). get_or rows k 0) e) in
      λ c below.
      cell_stays receiver.cells after.cells (get_or rows i 0) c _ fresh (others-stay (get_or rows i 0) differs c below)
      (was.sent i (omega arith) c below)

  pub holding-next : Holding page rows (suc n) after
  holding-next =
      record {
        going = stored-going receiver line lent row (row_characters page.cells.characters row) this-given first last was.going;
        header = stored-header receiver line lent row (row_characters page.cells.characters row) this-given first last was.going ∙ was.header;
        text =
            λ c low h.
            cell_stays receiver.cells after.cells 0 c _ fresh (others-stay 0 (λ e. omega arith) c h) (was.text c low h);
        sent = λ i h. sent-here i h (ℕ_discrete (get_or rows i 0) row);
        unsent =
            λ other low high none c h.
            cell_stays receiver.cells after.cells other c space never (others-stay other (λ e. none n (omega arith) (sym e)) c h)
            (was.unsent other low high (λ i below. none i (omega arith)) c h);
      }
