-- The page that is held when all lines were fed is the one that is to come back.
use mathlib.Core.Path.{◌≡◌, refl, sym, ap, subst, ◌∙◌}
use mathlib.Core.Bool.{Bool, true, false, not, false≢true}
use mathlib.Core.List.{List}
use Prim.Native.Nat.{ℕ, ◌-◌, ◌≤◌, ◌<◌}
use native.Mathlib.Omega.{arith}
use lib.Dec.{T}
use lib.ListN.{drop, get_or, get_or-replicate, length, length-replicate, replicate}
use Rattle.laws.proofs.Lists.{drop_replicate}
use Rattle.grid.specs.Grid.{columns, last_row}
use Rattle.packet.specs.Texts.{header_column}
use Rattle.packet.specs.Headers.{control_bit}
use Rattle.packet.specs.declared.Header.{Header}
use Rattle.page.specs.Lawful.{fresh, never, space}
use Rattle.page.specs.declared.Page.{Page}
use Rattle.receiver.specs.Effects.{held}
use Rattle.receiver.specs.Entries.{lawful}
use Rattle.receiver.specs.declared.Receiver.{Receiver}
use Rattle.receiver.proofs.Sized.{Sized}
use Rattle.sending.specs.Sending.{chosen_rows, header_line, row_characters, row_line}
use Rattle.sending.proofs.Rows.{chosen-yes, yes_chosen}
use Rattle.demands.specs.Runs.{row_part}
use Rattle.demands.proofs.Closings.{header_columns, row-is-list}
use Rattle.returning.specs.Returned.{Returned, RowReturned, c5_to_c14, number_and_time}
use Rattle.returning.proofs.C4.{c4_set, later_kept, numbers_kept}
use Rattle.returning.proofs.Given.{Gives}
use Rattle.returning.proofs.Holding.{Holding, RowBlank, RowGiven}
use Rattle.returning.proofs.Taking.{CellHolds, length-given}

-- ---- a row of the page, from its cells

row_characters_law : (page : Page) (row : ℕ) → row_characters page.cells.characters row ≡ row_part row page.cells.characters
unfolding row_part
row_characters_law page row = refl

module _ (page : Page) (receiver : Receiver) (sized : Sized receiver.cells) (row : ℕ) (high : row ≤ last_row) where
  -- from a column on it has the page's characters, fresh
  module _ (whole : length (row_characters page.cells.characters row) ≡ columns) (from : ℕ)
      (each : (c : ℕ) → from ≤ c → c < columns → CellHolds receiver.cells row c (get_or (row_characters page.cells.characters row) c 0) fresh) where
    part-given : drop from (row_part row receiver.cells.characters) ≡ drop from (row_part row page.cells.characters)
    part-given =
        row-is-list row high receiver.cells.characters sized.0 from (row_characters page.cells.characters row) whole (λ c low h. (each c low h).0)
        ∙ ap (drop from) (row_characters_law page row)

    part-fresh : drop from (row_part row receiver.cells.marks) ≡ replicate (columns - from) fresh
    part-fresh =
        row-is-list row high receiver.cells.marks sized.1 from (replicate columns fresh) (length-replicate columns fresh)
        (λ c low h. (each c low h).1 ∙ sym (get_or-replicate columns c fresh 0 h))
        ∙ drop_replicate from columns fresh

  row-given : length (row_characters page.cells.characters row) ≡ columns → RowGiven page receiver.cells row → RowReturned page (held receiver) row true
  unfolding held
  row-given whole each = (part-given whole 0 (λ c low. each c), part-fresh whole 0 (λ c low. each c))

  row-blank : RowBlank receiver.cells row → RowReturned page (held receiver) row false
  unfolding held
  row-blank each = (
    row-is-list row high receiver.cells.characters sized.0 0 (replicate columns space) (length-replicate columns space)
        (λ c low h. (each c h).0 ∙ sym (get_or-replicate columns c space 0 h)),
    row-is-list row high receiver.cells.marks sized.1 0 (replicate columns never) (length-replicate columns never)
        (λ c low h. (each c h).1 ∙ sym (get_or-replicate columns c never 0 h)),
  )

-- ---- the page that is held after the last of the chosen rows

module _ (page : Page) (gives : Gives page) (wanted : List Bool) (receiver : Receiver) (is : T (lawful receiver)) (sized : Sized receiver.cells)
    (ours : receiver.selection.magazine ≡ page.magazine) (holding : Holding page (chosen_rows wanted) (length (chosen_rows wanted)) receiver) where
  header-whole : length (row_characters page.cells.characters 0) ≡ columns
  header-whole = length-given (header_line page) page.magazine 0 (row_characters page.cells.characters 0) gives.header_row

  module _ (row : ℕ) (low : 1 ≤ row) (high : row ≤ last_row) where
    whole : length (row_characters page.cells.characters row) ≡ columns
    whole = length-given (row_line page row) page.magazine row (row_characters page.cells.characters row) (gives.rows row low high)

    -- a row with a yes was sent, and any other was not
    row_by : (answer : Bool) → get_or wanted (row - 1) false ≡ answer → RowReturned page (held receiver) row answer
    row_by true e =
        let (i, below, same) = yes_chosen wanted row low e in
        row-given page receiver sized row high whole (subst (RowGiven page receiver.cells) same (holding.sent i below))
    row_by false e =
        row-blank page receiver sized row high
        (holding.unsent row low high
        (λ i below same.
        false≢true (sym e ∙ (ap (λ (n : ℕ). get_or wanted (n - 1) false) (sym same) ∙ chosen-yes wanted i below))))

  pub held-returned : Returned page wanted (held receiver)
  unfolding held
  held-returned =
      record {
        magazine = ours;
        same_number_and_time = ap number_and_time holding.header ∙ numbers_kept page.header;
        c4 = ap (λ (h : Header). control_bit h 4) holding.header ∙ c4_set page.header;
        later_control = ap c5_to_c14 holding.header ∙ later_kept page.header;
        header = holding.header;
        clean = ap not holding.going.1;
        header_text = part-given page receiver sized 0 (omega arith) header-whole header_column holding.text;
        header_fresh = part-fresh page receiver sized 0 (omega arith) header-whole header_column holding.text;
        header_never = header_columns receiver is sized;
        rows = λ row low high. row_by row low high (get_or wanted (row - 1) false) refl;
      }
