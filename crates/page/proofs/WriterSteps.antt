-- What the writer's steps come to: its answer, and the record in the lent buffer.
use mathlib.Core.Path.{◌≡◌, ◌∙◌, ap, sym}
use mathlib.Core.List.{List, ◌++◌}
use Prim.Native.Nat.{ℕ, ◌≤◌}
use borrow.Author.Tests.{le-leb}
use lib.ListN.{length, take, drop}
use lib.Seq.{take_at}
use native.Mathlib.Omega.{arith}
use Rattle.std.proofs.lemmas.Slice.{drop-append-drop}
use Rattle.std.specs.Prelude.{Result, ⊤}
use Rattle.grid.specs.Grid.{cell_count, rows}
use Rattle.packing.specs.Cells.{cell_bytes}
use Rattle.page.specs.Private.{cells_length, cells_stored, head_bytes, parts_answer}
use Rattle.page.specs.Records.{head_length, record_length, record_of, row_code}
use Rattle.page.specs.Writing.{buffer_after, write_answer, write_paper, written}
use Rattle.page.specs.declared.Page.{Page}
use Rattle.page.specs.declared.WriteError.{WriteError}
use Rattle.page.proofs.Forms.{length_head, record-split}

-- the record is its head, and then its cells
record_is : (page : Page) → record_of page
    ≡ head_bytes page.magazine page.header page.clean (row_code rows) ++ cell_bytes cell_count cells_length page.cells.marks page.cells.characters
unfolding record_of
record_is page = record-split rows page

module _ (page : Page) (lent : List ℕ) where
  pub long-answer : record_length ≤ length lent → write_answer page lent ≡ parts_answer page.magazine page.header page.cells
  unfolding write_answer parts_answer
  long-answer h = rw (le-leb _ _ h)

  -- an answer, and what it leaves in the buffer
  pub answered : (answer : Result ⊤ WriteError) → write_answer page lent ≡ answer
      → (write_paper answer ≡ write_paper (write_answer page lent)) × (buffer_after answer page lent ≡ written page lent)
  unfolding written
  answered answer e = (ap write_paper (sym e), ap (λ (a : Result ⊤ WriteError). buffer_after a page lent) (sym e))

  -- the steps of storing: the head, and then the cells
  pub record-stored : (head first last : List ℕ) → head ≡ head_bytes page.magazine page.header page.clean (row_code rows)
      → first ≡ head ++ drop head_length lent
      → last ≡ cells_stored page.cells.marks page.cells.characters first
      → last ≡ record_of page ++ drop record_length lent
  record-stored head first last e f g =
      let cells = cell_bytes cell_count cells_length page.cells.marks page.cells.characters in
      let size : length head ≡ head_length = ap length e ∙ length_head page.magazine page.header page.clean (row_code rows) in
      let kept : drop record_length first ≡ drop record_length lent =
      ap (drop record_length) f ∙ drop-append-drop head_length lent head record_length (omega arith) size in
      let taken : take head_length first ≡ head = ap (take head_length) f ∙ take_at head (drop head_length lent) head_length size in
      g ∙ ((λ i. (taken ∙ e) i ++ cells ++ kept i) ∙ ap (λ (xs : List ℕ). xs ++ drop record_length lent) (sym (record_is page)))
