-- `display::fill` meets its contract. The loops' invariants: the cells so far are the page's (`Filled`), and of a row alone what is then ahead (`Reached`).
use mathlib.Core.Path.{◌≡◌, refl, sym, ◌∙◌, ap}
use mathlib.Core.Bool.{true}
use mathlib.Core.List.{List}
use Prim.Native.Nat.{ℕ, ◌-◌, ◌<◌, ◌≤◌}
use native.Mathlib.Omega.{arith}
use lib.ListN.{length, get_or}
use Rattle.grid.specs.Grid.{cell_count, columns}
use Rattle.display.specs.Display.{cell_at, next}
use Rattle.display.specs.Pages.{is_page}
use Rattle.display.proofs.Pages.{page_is}
use Rattle.display.proofs.Codes.{control-cell, control-next, printed-passed}
use Rattle.display.proofs.Steps.{low_as, read_control, read_printed}
use Rattle.display.proofs.Walks.{begun, first_place, row_start, cell-under, stored, filled_as, filled_to, next-column, next_row_here, at_end}
use Rattle.display.proofs.fill.Goals as goal
use Rattle.display.proofs.fill.Goals.{
  After-cell,
  then-row+else-loop-place-test,
  else-row+else-cells-test,
  then-printed-test+else-codes-place-ge-FIRST_PRINTED,
  else-printed-test,
}

-- all of the page's codes are there
full : (codes : List ℕ) → is_page codes ≡ true → length codes ≡ cell_count
full codes page = (page_is codes page).0

pub loop-init : goal.loop-init
loop-init c = rw c.first-row.ensures (refl, begun c.args.codes.now c.args.cells.now c.told-cells)

-- ---- a row below a doubled one

pub loop-place-init : goal.loop-place-init
loop-place-init c = filled_to c.loop.invariant.1.1 (first_place c.loop.invariant.1.0)

pub loop-place-preserved : goal.loop-place-preserved
loop-place-preserved c =
    let all = full c.args.codes.now c.requires in
    let known = c.loop.invariant.1.0 in
    let from = c.loop-place.auto.place in
    let before = c.loop-place-test.true in
    let filled = c.loop-place.invariant in
    stored all known c.loop-test.true from before filled (c.under.ensures ∙ cell-under all known c.loop-test.true from before filled c.if-row.true _)

-- ---- a row alone

pub cells-init : goal.cells-init
cells-init c = (omega arith, (omega arith, row_start c.loop.invariant.1.0 c.loop.invariant.1.1 c.start-state.ensures))

pub bounds-codes-place : goal.bounds-codes-place
bounds-codes-place c = omega (arith, full _ c.requires)

pub bounds-codes-place-then-place-row : goal.bounds-codes-place-then-place-row
bounds-codes-place-then-place-row c = omega (arith, full _ c.requires)

-- the cell of a printed code
pub printed-preserved : goal.printed-preserved
printed-preserved c =
    let all = full c.args.codes.now c.requires in
    let from : c.loop.row.end - columns ≤ c.printed.place = omega arith in
    let reached = c.printed.invariant.1.1 in
    let state = c.printed.state in
    let high = c.if-codes-place-ge-FIRST_PRINTED.true in
    let own = sym (read_printed c.loop.row.counts high) in
    let shown = c.printed-step.ensures.0 ∙ ap (cell_at state) own in
    let then = c.passed-state.ensures ∙ (printed-passed state _ high c.printed-step.ensures.1 ∙ ap (next state) own) in
    let there = next-column all c.loop.invariant.1.0 c.loop-test.true from c.printed-test.true reached.filled c.if-row.false state reached.ahead shown then in
    (omega arith, (omega arith, there))

-- the code at which the printed ones end
control : (c : After-cell) → get_or c.args.codes.now c.printed.place 0 < 0x20
control c = elim c.printed-test.branch [
  | then-printed-test+else-codes-place-ge-FIRST_PRINTED w ↦ omega (arith, w.if-codes-place-ge-FIRST_PRINTED.false)
  | else-printed-test w ↦ absurd (let end = w.printed-test.false in let before = c.if-place-row.true in omega arith)
]

pub after-state-requires : goal.after-state-requires
after-state-requires c = rw c.read_as-read.ensures (read_control c.loop.row.counts (control c))

-- the cell of a control code
pub cells-preserved-then-place-row : goal.cells-preserved-then-place-row
cells-preserved-then-place-row c =
    let all = full c.args.codes.now c.requires in
    let from : c.loop.row.end - columns ≤ c.printed.place = omega arith in
    let reached = c.printed.invariant.1.1 in
    let state = c.printed.state in
    let read = c.read_as-read.ensures in
    let low = low_as read (read_control c.loop.row.counts (control (goal.at.cells-preserved-then-place-row c).After-cell)) in
    let shown = control-cell state low c.own-own.ensures c.shown_control.ensures c.cell.ensures ∙ ap (cell_at state) read in
    let then = control-next state low c.own-own.ensures c.after-state.ensures ∙ ap (next state) read in
    let there = next-column all c.loop.invariant.1.0 c.loop-test.true from c.if-place-row.true reached.filled c.if-row.false state reached.ahead shown then in
    (omega arith, (omega arith, there))

-- ---- the next row, after one of either kind

pub next-row-requires : goal.next-row-requires
next-row-requires c =
    let all = full _ c.requires in
    (omega arith, omega arith)

pub loop-preserved : goal.loop-preserved
loop-preserved c =
    let known = c.loop.invariant.1.0 in
    let next = next_row_here known in
    let end = known.end in
    rw c.next-row.ensures (
      next.end,
      (
        next,
        elim c.if-row.branch [
          | then-row+else-loop-place-test w ↦ filled_as (filled_to w.loop-place.invariant (let all = w.loop-place-test.false in omega arith)) w.cells-is
          | else-row+else-cells-test w ↦ filled_as (filled_to w.cells.invariant.1.1.filled (let all = w.cells-test.false in omega arith)) w.cells-is
        ],
      ),
    )

pub returns : goal.returns
returns c = at_end _ (full _ c.requires) c.loop.invariant.1.1 (omega arith)
