-- `printing::text_of` meets its contract. The loop's invariant: the text has the bytes of the cells so far, and line feeds else (`laid`).
use mathlib.Core.Path.{◌≡◌, sym, ◌∙◌, ap}
use mathlib.Core.List.{List}
use Prim.Native.Nat.{ℕ, ◌+◌, ◌/◌}
use borrow.Author.Rules.{rules}
use lib.ListN.{set}
use Rattle.grid.specs.Grid.{cell_count, columns}
use Rattle.display.specs.Display.{zero_cell}
use Rattle.printing.specs.Printed.{cell_byte}
use Rattle.printing.proofs.Pages.{all_laid, laid, none-laid, one-laid}
use Rattle.printing.proofs.text_of.Goals as goal

pub loop-place-init : goal.loop-place-init
loop-place-init c = sym (none-laid c.args.cells.now)

pub loop-place-preserved : goal.loop-place-preserved
unfolding cell_byte zero_cell
loop-place-preserved c =
    let cells = c.args.cells.now in
    let place = c.loop-place.place in
    let text = ap (λ (text : List ℕ). set text (place + place / columns) c.byte_of.result) c.loop-place.invariant in
    let byte = ap (set (laid cells place) (place + place / columns)) c.byte_of.ensures in
    text ∙ (byte ∙ one-laid cells place)

pub returns : goal.returns
returns c =
    let all : c.loop-place.place ≡ cell_count = search rules in
    c.loop-place.invariant ∙ (ap (laid c.args.cells.now) all ∙ all_laid c.args.cells.now c.told-cells)
