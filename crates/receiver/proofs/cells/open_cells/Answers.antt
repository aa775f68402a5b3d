use mathlib.Core.Path.{sym, ap, ◌∙◌}
use mathlib.Core.Bool.{Bool, cond}
use Rattle.receiver.specs.Cells.{aged, blank}
use Rattle.receiver.specs.Effects.{opening_cells}
use Rattle.receiver.proofs.cells.open_cells.Goals as goal

pub returns-then-clears_page : goal.returns-then-clears_page
unfolding opening_cells blank
returns-then-clears_page c =
    sym (ap (λ (b : Bool). cond b blank (aged c.args.cells.now)) (sym c.clears_page.ensures ∙ c.if-clears_page.true))
