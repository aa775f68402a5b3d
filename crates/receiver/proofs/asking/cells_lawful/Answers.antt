use mathlib.Core.Path.{◌∙◌}
use Rattle.receiver.proofs.Asked.{asked_cells}
use Rattle.receiver.proofs.asking.cells_lawful.Goals as goal

pub returns : goal.returns
returns c = c.is_ok.ensures.value ∙ asked_cells _ _ c.check_cells.ensures
