-- `display::RowState::own_cell` meets its contract: what is chosen without a branch is the definition's choice, field by field.
use Rattle.display.proofs.Choice.{set_on, set_off}
use Rattle.display.specs.Display.{own_cell}
use Rattle.display.proofs.state.RowState.own_cell.Goals as goal

pub returns : goal.returns
unfolding own_cell
returns c = simp (c.choose-2.ensures, c.blank.ensures, c.choose.ensures, c.choose-lit.ensures, set_on, set_off)
