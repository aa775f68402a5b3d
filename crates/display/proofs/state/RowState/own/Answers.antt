-- `display::RowState::own` meets its contract: a code that does not act at once has no effect at its own cell.
use mathlib.Core.Path.{sym}
use Rattle.display.proofs.Codes.{late-own}
use Rattle.display.proofs.state.RowState.own.Goals as goal

pub returns : goal.returns
returns c = sym (late-own _ _ (sym c.if-acts_at_once.ensures))
