-- `display::RowState::after` meets its contract: a code that acts at once has no effect after its cell.
use mathlib.Core.Path.{sym, ◌∙◌}
use Rattle.display.proofs.Codes.{once_after}
use Rattle.display.proofs.state.RowState.after.Goals as goal

pub returns-then-acts_at_once : goal.returns-then-acts_at_once
returns-then-acts_at_once c = c.passed.ensures ∙ sym (once_after _ _ c.requires (sym c.if-acts_at_once.ensures))
