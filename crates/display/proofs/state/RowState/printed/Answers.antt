-- `display::RowState::printed` meets its contract: a printed code has no effect of its own, so that what it shows, and what is held after it, is all.
use mathlib.Core.Path.{sym}
use Rattle.display.proofs.Codes.{printed-cell, printed-next}
use Rattle.display.proofs.state.RowState.printed.Goals as goal

pub returns-then-gives_pattern : goal.returns-then-gives_pattern
returns-then-gives_pattern c =
    let gives = sym c.if-gives_pattern.ensures in (
      rw (c.cell.ensures, c.mosaic-symbol.ensures, ← printed-cell c.args.self c.args.code c.requires, gives),
      rw (c.passed.ensures, c.mosaic-symbol.ensures, printed-next c.args.self c.args.code c.requires, gives),
    )

pub returns-else-gives_pattern : goal.returns-else-gives_pattern
returns-else-gives_pattern c =
    let gives = sym c.if-gives_pattern.ensures in (
      rw (c.cell-else-gives_pattern.ensures, ← printed-cell c.args.self c.args.code c.requires, gives),
      rw (c.passed-else-gives_pattern.ensures, printed-next c.args.self c.args.code c.requires, gives),
    )
