use borrow.Author.Tests.{eq-eqb, ne_eqb}
use Rattle.page.proofs.reading.row_code.Goals as goal

pub returns-then-count-eq-OLD_ROWS : goal.returns-then-count-eq-OLD_ROWS
returns-then-count-eq-OLD_ROWS c = rw (eq-eqb _ _ c.if-count-eq-OLD_ROWS.true)

pub returns-else-count-eq-OLD_ROWS : goal.returns-else-count-eq-OLD_ROWS
returns-else-count-eq-OLD_ROWS c = rw (ne_eqb _ _ c.if-count-eq-OLD_ROWS.false)
