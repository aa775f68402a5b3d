use mathlib.Core.Path.{sym}
use Rattle.page.proofs.ReaderSteps.{rows_new, rows-old}
use Rattle.page.proofs.reading.rows_in.Goals as goal

pub returns-then-record-eq-OLD_LENGTH : goal.returns-then-record-eq-OLD_LENGTH
returns-then-record-eq-OLD_LENGTH c = sym (rows-old _ c.if-record-eq-OLD_LENGTH.true)

pub returns-else-record-eq-OLD_LENGTH : goal.returns-else-record-eq-OLD_LENGTH
returns-else-record-eq-OLD_LENGTH c = sym (rows_new _ c.if-record-eq-OLD_LENGTH.false)
