use borrow.Author.Tests.{eq-eqb, ne_eqb}
use Rattle.page.specs.Records.{magazine_from}
use Rattle.page.proofs.reading.magazine_in.Goals as goal

pub returns-then-value-eq0 : goal.returns-then-value-eq0
unfolding magazine_from
returns-then-value-eq0 c = rw (eq-eqb _ _ c.if-value-eq0.true)

pub returns-else-value-eq0 : goal.returns-else-value-eq0
unfolding magazine_from
returns-else-value-eq0 c = rw (ne_eqb _ _ c.if-value-eq0.false)
