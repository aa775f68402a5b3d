use borrow.Author.Tests.{eq-eqb, ne_eqb}
use Rattle.packet.specs.Addresses.{magazine_of}
use Rattle.packet.proofs.magazine_of.Goals as goal

pub returns-then-magazine-eq0 : goal.returns-then-magazine-eq0
unfolding magazine_of
returns-then-magazine-eq0 c = rw (eq-eqb _ _ c.if-magazine-eq0.true)

pub returns-else-magazine-eq0 : goal.returns-else-magazine-eq0
unfolding magazine_of
returns-else-magazine-eq0 c = rw (ne_eqb _ _ c.if-magazine-eq0.false)
