-- `tally::put_count` meets its contract: the number, and behind it the word by whether it is one.
use borrow.Author.Tests.{eq-eqb, ne_eqb}
use Rattle.texts.proofs.Held.{adds_put, adds_then}
use Rattle.tally.specs.Tally.{count_text}
use Rattle.tally.proofs.put_count.Goals as goal

pub returns-then-count-eq1 : goal.returns-then-count-eq1
unfolding count_text
returns-then-count-eq1 g c = rw (eq-eqb c.args.count 1 c.if-count-eq1.true) (adds_then (adds_put _ c.put_decimal.ensures) (adds_put _ c.put.ensures))

pub returns-else-count-eq1 : goal.returns-else-count-eq1
unfolding count_text
returns-else-count-eq1 g c = rw (ne_eqb c.args.count 1 c.if-count-eq1.false) (adds_then (adds_put _ c.put_decimal.ensures) (adds_put _ c.put-else-count-eq1.ensures))
