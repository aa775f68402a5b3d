-- `heading::put_english` meets its contract: the words and the value, or nothing.
use Rattle.std.proofs.Common.{◌≡◌, true, false, sym, ◌∙◌}
use Rattle.texts.proofs.Held.{adds_none, adds_put, adds_then}
use Rattle.letters.specs.Said.{stand_in_text}
use Rattle.letters.specs.Sets.{stands_in}
use Rattle.heading.specs.Line.{english_text}
use Rattle.heading.proofs.put_english.Goals as goal

pub returns-then-stands_in : goal.returns-then-stands_in
unfolding english_text
returns-then-stands_in c =
    let is : stands_in c.args.control ≡ true = sym c.stands_in.ensures ∙ c.if-stands_in.true in
    rw is
    (adds_then (adds_put (stand_in_text c.args.control) (rw c.stand_in_text.ensures at c.put.ensures)) (adds_put _ c.put-then-stands_in.ensures))

pub returns-else-stands_in : goal.returns-else-stands_in
unfolding english_text
returns-else-stands_in c =
    let is : stands_in c.args.control ≡ false = sym c.stands_in.ensures ∙ c.if-stands_in.false in
    rw is (adds_none _)
