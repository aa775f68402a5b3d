-- `heading::put_word` meets its contract: by the word.
use Rattle.std.proofs.Common.{rules, ◌≡◌, Some}
use Rattle.texts.proofs.Held.{adds_none, adds_put, adds_then}
use Rattle.watch.specs.declared.Word.TheVariants as word
use Rattle.heading.specs.Line.{word_text}
use Rattle.heading.proofs.put_word.Goals as goal

pub returns-in-None : goal.returns-in-None
unfolding word_text
returns-in-None c = rw c.in-None.is (adds_none _)

pub returns-in-Some-Clean : goal.returns-in-Some-Clean
unfolding word_text
returns-in-Some-Clean c =
    let is : c.args.word ≡ Some word.Clean = search rules in
    rw is (adds_then (adds_put _ c.put.ensures) c.put_english.ensures)

pub returns-in-Some-Doubt : goal.returns-in-Some-Doubt
unfolding word_text
returns-in-Some-Doubt c =
    let is : c.args.word ≡ Some word.Doubt = search rules in
    rw is (adds_put _ c.put-in-Some-Doubt.ensures)

pub returns-in-Some-Missing : goal.returns-in-Some-Missing
unfolding word_text
returns-in-Some-Missing c =
    let is : c.args.word ≡ Some word.Missing = search rules in
    rw is (adds_put _ c.put-in-Some-Missing.ensures)
