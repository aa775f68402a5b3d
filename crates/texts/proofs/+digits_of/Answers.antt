-- `texts::digits_of` meets its contract: the only digit of a number, or its last behind those in front. The measure is the number.
use Rattle.std.proofs.Common.{◌∙◌, arith}
use Rattle.texts.specs.Decimal.{decimal, most_digits}
use Rattle.texts.proofs.Decimal.{last_held, one_held, word_digits}
use Rattle.texts.proofs.Held.{held_fits}
use Rattle.texts.proofs.+digits_of.Goals.{else-number-lt10, then-number-lt10}
use Rattle.texts.proofs.+digits_of.Goals as goal

pub returns-clause-value : goal.returns-clause-value
returns-clause-value t c =
    let n = c.args.number in
    elim c.if-number-lt10.branch [
      | then-number-lt10 w ↦ c.put.ensures ∙ one_held n w.if-number-lt10.true (w.digits-is ∙ w.new-digits.ensures)
      | else-number-lt10 w ↦ c.put.ensures ∙ last_held n (omega arith) w.if-number-lt10.false (w.digits-is ∙ w.digits_of-digits.ensures.value)
    ]

pub returns-clause-bytes_len : goal.returns-clause-bytes_len
returns-clause-bytes_len t c = held_fits most_digits (decimal c.args.number) (returns-clause-value t c) (word_digits c.args.number (omega arith))
