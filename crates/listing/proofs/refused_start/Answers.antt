-- `listing::refused_start` meets its contract: the word and the number.
use Rattle.std.proofs.Common.{arith}
use Rattle.texts.proofs.Held.{adds_put, adds_then}
use Rattle.std.proofs.Common.{◌++◌, length-append}
use Rattle.texts.specs.Decimal.{decimal}
use Rattle.texts.proofs.Decimal.{word_digits}
use Rattle.texts.proofs.Held.{adds-first}
use Rattle.listing.specs.Lines.{refused_word}
use Rattle.listing.proofs.refused_start.Goals as goal

pub returns : goal.returns
returns c =
    let digits = word_digits c.args.number (omega arith) in
    adds-first (refused_word ++ decimal c.args.number) c.new-line.ensures (adds_then (adds_put _ c.put.ensures) (adds_put _ c.put_decimal.ensures))
    (omega (arith, length-append refused_word (decimal c.args.number)))
