-- `listing::refused_at_line` meets its contract: the start of a refusal, the word, the place and the line feed.
use Rattle.std.proofs.Common.{◌++◌, arith, sym, append_assoc}
use Rattle.laws.specs.Text.{line_feed}
use Rattle.texts.specs.Decimal.{decimal}
use Rattle.texts.proofs.Held.{adds_put, adds_then}
use Rattle.listing.specs.Lines.{at_word, refused_text, refused_word}
use Rattle.listing.proofs.Held.{refused_length, written_behind}
use Rattle.listing.proofs.refused_at_line.Goals as goal

pub returns : goal.returns
unfolding refused_text
returns c =
    let a = c.args in
    written_behind (at_word ++ (decimal a.at ++ line_feed)) (refused_word ++ decimal a.number) c.refused_start-line.ensures
    (adds_then (adds_put at_word c.put.ensures) (adds_then (adds_put (decimal a.at) c.put_decimal.ensures) (adds_put line_feed c.put-2.ensures)))
    (sym (append_assoc refused_word (decimal a.number) (at_word ++ (decimal a.at ++ line_feed)))) (refused_length a.at (omega arith) a.number (omega arith))
