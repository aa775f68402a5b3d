-- `listing::refused_line` meets its contract: the start of a refusal and the line feed.
use Rattle.std.proofs.Common.{◌++◌, arith, sym, append_assoc, length-append}
use Rattle.laws.specs.Text.{line_feed}
use Rattle.texts.specs.Decimal.{decimal}
use Rattle.texts.proofs.Decimal.{word_digits}
use Rattle.texts.proofs.Held.{adds_put}
use Rattle.listing.specs.Lines.{refused_text, refused_word}
use Rattle.listing.proofs.Held.{written_behind}
use Rattle.listing.proofs.refused_line.Goals as goal

pub returns : goal.returns
unfolding refused_text
returns c =
    let digits = word_digits c.args.number (omega arith) in
    written_behind line_feed (refused_word ++ decimal c.args.number) c.refused_start-line.ensures (adds_put line_feed c.put.ensures)
    (sym (append_assoc refused_word (decimal c.args.number) line_feed)) (simp length-append (omega arith))
