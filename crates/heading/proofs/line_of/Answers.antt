-- `heading::line_of` meets its contract: text by text, each put behind those before it.
use Rattle.std.proofs.Common.{◌∙◌, arith}
use Rattle.texts.proofs.Held.{adds-first, adds_put, adds_then, held_fits, held_text}
use Rattle.tally.specs.Tally.{mended_size, mended_text}
use Rattle.heading.specs.Line.{heading_text, line_size, line_text}
use Rattle.heading.proofs.Words.{line_length_law}
use Rattle.heading.proofs.line_of.Goals as goal

pub returns-clause-value : goal.returns-clause-value
unfolding line_text
returns-clause-value c =
    let a = c.args in
    let words = c.as_bytes.ensures ∙ held_text mended_size (mended_text a.mended) c.mended_text.ensures.value in
    adds-first (line_text a.word a.magazine a.header a.mended) c.new-line.ensures
    (adds_then (adds_put (heading_text a.magazine a.header) (rw c.heading_of.ensures at c.put.ensures))
    (adds_then c.put_word.ensures (adds_put (mended_text a.mended) (rw words at c.put-2.ensures))))
    (line_length_law a.word a.magazine a.header a.mended (omega arith))

pub returns-clause-bytes_len : goal.returns-clause-bytes_len
returns-clause-bytes_len c =
    let a = c.args in
    held_fits line_size (line_text a.word a.magazine a.header a.mended) (returns-clause-value c) (line_length_law a.word a.magazine a.header a.mended (omega arith))
