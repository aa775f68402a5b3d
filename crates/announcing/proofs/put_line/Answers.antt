-- `announcing::put_line` meets its contract: the line that is held is put, and there is room for it.
use Rattle.std.proofs.Common.{Some, ap, ◌∙◌, arith, length}
use Rattle.texts.proofs.Held.{held_text}
use Rattle.texts.proofs.Putting.{as_text}
use Rattle.heading.specs.Line.{line_size}
use Rattle.heading.proofs.Words.{line_length_law}
use Rattle.announcing.specs.Told.{page_line}
use Rattle.announcing.proofs.put_line.Goals as goal

pub put-requires : goal.put-requires
put-requires c =
    let a = c.args in
    let size = ap length (c.as_bytes.ensures ∙ held_text line_size (page_line a.word a.mended a.page.now) c.line_of-line.ensures.value) in
    let short = line_length_law (Some a.word) a.page.now.magazine a.page.now.header a.mended (omega arith) in
    omega (arith, c.requires)

pub returns : goal.returns
returns c =
    let a = c.args in
    as_text c.put.ensures (c.as_bytes.ensures ∙ held_text line_size (page_line a.word a.mended a.page.now) c.line_of-line.ensures.value)
