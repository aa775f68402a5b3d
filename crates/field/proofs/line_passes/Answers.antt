-- `field::line_passes` meets its contract: by what the tests of the offset and of the framing code promise.
use Rattle.field.specs.Search.{line_passes}
use Rattle.field.proofs.line_passes.Goals as goal

pub returns : goal.returns
unfolding line_passes
returns c = rw (c.offset_passes.ensures, c.framing_passes.ensures)
