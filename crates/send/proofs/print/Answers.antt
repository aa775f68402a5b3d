-- `send::print` meets its contract: both lines and closing line are counted, whatever becomes of a write.
use mathlib.Core.Path.{◌≡◌, sym, ap, ◌∙◌}
use Prim.Native.Nat.{◌+◌}
use lib.ListN.{length, length-append}
use Rattle.send.specs.Written.{output}
use Rattle.send.proofs.print.Goals as goal
use Rattle.send.proofs.print.Goals.{Start}
use Rattle.send.proofs.print.Given.{Over}

-- the bytes of both
all_counted : (g : Over) (start : Start g) → length start.args.lines.now + length start.args.closing.now ≡ length (output start.args.«record».now start.args.wanted)
all_counted g start = sym (length-append start.args.lines.now start.args.closing.now) ∙ ap length start.requires.0

pub returns : goal.returns
returns g c = all_counted g (goal.at.returns g c).Start
