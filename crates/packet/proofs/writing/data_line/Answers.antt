-- `packet::data_line` meets its contract: behind the run-in and the framing code stands the packet.
use mathlib.Core.List.{append-nil}
use Rattle.packet.specs.Writing.{data_line}
use Rattle.packet.proofs.writing.data_line.Goals as goal

pub returns : goal.returns
unfolding data_line
returns c = rw (c.copy_from_slice.ensures.after) (rw (append-nil c.args.packet))
