use native.Mathlib.Omega.{arith}
use Rattle.std.specs.Prelude.{Ok}
use Rattle.packet.specs.Lines.{packet_part}
use Rattle.packet.proofs.Whole.{answer-packet, answer-refused, answer-whole}
use Rattle.packet.proofs.packet_of.Goals as goal

pub slice_bounds-result-end : goal.slice_bounds-result-end
slice_bounds-result-end c = omega (arith, answer-whole c.args.line.now _ c.framed_line.ensures c.in-Ok.is)

pub returns-in-Ok : goal.returns-in-Ok
unfolding packet_part
returns-in-Ok c = answer-packet c.args.line.now _ c.framed_line.ensures (Ok tt) c.in-Ok.is

pub returns-in-Err : goal.returns-in-Err
returns-in-Err c = answer-refused c.args.line.now _ c.framed_line.ensures _ c.in-Err.is
