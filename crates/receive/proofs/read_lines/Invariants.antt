use Rattle.receive.specs.Feeding.{Carried}
use Rattle.receive.proofs.read_lines.Given as goal

abbrev pub invariant-loop : goal.invariant-loop
invariant-loop g l = Carried l.turn l.chunk
