use lib.ListN.{length}
use mathlib.Core.Path.{◌≡◌}
use Rattle.replay.proofs.runs.take_each.Given as goal

abbrev pub invariant-loop-left : goal.invariant-loop-left
invariant-loop-left g l = length l.initial.«record» ≡ length l.«record»

abbrev pub decreases-loop-left : goal.decreases-loop-left
decreases-loop-left g l = length l.left
