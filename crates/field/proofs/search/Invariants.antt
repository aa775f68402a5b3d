use mathlib.Core.Path.{◌≡◌}
use Prim.Native.Nat.{◌-◌}
use lib.ListN.{length}
use Rattle.field.specs.Search.{searched}
use Rattle.field.proofs.Units.{Begins}
use Rattle.field.proofs.Walk.{answer_from}
use Rattle.field.proofs.search.Given as goal

abbrev pub invariant-loop-answer : goal.invariant-loop-answer
invariant-loop-answer l = (answer_from l.field l.at ≡ searched l.field l.place) × Begins l.field l.at

abbrev pub decreases-loop-answer : goal.decreases-loop-answer
decreases-loop-answer l = length l.field - l.at
