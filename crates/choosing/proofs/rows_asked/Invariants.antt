use Prim.Native.Nat.{◌≤◌}
use lib.ListN.{length}
use Rattle.choosing.specs.Chosen.{spans_in}
use Rattle.choosing.proofs.Rows.{Gathered}
use Rattle.choosing.proofs.rows_asked.Given as goal

abbrev pub invariant-loop-span : goal.invariant-loop-span
invariant-loop-span l = (length l.rest ≤ length l.argument) × Gathered l.argument l.wanted (spans_in l.rest)

abbrev pub decreases-loop-span : goal.decreases-loop-span
decreases-loop-span l = length l.rest
