use mathlib.Core.Path.{◌≡◌}
use Prim.Native.Nat.{◌+◌, ◌≤◌}
use lib.ListN.{length}
use Rattle.sending.specs.Sending.{line_count}
use Rattle.sending.proofs.Next.{chosen_after}
use Rattle.sending.proofs.line_count.Given as goal

abbrev pub invariant-loop-yes : goal.invariant-loop-yes
invariant-loop-yes l =
    (l.count ≤ 1 + l.yes-index) × (l.count + length (chosen_after l.fn.wanted l.yes-index) ≡ line_count l.fn.wanted)
