use mathlib.Core.Path.{◌≡◌}
use Prim.Native.Nat.{ℕ, ◌≤◌, ◌<◌}
use lib.ListN.{length, get_or}
use Rattle.receiver.specs.Cells.{age}
use Rattle.receiver.specs.Private.{LowMarks}
use Rattle.receiver.proofs.cells.age_marks.Given as goal

abbrev pub invariant-loop-mark : goal.invariant-loop-mark
invariant-loop-mark l =
    (length l.marks ≡ length l.initial.marks) × LowMarks l.initial.marks
    × ((k : ℕ) → k < l.mark-index → get_or l.marks k 0 ≡ age (get_or l.initial.marks k 0))
    × ((k : ℕ) → l.mark-index ≤ k → get_or l.marks k 0 ≡ get_or l.initial.marks k 0)
