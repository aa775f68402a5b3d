use mathlib.Core.Path.{◌≡◌}
use mathlib.Core.List.{[]}
use Prim.Native.Nat.{◌*◌, ◌/◌, ◌-◌, min}
use lib.ListN.{length}
use Rattle.packet.specs.Lines.{line_length}
use Rattle.announcing.specs.Private.{standing}
use Rattle.announcing.specs.Said.{fitting, longest}
use Rattle.announcing.proofs.Walking.{Walks}
use Rattle.announcing.proofs.announce.Given as goal

abbrev pub invariant-loop-state : goal.invariant-loop-state
invariant-loop-state l =
    (l.end ≡ min (length l.initial.room / longest * line_length) (length l.lines))
    × Walks (fitting l.initial.room l.lines) l.initial.«record» l.initial.room (standing l.initial.state l.initial.«record» []) l.state l.«record» l.room

abbrev pub decreases-loop-state : goal.decreases-loop-state
decreases-loop-state l = l.end - l.state.used
