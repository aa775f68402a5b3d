use Prim.Native.Nat.{◌*◌, ◌-◌, ◌≤◌}
use lib.ListN.{length}
use Rattle.listing.specs.Held.{room}
use Rattle.listing.proofs.Listing.{Sent}
use Rattle.units.proofs.list.Given as goal

abbrev pub invariant-loop-line : goal.invariant-loop-line
invariant-loop-line g l = Sent l.field l.count l.place × (l.count ≤ room * l.place)

abbrev pub decreases-loop-line : goal.decreases-loop-line
decreases-loop-line g l = length l.field - l.place
