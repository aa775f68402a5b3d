use mathlib.Core.Path.{◌≡◌}
use Rattle.packet.specs.Lines.{line_length}
use Rattle.receiver.proofs.Cut.{Left, so_far}
use Rattle.receiver.proofs.Playing.{Turning}
use Rattle.receiver.proofs.recording.play.Given as goal

abbrev pub invariant-loop-line : goal.invariant-loop-line
invariant-loop-line l =
    Turning l.recording l.initial.«record» l.initial.receiver l.«record» l.receiver (so_far l.recording l.line-iterator.rest.now) l.used l.mended
    × (l.receiver.selection.magazine ≡ l.ours) × Left l.recording l.line-iterator.rest.now × (l.line-iterator.size ≡ line_length)
