-- `receive::one_turn` meets its contract: where nothing was read, the part that was there is all that came.
use mathlib.Core.Path.{refl, ◌∙◌}
use native.Mathlib.Omega.{arith}
use Rattle.receive.proofs.Feeding.{none_came}
use Rattle.receive.proofs.one_turn.Goals as goal

pub returns-in_default : goal.returns-in_default
returns-in_default g c =
    let size = c.requires.0.1 in
    let small = c.requires.1 in record {
      comes = none_came c.args.chunk.now c.args.turn.now.part (omega arith) _ c.read_behind.ensures.kept c.args.turn.now.state small;
      carried = ((c.requires.0.0, c.read_behind.auto.buffer ∙ size), small);
      ended = λ _. refl;
    }
