use Rattle.receiver.specs.Effects.{doubted}
use Rattle.receiver.proofs.Doing.{unsure_closes}
use Rattle.receiver.proofs.effects.unsure_line.Goals as goal

pub returns-then-could_be_header : goal.returns-then-could_be_header
unfolding doubted
returns-then-could_be_header c =
    unsure_closes c.args.receiver.now _ _ c.if-not-receiver.false c.if-could_be_header.true c.just_close.ensures
