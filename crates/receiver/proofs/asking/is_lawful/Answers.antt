use Rattle.receiver.proofs.Asked.{all_asked}
use Rattle.receiver.proofs.asking.is_lawful.Goals as goal

pub returns : goal.returns
returns c =
    all_asked c.args.receiver.now _ _ _ _ c.in_range.ensures c.state_lawful.ensures c.header_fits.ensures c.cells_lawful.ensures
