-- `announcing::put` meets its contract: the text fits.
use borrow.Author.Rules.{rules}
use Rattle.texts.proofs.Putting.{put-fits}
use Rattle.announcing.proofs.put.Goals as goal

pub returns : goal.returns
returns c = put-fits (search rules) c.put.ensures
