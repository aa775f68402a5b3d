use Rattle.page.proofs.Heads.{head_of_word}
use Rattle.page.proofs.reading.head_in.Goals as goal

pub returns : goal.returns
returns c = head_of_word c.args.word c.magazine_in-magazine.result c.magazine_in-magazine.ensures
