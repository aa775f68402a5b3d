-- Any two answers that meet a public function's contract are equal, said of the generated contracts.
use mathlib.Core.Path.{◌∙◌, refl, sym}
use Rattle.laws.specs.Unique.{Unique}
use Rattle.tally.specs.contracts.mended_text as mended-text
use Rattle.tally.proofs.mended_text.Reads as mended-text-reads
use Rattle.tally.specs.contracts.share_text as share-text
use Rattle.tally.proofs.share_text.Reads as share-text-reads

pub mended_text_unique : Unique mended-text.ended mended-text-reads.Post
mended_text_unique κs a r r' ws ws' p q = (p.0 ∙ sym q.0, refl)

pub share_text_unique : Unique share-text.ended share-text-reads.Post
share_text_unique κs a r r' ws ws' p q = (p.0 ∙ sym q.0, refl)
