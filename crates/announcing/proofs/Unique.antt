-- Any two answers that meet a public function's contract are equal, and so is what then lies in the lent record and in the room; said of the generated
-- contracts.
use mathlib.Core.Path.{◌∙◌, refl, sym}
use Rattle.laws.specs.Unique.{Unique}
use Rattle.announcing.specs.contracts.announce as announce
use Rattle.announcing.proofs.announce.Reads as announce-reads
use Rattle.announcing.specs.contracts.share_of as share-of
use Rattle.announcing.proofs.share_of.Reads as share-of-reads

pub announce_unique : Unique announce.ended announce-reads.Post
announce_unique κs a r r' ws ws' p q = (
  λ i.
      record {
        receiver = (p.kept ∙ sym q.kept) i;
        watch = (p.watched ∙ sym q.watched) i;
        used = (p.used ∙ sym q.used) i;
        length = (p.counted ∙ sym q.counted) i;
      },
  λ i. (tt, (tt, (tt, ((p.left ∙ sym q.left) i, ((p.written ∙ sym q.written) i, tt))))),
)

pub share_of_unique : Unique share-of.ended share-of-reads.Post
share_of_unique κs a r r' ws ws' p q = (p.0 ∙ sym q.0, refl)
