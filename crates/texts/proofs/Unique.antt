-- Any two answers that meet a public function's contract are equal, and so is what then lies in the room; said of the generated contracts.
use mathlib.Core.Path.{◌∙◌, refl, sym}
use Rattle.laws.specs.Unique.{Unique}
use Rattle.texts.specs.contracts.digit_text as digit-text
use Rattle.texts.proofs.digit_text.Reads as digit-text-reads
use Rattle.texts.specs.contracts.digits_of as digits_of
use Rattle.texts.proofs.digits_of.Reads as digits-of-reads
use Rattle.texts.specs.contracts.put as put
use Rattle.texts.proofs.put.Reads as put_reads
use Rattle.texts.specs.contracts.refused_text as refused-text
use Rattle.texts.proofs.refused_text.Reads as refused-text-reads

pub digits_of_unique : Unique digits_of.ended digits-of-reads.Post
digits_of_unique κs a r r' ws ws' p q = (p.0 ∙ sym q.0, refl)

pub digit_text_unique : Unique digit-text.ended digit-text-reads.Post
digit_text_unique κs a r r' ws ws' p q = (p ∙ sym q, refl)

pub put_unique : Unique put.ended put_reads.Post
put_unique κs a r r' ws ws' p q = (p.ends ∙ sym q.ends, λ i. ((p.laid ∙ sym q.laid) i, (tt, (tt, tt))))

pub refused_text_unique : Unique refused-text.ended refused-text-reads.Post
refused_text_unique κs a r r' ws ws' p q = (p ∙ sym q, refl)
