-- Any two answers that meet a public function's contract are equal, said of the generated contracts.
use mathlib.Core.Path.{refl, ◌∙◌, sym}
use Rattle.laws.specs.Unique.{Unique}
use Rattle.packing.specs.contracts.packed as packed
use Rattle.packing.proofs.packed.Reads as packed-reads
use Rattle.packing.specs.contracts.unpacked as unpacked
use Rattle.packing.proofs.unpacked.Reads as unpacked-reads
use Rattle.packing.specs.contracts.word_of as word_of
use Rattle.packing.proofs.word_of.Reads as word-of-reads

pub packed_unique : Unique packed.ended packed-reads.Post
packed_unique κs a r r' ws ws' p q = (p ∙ sym q, refl)

pub unpacked_unique : Unique unpacked.ended unpacked-reads.Post
unpacked_unique κs a r r' ws ws' p q = (p ∙ sym q, refl)

pub word_of_unique : Unique word_of.ended word-of-reads.Post
word_of_unique κs a r r' ws ws' p q = (p ∙ sym q, refl)
