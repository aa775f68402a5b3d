-- Any two answers that meet the public function's contract are equal, said of the generated contract.
use mathlib.Core.Path.{◌∙◌, refl, sym}
use Rattle.laws.specs.Unique.{Unique}
use Rattle.heading.specs.contracts.line_of as Line-of
use Rattle.heading.proofs.line_of.Reads as line-of-reads

pub line_of_unique : Unique Line-of.ended line-of-reads.Post
line_of_unique κs a r r' ws ws' p q = (p.0 ∙ sym q.0, refl)
