-- Any two answers that meet a public function's contract are equal, said of the generated contracts.
use mathlib.Core.Path.{◌≡◌, refl, ◌∙◌, sym}
use mathlib.Core.Option.{Option, none, some}
use Rattle.std.specs.Prelude as code
use Rattle.laws.specs.Unique.{Unique}
use Rattle.laws.proofs.Inverse.{told_apart}
use Rattle.receiver.specs.declared.Selection.{Selection}
use Rattle.asking.specs.Asked.{asked_for}
use Rattle.asking.specs.contracts.page_asked as page-asked
use Rattle.asking.proofs.page_asked.Reads as page-asked-reads

abbrev to_asked : Option Selection → code.Option Selection
to_asked none = code.None
to_asked (some selection) = code.Some selection

asked_back : (a : code.Option Selection) → to_asked (asked_for a) ≡ a
unfolding asked_for
asked_back (code.Some selection) = refl
asked_back code.None = refl

pub page_asked_unique : Unique page-asked.ended page-asked-reads.Post
page_asked_unique κs a r r' ws ws' p q = (told_apart asked_for to_asked asked_back r r' (p ∙ sym q), refl)
