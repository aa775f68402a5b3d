-- Any two answers that meet the public function's contract are equal, said of the generated contract.
use mathlib.Core.Path.{◌≡◌, refl, ◌∙◌, sym}
use mathlib.Core.Bool.{Bool, true, false}
use mathlib.Core.List.{List}
use Rattle.std.specs.Prelude.{Option, Some, None}
use Rattle.laws.specs.Unique.{Unique}
use Rattle.laws.proofs.Inverse.{told_apart}
use Rattle.choosing.specs.Chosen.{says_rows, wanted_of}
use Rattle.choosing.specs.contracts.rows_asked as rows-asked
use Rattle.choosing.proofs.rows_asked.Reads as rows-asked-reads

-- the answer, by whether it says rows and by the rows that it says
abbrev read : Option (List Bool) → Bool × List Bool
read answer = (says_rows answer, wanted_of answer)

abbrev answer_back : Bool × List Bool → Option (List Bool)
answer_back (true, wanted) = Some wanted
answer_back (false, wanted) = None

answer_back_law : (answer : Option (List Bool)) → answer_back (read answer) ≡ answer
unfolding says_rows wanted_of
answer_back_law (Some wanted) = refl
answer_back_law None = refl

pub rows_asked_unique : Unique rows-asked.ended rows-asked-reads.Post
rows_asked_unique κs a r r' ws ws' p q =
    (told_apart read answer_back answer_back_law r r' (λ i. ((p.0 ∙ sym q.0) i, (p.1 ∙ sym q.1) i)), refl)
