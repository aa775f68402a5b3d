-- Any two answers that meet a public function's contract are equal, said of the generated contracts.
use mathlib.Core.Path.{◌≡◌, refl, ◌∙◌, sym}
use mathlib.Core.Bool.{cond}
use mathlib.Core.List.{List}
use mathlib.Core.Option as math
use Prim.Native.Nat.{ℕ}
use lib.Dec.{eqb}
use lib.ListN.{length, get_or}
use Rattle.std.specs.Prelude.{Option, Some, None, Result, Ok, Err}
use Rattle.laws.specs.Paper.{Paper}
use Rattle.laws.specs.Unique.{Unique}
use Rattle.laws.proofs.Inverse.{told_apart}
use Rattle.field.specs.Field.{error_paper, any_unit_paper}
use Rattle.field.specs.Search.{found_paper}
use Rattle.field.specs.declared.WholeUnit.{WholeUnit}
use Rattle.field.specs.declared.Found.{Found}
use Rattle.field.specs.declared.FieldError.{FieldError}
use Rattle.field.specs.declared.FieldError.TheVariants.{NoField, PastField, Short, WrongLength}
use Rattle.field.specs.contracts.search as search-of
use Rattle.field.proofs.search.Reads as search-reads
use Rattle.field.specs.contracts.unit_at as unit-at
use Rattle.field.proofs.unit_at.Reads as unit-at-reads

-- an answer about a field, read back from the paper's number and values: by the four refusals, else by the values, of which none is nothing
module _ {A : Type 0} (taken : List ℕ → A) where
  abbrev numbered : math.Option ℕ → List ℕ → Result (Option A) FieldError
  numbered math.none values = Ok None
  numbered (math.some n) values =
      cond (eqb n 14) (Err NoField)
      (cond (eqb n 17) (Err PastField)
      (cond (eqb n 15) (Err (Short (get_or values 0 0)))
      (cond (eqb n 16) (Err (WrongLength (get_or values 0 0))) (Ok (cond (eqb (length values) 0) None (Some (taken values)))))))

  abbrev field_back : Paper → Result (Option A) FieldError
  field_back paper = numbered paper.number paper.values

abbrev unit_back : Paper → Result (Option WholeUnit) FieldError
unit_back = field_back (λ values. record { id = get_or values 0 0; length = get_or values 1 0; after = get_or values 2 0 })

unit_back_law : (u : Result (Option WholeUnit) FieldError) → unit_back (any_unit_paper u) ≡ u
unfolding any_unit_paper error_paper
unit_back_law (Ok (Some unit)) = refl
unit_back_law (Ok None) = refl
unit_back_law (Err NoField) = refl
unit_back_law (Err PastField) = refl
unit_back_law (Err (Short place)) = refl
unit_back_law (Err (WrongLength place)) = refl

pub unit_at_unique : Unique unit-at.ended unit-at-reads.Post
unit_at_unique κs a r r' ws ws' p q = (told_apart any_unit_paper unit_back unit_back_law r r' (p ∙ sym q), refl)

abbrev found_back : Paper → Result (Option Found) FieldError
found_back =
    field_back (λ values. record { packet = get_or values 0 0; parity = get_or values 1 0; offset = get_or values 2 0; after = get_or values 3 0 })

found_back_law : (f : Result (Option Found) FieldError) → found_back (found_paper f) ≡ f
unfolding found_paper error_paper
found_back_law (Ok (Some unit)) = refl
found_back_law (Ok None) = refl
found_back_law (Err NoField) = refl
found_back_law (Err PastField) = refl
found_back_law (Err (Short place)) = refl
found_back_law (Err (WrongLength place)) = refl

pub search_unique : Unique search-of.ended search-reads.Post
search_unique κs a r r' ws ws' p q = (told_apart found_paper found_back found_back_law r r' (p ∙ sym q), refl)
