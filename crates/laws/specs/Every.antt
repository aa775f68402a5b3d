-- A test tried at every element of a list, and at every pair of elements of two lists that stand at the same place.
use Rattle.std.specs.Prelude.{Bool, true, false, ◌&&◌, List, [], ◌∷◌}

unfoldable pub every : {A : Type 0} → (A → Bool) → List A → Bool
every test [] = true
every test (x ∷ xs) = test x && every test xs

-- two lists of different lengths fail it
unfoldable pub every_pair : {A B : Type 0} → (A → B → Bool) → List A → List B → Bool
every_pair test [] [] = true
every_pair test [] (y ∷ ys) = false
every_pair test (x ∷ xs) [] = false
every_pair test (x ∷ xs) (y ∷ ys) = test x y && every_pair test xs ys
