-- From a test over a whole list, or two, to each element.
use mathlib.Core.Path.{◌≡◌, ◌∙◌, ap, sym}
use mathlib.Core.Bool.{Bool, ◌&&◌, and_assoc, and-true}
use mathlib.Core.List.{List, [], ◌∷◌}
use Prim.Native.Nat.{ℕ, zero, suc, ◌<◌}
use native.Mathlib.Nat.{le_of_suc-le-suc, not-suc-le-zero}
use lib.Dec.{T}
use lib.ListN.{length, get_or, take}
use Rattle.laws.specs.Every.{every, every_pair}
use Rattle.laws.proofs.Bools.{both_left, both_right}

pub every_at : {A : Type 0} (test : A → Bool) (xs : List A) → T (every test xs) → (k : ℕ) (d : A) → k < length xs → T (test (get_or xs k d))
unfolding every
every_at test [] t k d h = absurd (not-suc-le-zero h)
every_at test (x ∷ xs) t zero d h = both_left (test x) (every test xs) t
every_at test (x ∷ xs) t (suc k) d h = every_at test xs (both_right (test x) (every test xs) t) k d (le_of_suc-le-suc h)

-- a test over one element more
pub every_more : {A : Type 0} (test : A → Bool) (xs : List A) (k : ℕ) (d : A) → k < length xs
    → every test (take (suc k) xs) ≡ (every test (take k xs) && test (get_or xs k d))
unfolding every
every_more test [] k d h = absurd (not-suc-le-zero h)
every_more test (x ∷ xs) zero d h = and-true (test x)
every_more test (x ∷ xs) (suc k) d h =
    ap (λ (b : Bool). test x && b) (every_more test xs k d (le_of_suc-le-suc h)) ∙ sym (and_assoc (test x) (every test (take k xs)) (test (get_or xs k d)))

pub every_pair_at : {A B : Type 0} (test : A → B → Bool) (xs : List A) (ys : List B) → T (every_pair test xs ys)
    → (k : ℕ) (a : A) (b : B) → k < length xs → T (test (get_or xs k a) (get_or ys k b))
unfolding every_pair
every_pair_at test [] [] t k a b h = absurd (not-suc-le-zero h)
every_pair_at test [] (y ∷ ys) t k a b h = absurd t
every_pair_at test (x ∷ xs) [] t k a b h = absurd t
every_pair_at test (x ∷ xs) (y ∷ ys) t zero a b h = both_left (test x y) (every_pair test xs ys) t
every_pair_at test (x ∷ xs) (y ∷ ys) t (suc k) a b h =
    every_pair_at test xs ys (both_right (test x y) (every_pair test xs ys) t) k a b (le_of_suc-le-suc h)
