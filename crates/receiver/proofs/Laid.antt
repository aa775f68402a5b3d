-- What was laid over one half of the cells, seen cell by cell: outside its places nothing changes, inside each cell is what is kept of it. And a test over
-- all cells stays true where what is kept passes it.
use mathlib.Core.Path.{◌≡◌, refl, ap, ◌∙◌}
use mathlib.Core.Bool.{Bool}
use mathlib.Core.List.{List, [], ◌∷◌}
use mathlib.Core.Option.{Option, none}
use Prim.Native.Nat.{ℕ, zero, suc, ◌+◌, ◌≤◌, ◌<◌}
use native.Mathlib.Nat.{suc-add, zero-add, le_of_suc-le-suc, not-suc-le-zero}
use native.Mathlib.Omega.{arith}
use lib.Dec.{T}
use lib.ListN.{length, get_or, take, drop}
use Rattle.laws.specs.Every.{every, every_pair}
use Rattle.laws.proofs.Bools.{both_left, both_right}
use Rattle.laws.proofs.Keeps.{both}
use Rattle.receiver.specs.Cells.{laid}

-- the half that stands beside, one cell further
further : (others : List ℕ) (k : ℕ) → get_or (drop 1 others) k 0 ≡ get_or others (suc k) 0
further [] k = refl
further (o ∷ others) k = refl

module _ (keep : Option ℕ → ℕ → ℕ → ℕ) where
  pub length-laid : (place : ℕ) (found : List (Option ℕ)) (half others : List ℕ) → length (laid keep place found half others) ≡ length half
  unfolding laid
  length-laid zero [] half others = refl
  length-laid zero (f ∷ found) [] others = refl
  length-laid zero (f ∷ found) (c ∷ half) others = ap suc (length-laid zero found half (drop 1 others))
  length-laid (suc place) found [] others = refl
  length-laid (suc place) found (c ∷ half) others = ap suc (length-laid place found half (drop 1 others))

  -- ---- cell by cell

  pub laid-before : (place : ℕ) (found : List (Option ℕ)) (half others : List ℕ) (k d : ℕ) → k < place
      → get_or (laid keep place found half others) k d ≡ get_or half k d
  unfolding laid
  laid-before zero found half others k d h = absurd (not-suc-le-zero h)
  laid-before (suc place) found [] others k d h = refl
  laid-before (suc place) found (c ∷ half) others zero d h = refl
  laid-before (suc place) found (c ∷ half) others (suc k) d h = laid-before place found half (drop 1 others) k d (le_of_suc-le-suc h)

  after_first : (found : List (Option ℕ)) (half others : List ℕ) (k d : ℕ) → length found ≤ k
      → get_or (laid keep zero found half others) k d ≡ get_or half k d
  unfolding laid
  after_first [] half others k d h = refl
  after_first (f ∷ found) [] others k d h = refl
  after_first (f ∷ found) (c ∷ half) others zero d h = absurd (not-suc-le-zero h)
  after_first (f ∷ found) (c ∷ half) others (suc k) d h = after_first found half (drop 1 others) k d (le_of_suc-le-suc h)

  pub laid-after : (place : ℕ) (found : List (Option ℕ)) (half others : List ℕ) (k d : ℕ) → place + length found ≤ k
      → get_or (laid keep place found half others) k d ≡ get_or half k d
  unfolding laid
  laid-after zero found half others k d h = after_first found half others k d (omega arith)
  laid-after (suc place) found [] others k d h = refl
  laid-after (suc place) found (c ∷ half) others zero d h = refl
  laid-after (suc place) found (c ∷ half) others (suc k) d h = laid-after place found half (drop 1 others) k d (omega arith)

  at_first : (found : List (Option ℕ)) (half others : List ℕ) (k d : ℕ) → k < length found → k < length half
      → get_or (laid keep zero found half others) k d ≡ keep (get_or found k none) (get_or half k d) (get_or others k 0)
  unfolding laid
  at_first [] half others k d h i = absurd (not-suc-le-zero h)
  at_first (f ∷ found) [] others k d h i = absurd (not-suc-le-zero i)
  at_first (f ∷ found) (c ∷ half) others zero d h i = refl
  at_first (f ∷ found) (c ∷ half) others (suc k) d h i =
      at_first found half (drop 1 others) k d (le_of_suc-le-suc h) (le_of_suc-le-suc i)
      ∙ ap (keep (get_or found k none) (get_or half k d)) (further others k)

  pub laid-at : (place : ℕ) (found : List (Option ℕ)) (half others : List ℕ) (k d : ℕ) → k < length found → place + k < length half
      → get_or (laid keep place found half others) (place + k) d ≡ keep (get_or found k none) (get_or half (place + k) d) (get_or others (place + k) 0)
  unfolding laid
  laid-at zero found half others k d h i = rw (zero-add k) (at_first found half others k d h (omega arith))
  laid-at (suc place) found [] others k d h i = absurd (not-suc-le-zero i)
  laid-at (suc place) found (c ∷ half) others k d h i =
      rw (suc-add place k)
      (laid-at place found half (drop 1 others) k d h (omega arith)
      ∙ ap (keep (get_or found k none) (get_or half (place + k) d)) (further others (place + k)))

  pub take-laid : (n place : ℕ) (found : List (Option ℕ)) (half others : List ℕ) → n ≤ place → take n (laid keep place found half others) ≡ take n half
  unfolding laid
  take-laid zero place found half others h = refl
  take-laid (suc n) zero found half others h = absurd (not-suc-le-zero h)
  take-laid (suc n) (suc place) found [] others h = refl
  take-laid (suc n) (suc place) found (c ∷ half) others h =
      ap {B = List ℕ} (λ xs. c ∷ xs) (take-laid n place found half (drop 1 others) (le_of_suc-le-suc h))

  -- ---- a test over all cells

  module _ (good : Option ℕ → Bool) (test : ℕ → Bool) (keeps : (f : Option ℕ) (c o : ℕ) → T (good f) → T (test c) → T (test (keep f c o))) where
    pub every-laid : (place : ℕ) (found : List (Option ℕ)) (half others : List ℕ) → T (every good found) → T (every test half)
        → T (every test (laid keep place found half others))
    unfolding laid every
    every-laid zero [] half others g t = t
    every-laid zero (f ∷ found) [] others g t = tt
    every-laid zero (f ∷ found) (c ∷ half) others g t =
        both (test (keep f c (get_or others 0 0))) (every test (laid keep zero found half (drop 1 others)))
        (keeps f c (get_or others 0 0) (both_left (good f) (every good found) g) (both_left (test c) (every test half) t))
        (every-laid zero found half (drop 1 others) (both_right (good f) (every good found) g) (both_right (test c) (every test half) t))
    every-laid (suc place) found [] others g t = tt
    every-laid (suc place) found (c ∷ half) others g t =
        both (test c) (every test (laid keep place found half (drop 1 others))) (both_left (test c) (every test half) t)
        (every-laid place found half (drop 1 others) g (both_right (test c) (every test half) t))

-- and over the pairs of the two halves, over each of which something was laid with the other beside it
module _ (keepˡ keepʳ : Option ℕ → ℕ → ℕ → ℕ) (test : ℕ → ℕ → Bool)
    (keeps : (f : Option ℕ) (m c : ℕ) → T (test m c) → T (test (keepˡ f m c) (keepʳ f c m))) where
  pub every-pair-laid : (place : ℕ) (found : List (Option ℕ)) (ms cs : List ℕ) → T (every_pair test ms cs)
      → T (every_pair test (laid keepˡ place found ms cs) (laid keepʳ place found cs ms))
  unfolding laid every_pair
  every-pair-laid zero [] ms cs t = t
  every-pair-laid zero (f ∷ found) [] [] t = tt
  every-pair-laid zero (f ∷ found) [] (c ∷ cs) t = absurd t
  every-pair-laid zero (f ∷ found) (m ∷ ms) [] t = absurd t
  every-pair-laid zero (f ∷ found) (m ∷ ms) (c ∷ cs) t =
      both (test (keepˡ f m c) (keepʳ f c m)) (every_pair test (laid keepˡ zero found ms cs) (laid keepʳ zero found cs ms))
      (keeps f m c (both_left (test m c) (every_pair test ms cs) t))
      (every-pair-laid zero found ms cs (both_right (test m c) (every_pair test ms cs) t))
  every-pair-laid (suc place) found [] [] t = tt
  every-pair-laid (suc place) found [] (c ∷ cs) t = absurd t
  every-pair-laid (suc place) found (m ∷ ms) [] t = absurd t
  every-pair-laid (suc place) found (m ∷ ms) (c ∷ cs) t =
      both (test m c) (every_pair test (laid keepˡ place found ms cs) (laid keepʳ place found cs ms))
      (both_left (test m c) (every_pair test ms cs) t)
      (every-pair-laid place found ms cs (both_right (test m c) (every_pair test ms cs) t))
