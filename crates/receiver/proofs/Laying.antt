-- Laying what was found over one half of the cells, one cell after the other; and how many were found.
use mathlib.Core.Path.{◌≡◌, refl, sym, ap, ◌∙◌}
use mathlib.Core.List.{List, [], ◌∷◌}
use mathlib.Core.Option.{Option, none, some}
use Prim.Native.Nat.{ℕ, zero, suc, ◌+◌, ◌≤◌, ◌<◌, zero-le}
use native.Mathlib.Nat.{suc-add, zero-add, le_of_suc-le-suc, not-suc-le-zero}
use native.Mathlib.Numerals.{add-one}
use native.Mathlib.Omega.{arith}
use borrow.Author.Tests.{lt-ltb}
use lib.Dec.{leb, ltb, leb-suc-suc, lit≤}
use lib.ListN.{length, get_or, set, take, drop}
use Rattle.receiver.specs.Cells.{laid, how_many, one_missing}
use Rattle.receiver.specs.Private.{one}

module _ (keep : Option ℕ → ℕ → ℕ → ℕ) where
  -- the first cell that is not laid over yet
  next-first : (found : List (Option ℕ)) (half others : List ℕ) (k : ℕ) → k < length found
      → get_or (laid keep zero (take k found) half others) k 0 ≡ get_or half k 0
  unfolding laid
  next-first [] half others k h = absurd (not-suc-le-zero h)
  next-first (f ∷ found) half others zero h = refl
  next-first (f ∷ found) [] others (suc k) h = refl
  next-first (f ∷ found) (c ∷ half) others (suc k) h = next-first found half (drop 1 others) k (le_of_suc-le-suc h)

  pub laid_next : (place : ℕ) (found : List (Option ℕ)) (half others : List ℕ) (k : ℕ) → k < length found
      → get_or (laid keep place (take k found) half others) (place + k) 0 ≡ get_or half (place + k) 0
  unfolding laid
  laid_next zero found half others k h = rw (zero-add k) (next-first found half others k h)
  laid_next (suc place) found [] others k h = refl
  laid_next (suc place) found (c ∷ half) others k h = rw (suc-add place k) (laid_next place found half (drop 1 others) k h)

  further : (found : Option ℕ) (cell : ℕ) (others : List ℕ) (k : ℕ) → keep found cell (get_or others (suc k) 0) ≡ keep found cell (get_or (drop 1 others) k 0)
  further found cell [] k = refl
  further found cell (o ∷ others) k = refl

  -- and one cell more
  more-first : (found : List (Option ℕ)) (half others : List ℕ) (k : ℕ) → k < length found
      → set (laid keep zero (take k found) half others) k (keep (get_or found k none) (get_or half k 0) (get_or others k 0))
      ≡ laid keep zero (take (suc k) found) half others
  unfolding laid
  more-first [] half others k h = absurd (not-suc-le-zero h)
  more-first (f ∷ found) [] others zero h = refl
  more-first (f ∷ found) (c ∷ half) others zero h = refl
  more-first (f ∷ found) [] others (suc k) h = refl
  more-first (f ∷ found) (c ∷ half) others (suc k) h =
      ap {B = List ℕ} (λ v. keep f c (get_or others 0 0) ∷ set (laid keep zero (take k found) half (drop 1 others)) k v)
      (further (get_or found k none) (get_or half k 0) others k)
      ∙ ap {B = List ℕ} (λ xs. keep f c (get_or others 0 0) ∷ xs) (more-first found half (drop 1 others) k (le_of_suc-le-suc h))

  more : (place : ℕ) (found : List (Option ℕ)) (half others : List ℕ) (k : ℕ) → k < length found
      → set (laid keep place (take k found) half others) (place + k) (keep (get_or found k none) (get_or half (place + k) 0) (get_or others (place + k) 0))
      ≡ laid keep place (take (suc k) found) half others
  unfolding laid
  more zero found half others k h = rw (zero-add k) (more-first found half others k h)
  more (suc place) found [] others k h = refl
  more (suc place) found (c ∷ half) others k h =
      rw (suc-add place k)
      (ap {B = List ℕ} (λ v. c ∷ set (laid keep place (take k found) half (drop 1 others)) (place + k) v)
      (further (get_or found k none) (get_or half (place + k) 0) others (place + k))
      ∙ ap {B = List ℕ} (λ xs. c ∷ xs) (more place found half (drop 1 others) k h))

  -- the code's store
  pub laid_more : (place : ℕ) (found : List (Option ℕ)) (half others : List ℕ) (k : ℕ) → k < length found → (xs : List ℕ) (v : ℕ)
      → xs ≡ laid keep place (take k found) half others → v ≡ keep (get_or found k none) (get_or half (place + k) 0) (get_or others (place + k) 0)
      → set xs (place + k) v ≡ laid keep place (take (k + 1) found) half others
  laid_more place found half others k h xs v e w = rw (w, e, add-one k) (more place found half others k h)

  -- nothing laid
  pub laid_none : (place : ℕ) (half others : List ℕ) → half ≡ laid keep place [] half others
  unfolding laid
  laid_none zero half others = refl
  laid_none (suc place) [] others = refl
  laid_none (suc place) (c ∷ half) others = ap {B = List ℕ} (λ xs. c ∷ xs) (laid_none place half (drop 1 others))

-- ---- counting

one_more : (found : List (Option ℕ)) (k : ℕ) → k < length found → how_many (take (suc k) found) ≡ how_many (take k found) + one (get_or found k none)
unfolding how_many one
one_more [] k h = absurd (not-suc-le-zero h)
one_more (none ∷ found) zero h = refl
one_more (some c ∷ found) zero h = refl
one_more (none ∷ found) (suc k) h = one_more found k (le_of_suc-le-suc h)
one_more (some c ∷ found) (suc k) h = omega (arith, one_more found k (le_of_suc-le-suc h))

pub one_most : (found : Option ℕ) → one found ≤ 1
unfolding one
one_most none = lit≤ tt
one_most (some c) = lit≤ tt

pub count_more : (found : List (Option ℕ)) (k : ℕ) → k < length found → how_many (take (k + 1) found) ≡ how_many (take k found) + one (get_or found k none)
count_more found k h = rw (add-one k) (one_more found k h)

pub count_most : (found : List (Option ℕ)) → how_many found ≤ length found
unfolding how_many
count_most [] = zero-le
count_most (none ∷ found) = omega (arith, count_most found)
count_most (some c ∷ found) = omega (arith, count_most found)

-- one is missing just where fewer are written than were looked at
pub missing_is : (found : List (Option ℕ)) → one_missing found ≡ ltb (how_many found) (length found)
unfolding one_missing how_many
missing_is [] = refl
missing_is (none ∷ found) = sym (lt-ltb (how_many found) (suc (length found)) (omega (arith, count_most found)))
missing_is (some c ∷ found) = missing_is found ∙ shifted (how_many found) (length found)
  where
    shifted : (a b : ℕ) → ltb a b ≡ ltb (1 + a) (suc b)
    shifted a b = sym (leb-suc-suc (suc a) b) ∙ ap (λ (n : ℕ). leb (suc n) (suc b)) (omega arith)
