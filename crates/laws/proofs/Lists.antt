-- What lists need beyond the kit's library.
use mathlib.Core.Path.{◌≡◌, refl, ap, ◌∙◌}
use mathlib.Core.List.{List, [], ◌∷◌, map}
use Prim.Native.Nat.{ℕ, zero, suc, ◌+◌, ◌-◌, ◌<◌, ◌≤◌, min}
use native.Mathlib.Nat.{le_of_suc-le-suc, min-zero, not-suc-le-zero, suc-min-suc, zero-min}
use native.Mathlib.Omega.{arith}
use borrow.Author.Count.{below_more}
use lib.ListN.{length, get_or, set, take, drop, replicate, length-take, length-drop}
use lib.Seq.{get_or-take, get_or-drop, get_or-set_same, get_or-set_other}

-- an element of a mapped list, whatever the defaults
pub get_d_map : {A B : Type 0} (f : A → B) (xs : List A) (k : ℕ) (b : B) (a : A) → k < length xs → get_or (map f xs) k b ≡ f (get_or xs k a)
get_d_map f [] k b a h = absurd (not-suc-le-zero h)
get_d_map f (x ∷ xs) zero b a h = refl
get_d_map f (x ∷ xs) (suc k) b a h = get_d_map f xs k b a (le_of_suc-le-suc h)

-- an element that is there, whatever stands for one that is not
pub get_d_any : {A : Type 0} (xs : List A) (k : ℕ) (a b : A) → k < length xs → get_or xs k a ≡ get_or xs k b
get_d_any [] k a b h = absurd (not-suc-le-zero h)
get_d_any (x ∷ xs) zero a b h = refl
get_d_any (x ∷ xs) (suc k) a b h = get_d_any xs k a b (le_of_suc-le-suc h)

-- no more than a list has
pub take_min : (n : ℕ) (xs : List ℕ) → take (min n (length xs)) xs ≡ take n xs
take_min zero xs = ap (λ (k : ℕ). take k xs) (zero-min (length xs))
take_min (suc n) [] = ap (λ (k : ℕ). take {A = ℕ} k []) (min-zero (suc n))
take_min (suc n) (x ∷ xs) = ap (λ (k : ℕ). take k (x ∷ xs)) (suc-min-suc n (length xs)) ∙ ap (λ (r : List ℕ). x ∷ r) (take_min n xs)

pub drop_min : (n : ℕ) (xs : List ℕ) → drop (min n (length xs)) xs ≡ drop n xs
drop_min zero xs = ap (λ (k : ℕ). drop k xs) (zero-min (length xs))
drop_min (suc n) [] = ap (λ (k : ℕ). drop {A = ℕ} k []) (min-zero (suc n))
drop_min (suc n) (x ∷ xs) = ap (λ (k : ℕ). drop k (x ∷ xs)) (suc-min-suc n (length xs)) ∙ drop_min n xs

-- some of the same element again and again
pub take_replicate : {A : Type 0} (n m : ℕ) (a : A) → n ≤ m → take n (replicate m a) ≡ replicate n a
take_replicate zero m a h = refl
take_replicate (suc n) zero a h = absurd (not-suc-le-zero h)
take_replicate (suc n) (suc m) a h = ap (λ xs. a ∷ xs) (take_replicate n m a (le_of_suc-le-suc h))

pub drop_replicate : {A : Type 0} (n m : ℕ) (a : A) → drop n (replicate m a) ≡ replicate (m - n) a
drop_replicate zero m a = ap (λ (k : ℕ). replicate k a) (let e : m ≡ m - 0 = omega arith in e)
drop_replicate (suc n) zero a = ap (λ (k : ℕ). replicate k a) (let e : 0 ≡ 0 - suc n = omega arith in e)
drop_replicate (suc n) (suc m) a = drop_replicate n m a ∙ ap (λ (k : ℕ). replicate k a) (let e : m - n ≡ suc m - suc n = omega arith in e)

-- a part of a list: `count` elements from the place `from` on
module _ {A : Type 0} (xs : List A) (from count : ℕ) where
  pub length_part : from + count ≤ length xs → length (take count (drop from xs)) ≡ count
  length_part h = simp (length-take, length-drop) (omega arith)

  pub get_d_part : (k : ℕ) (a : A) → k < count → get_or (take count (drop from xs)) k a ≡ get_or xs (from + k) a
  get_d_part k a h = get_or-take count (drop from xs) k a h ∙ get_or-drop from xs k a

-- a list that is right below i, and is then stored to at i, is right below i + 1
pub stored_more : {A : Type 0} (Right : ℕ → A → Type 0) (xs : List A) (i : ℕ) (v d : A) → i < length xs
    → ((k : ℕ) → k < i → Right k (get_or xs k d)) → Right i v → (k : ℕ) → k < i + 1 → Right k (get_or (set xs i v) k d)
stored_more Right xs i v d h before here =
    below_more (λ (k : ℕ). Right k (get_or (set xs i v) k d)) i
    (λ k below. rw (get_or-set_other xs i k v d (λ e. omega arith)) (before k below))
    (rw (get_or-set_same xs i v d h) here)
