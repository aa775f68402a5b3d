-- From the elements to a test over a whole list, or two, and what keeps such a test: repeating, mapping and cutting.
use mathlib.Core.Path.{◌≡◌, refl, ap}
use mathlib.Core.Bool.{Bool, true, false, cond, not, ◌&&◌, false≢true}
use mathlib.Core.List.{List, [], ◌∷◌, ◌++◌, map}
use Prim.Native.Nat.{ℕ, zero, suc, ◌^◌, ◌<◌}
use native.Mathlib.Nat.{zero-lt-suc}
use native.Mathlib.Omega.{arith}
use lib.Dec.{T, lt→ltb}
use lib.ListN.{length, get_or, take, drop, replicate}
use Rattle.laws.specs.Every.{every, every_pair}
use Rattle.laws.specs.Fields.{fits}
use Rattle.laws.proofs.Bools.{both_left, both_right}
use Rattle.laws.proofs.Fields.{Fit}

pub both : (a b : Bool) → T a → T b → T (a && b)
both true b s t = t
both false b s t = absurd s

pub all_five : (a b c d e : Bool) → T a → T b → T c → T d → T e → T (a && (b && (c && (d && e))))
all_five a b c d e t u v w x = both a (b && (c && (d && e))) t (both b (c && (d && e)) u (both c (d && e) v (both d e w x)))

pub passes : (b : Bool) → b ≡ true → T b
passes true e = tt
passes false e = absurd (false≢true e)

pub failed : (b : Bool) → T (not b) → b ≡ false
failed true t = absurd t
failed false t = refl

-- what holds of both of two values holds of the chosen one
pub either : {A : Type 0} (P : A → Type 0) (test : Bool) (a b : A) → P a → P b → P (cond test a b)
either P true a b p q = p
either P false a b p q = q

-- what holds of either of two values, each where it is chosen, holds of the chosen one
pub chosen : {A : Type 0} (P : A → Type 0) (b : Bool) (x y : A) → (T b → P x) → (T (not b) → P y) → P (cond b x y)
chosen P true x y f g = f tt
chosen P false x y f g = g tt

-- ---- one list

module _ {A : Type 0} (test : A → Bool) where
  pub every-from : (d : A) (xs : List A) → ((k : ℕ) → k < length xs → T (test (get_or xs k d))) → T (every test xs)
  unfolding every
  every-from d [] each = tt
  every-from d (x ∷ xs) each =
      both (test x) (every test xs) (each 0 (zero-lt-suc _)) (every-from d xs (λ k h. each (suc k) (omega arith)))

  pub every-replicate : (n : ℕ) (x : A) → T (test x) → T (every test (replicate n x))
  unfolding every
  every-replicate zero x t = tt
  every-replicate (suc n) x t = both (test x) (every test (replicate n x)) t (every-replicate n x t)

  pub every_take : (n : ℕ) (xs : List A) → T (every test xs) → T (every test (take n xs))
  unfolding every
  every_take zero xs t = tt
  every_take (suc n) [] t = tt
  every_take (suc n) (x ∷ xs) t =
      both (test x) (every test (take n xs)) (both_left (test x) (every test xs) t) (every_take n xs (both_right (test x) (every test xs) t))

  pub every_drop : (n : ℕ) (xs : List A) → T (every test xs) → T (every test (drop n xs))
  unfolding every
  every_drop zero xs t = t
  every_drop (suc n) [] t = t
  every_drop (suc n) (x ∷ xs) t = every_drop n xs (both_right (test x) (every test xs) t)

pub every_map : {A B : Type 0} (before : A → Bool) (after : B → Bool) (f : A → B) → ((a : A) → T (before a) → T (after (f a)))
    → (xs : List A) → T (every before xs) → T (every after (map f xs))
unfolding every
every_map before after f keeps [] t = tt
every_map before after f keeps (x ∷ xs) t =
    both (after (f x)) (every after (map f xs)) (keeps x (both_left (before x) (every before xs) t))
    (every_map before after f keeps xs (both_right (before x) (every before xs) t))

-- and one list after the other
pub every_append : {A : Type 0} (test : A → Bool) (xs ys : List A) → T (every test xs) → T (every test ys) → T (every test (xs ++ ys))
unfolding every
every_append test [] ys s t = t
every_append test (x ∷ xs) ys s t =
    both (test x) (every test (xs ++ ys)) (both_left (test x) (every test xs) s) (every_append test xs ys (both_right (test x) (every test xs) s) t)

-- whatever is mapped
pub every_mapped : {A B : Type 0} (after : B → Bool) (f : A → B) → ((a : A) → T (after (f a))) → (xs : List A) → T (every after (map f xs))
unfolding every
every_mapped after f each [] = tt
every_mapped after f each (x ∷ xs) = both (after (f x)) (every after (map f xs)) (each x) (every_mapped after f each xs)

pub take_map : {A B : Type 0} (f : A → B) (n : ℕ) (xs : List A) → take n (map f xs) ≡ map f (take n xs)
take_map f zero xs = refl
take_map f (suc n) [] = refl
take_map f (suc n) (x ∷ xs) = ap (λ ys. f x ∷ ys) (take_map f n xs)

pub drop_map : {A B : Type 0} (f : A → B) (n : ℕ) (xs : List A) → drop n (map f xs) ≡ map f (drop n xs)
drop_map f zero xs = refl
drop_map f (suc n) [] = refl
drop_map f (suc n) (x ∷ xs) = drop_map f n xs

-- ---- two lists

module _ {A B : Type 0} (test : A → B → Bool) where
  pub every-pair-length : (xs : List A) (ys : List B) → T (every_pair test xs ys) → length xs ≡ length ys
  unfolding every_pair
  every-pair-length [] [] t = refl
  every-pair-length [] (y ∷ ys) t = absurd t
  every-pair-length (x ∷ xs) [] t = absurd t
  every-pair-length (x ∷ xs) (y ∷ ys) t = ap suc (every-pair-length xs ys (both_right (test x y) (every_pair test xs ys) t))

  pub every-pair-from : (a : A) (b : B) (xs : List A) (ys : List B) → length xs ≡ length ys
      → ((k : ℕ) → k < length xs → T (test (get_or xs k a) (get_or ys k b))) → T (every_pair test xs ys)
  unfolding every_pair
  every-pair-from a b [] [] e each = tt
  every-pair-from a b [] (y ∷ ys) e each = absurd (omega arith)
  every-pair-from a b (x ∷ xs) [] e each = absurd (omega arith)
  every-pair-from a b (x ∷ xs) (y ∷ ys) e each =
      both (test x y) (every_pair test xs ys) (each 0 (zero-lt-suc _))
      (every-pair-from a b xs ys (omega arith) (λ k h. each (suc k) (omega arith)))

  pub every-pair-replicate : (n : ℕ) (x : A) (y : B) → T (test x y) → T (every_pair test (replicate n x) (replicate n y))
  unfolding every_pair
  every-pair-replicate zero x y t = tt
  every-pair-replicate (suc n) x y t =
      both (test x y) (every_pair test (replicate n x) (replicate n y)) t (every-pair-replicate n x y t)

  -- the first list mapped
  pub every-pair-map : (f : A → A) → ((x : A) (y : B) → T (test x y) → T (test (f x) y)) → (xs : List A) (ys : List B)
      → T (every_pair test xs ys) → T (every_pair test (map f xs) ys)
  unfolding every_pair
  every-pair-map f keeps [] [] t = tt
  every-pair-map f keeps [] (y ∷ ys) t = absurd t
  every-pair-map f keeps (x ∷ xs) [] t = absurd t
  every-pair-map f keeps (x ∷ xs) (y ∷ ys) t =
      both (test (f x) y) (every_pair test (map f xs) ys) (keeps x y (both_left (test x y) (every_pair test xs ys) t))
      (every-pair-map f keeps xs ys (both_right (test x y) (every_pair test xs ys) t))

-- ---- fields

-- values that are not too large for their bits pass the test
pub fit_passes : (widths values : List ℕ) → Fit widths values → T (every_pair fits widths values)
unfolding every_pair fits
fit_passes [] [] h = tt
fit_passes [] (v ∷ values) h = absurd h
fit_passes (w ∷ widths) [] h = absurd h
fit_passes (w ∷ widths) (v ∷ values) h =
    both (fits w v) (every_pair fits widths values) (lt→ltb v (2 ^ w) h.0) (fit_passes widths values h.1)

-- ---- a choice that was made

pub chosen_first : (b x y : Bool) → T b → T (cond b x y) → T x
chosen_first true x y h t = t
chosen_first false x y h t = absurd h

pub first_chosen : (b x y : Bool) → T b → T x → T (cond b x y)
first_chosen true x y h t = t
first_chosen false x y h t = absurd h

pub chosen_second : (b x y : Bool) → T (not b) → T (cond b x y) → T y
chosen_second true x y h t = absurd h
chosen_second false x y h t = t
