-- Decimal digits: the bound of the definition is always enough, so that a number's digits are what its own equations say; and how many there are.
use mathlib.Core.Path.{◌≡◌, refl, sym, ◌∙◌, ap}
use mathlib.Core.Bool.{Bool, true, false}
use mathlib.Core.List.{List, [], ◌∷◌, ◌++◌}
use Prim.Native.Nat.{ℕ, zero, suc, ◌+◌, ◌/◌, ◌%◌, ◌^◌, ◌<◌, ◌≤◌, ◌-◌}
use native.Mathlib.Omega.{arith}
use borrow.Author.Tests.{lt-ltb, le-ltb, ltb-true, ltb-false}
use lib.Dec.{ltb}
use lib.ListN.{length, length-append}
use Rattle.texts.specs.Held.{added}
use Rattle.texts.specs.Decimal.{digit, digits_of, decimal, most_digits, digits_held}
use Rattle.texts.specs.declared.Text.{Text}
use Rattle.texts.proofs.Held.{held_added}

one_digit : (bound n : ℕ) → n < 10 → digits_of (suc bound) n ≡ digit n ∷ []
unfolding digits_of
one_digit bound n h = rw (lt-ltb n 10 h)

more_digits : (bound n : ℕ) → 10 ≤ n → digits_of (suc bound) n ≡ digits_of bound (n / 10) ++ (digit (n % 10) ∷ [])
unfolding digits_of
more_digits bound n h = rw (le-ltb n 10 h)

-- by whether a number has one digit
module _ (P : Type 0) (n : ℕ) (one : n < 10 → P) (more : 10 ≤ n → P) where
  by_test : (test : Bool) → ltb n 10 ≡ test → P
  by_test true e = one (ltb-true n 10 e)
  by_test false e = more (ltb-false n 10 e)

  pub by_size : P
  by_size = by_test (ltb n 10) refl

pub enough : (m k n : ℕ) → n < m → n < k → digits_of m n ≡ digits_of k n
enough zero k n p q = absurd (omega arith)
enough (suc m) zero n p q = absurd (omega arith)
enough (suc m) (suc k) n p q =
    by_size (digits_of (suc m) n ≡ digits_of (suc k) n) n
    (λ h. one_digit m n h ∙ sym (one_digit k n h))
    (λ h.
    more_digits m n h
    ∙ (ap (λ (front : List ℕ). front ++ (digit (n % 10) ∷ [])) (enough m k (n / 10) (omega arith) (omega arith))
    ∙ sym (more_digits k n h)))

pub decimal_one : (n : ℕ) → n < 10 → decimal n ≡ digit n ∷ []
unfolding decimal
decimal_one n h = one_digit n n h

pub decimal_more : (n : ℕ) → 10 ≤ n → decimal n ≡ decimal (n / 10) ++ (digit (n % 10) ∷ [])
unfolding decimal
decimal_more n h =
    more_digits n n h
    ∙ ap (λ (front : List ℕ). front ++ (digit (n % 10) ∷ [])) (enough n (suc (n / 10)) (n / 10) (omega arith) (omega arith))

pub decimal_longer : (n : ℕ) → 10 ≤ n → length (decimal n) ≡ length (decimal (n / 10)) + 1
decimal_longer n h = ap length (decimal_more n h) ∙ length-append (decimal (n / 10)) (digit (n % 10) ∷ [])

-- a number below the power of ten has at most so many digits
pub few_digits : (k n : ℕ) → n < 10 ^ suc k → length (decimal n) ≤ suc k
few_digits zero n h = rw (decimal_one n (omega arith)) (omega arith)
few_digits (suc k) n h =
    by_size (length (decimal n) ≤ suc (suc k)) n
    (λ small. rw (decimal_one n small) (omega arith))
    (λ large.
    let front = few_digits k (n / 10) (omega arith) in
    let longer = decimal_longer n large in
    omega arith)

-- a word of 64 bits has at most twenty
pub word_digits : (n : ℕ) → n < 2 ^ 64 → length (decimal n) ≤ most_digits
word_digits n h = few_digits (most_digits - 1) n (omega arith)

-- ---- digits that are held

module _ (n : ℕ) {front : Text most_digits} where
  -- the only one
  pub one_held : n < 10 → front ≡ digits_held [] → added front (digit (n % 10) ∷ []) ≡ digits_held (decimal n)
  one_held h is =
      let same : n % 10 ≡ n = omega arith in
      rw (is, held_added most_digits [] (digit (n % 10) ∷ []) (omega arith), same, decimal_one n h) refl

  -- the last one, behind those in front
  pub last_held : n < 2 ^ 64 → 10 ≤ n → front ≡ digits_held (decimal (n / 10)) → added front (digit (n % 10) ∷ []) ≡ digits_held (decimal n)
  last_held word h is =
      let few = word_digits n word in
      let longer = decimal_longer n h in
      rw (is, held_added most_digits (decimal (n / 10)) (digit (n % 10) ∷ []) (omega arith), decimal_more n h) refl
