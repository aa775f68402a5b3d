-- From one computed test to the rule at each number, and so at each entry of a table.
use mathlib.Core.Path.{◌≡◌, subst, sym}
use mathlib.Core.Bool.{Bool}
use Prim.Native.Nat.{ℕ, zero, suc, ◌<◌}
use native.Mathlib.Nat.{not-suc-le-zero}
use native.Mathlib.Omega.{arith}
use native.Mathlib.Decide.{ℕ_discrete}
use lib.Dec.{T, eqb, eqb→eq}
use Rattle.laws.specs.Below.{all_below}
use Rattle.laws.proofs.Bools.{both_left, both_right}

-- below suc n: at n, or below n
split : (n : ℕ) (P : ℕ → Type 0) → P n → ((k : ℕ) → k < n → P k) → (k : ℕ) → k < suc n → Dec (k ≡ n) → P k
split n P last rest k h (yes e) = subst P (sym e) last
split n P last rest k h (no d) = rest k (omega arith)

pub at : (n : ℕ) (test : ℕ → Bool) → T (all_below n test) → (k : ℕ) → k < n → T (test k)
unfolding all_below
at zero test t k h = absurd (not-suc-le-zero h)
at (suc n) test t k h =
    split n (λ (m : ℕ). T (test m)) (both_left (test n) (all_below n test) t)
    (at n test (both_right (test n) (all_below n test) t)) k h (ℕ_discrete k n)

-- two rules give equal numbers at each number below n
pub equal_at : (n : ℕ) (f g : ℕ → ℕ) → T (all_below n (λ k. eqb (f k) (g k))) → (k : ℕ) → k < n → f k ≡ g k
equal_at n f g t k h = eqb→eq (f k) (g k) (at n (λ k. eqb (f k) (g k)) t k h)
