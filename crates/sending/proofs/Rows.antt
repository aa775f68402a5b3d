-- The rows with a yes: each stands for an answer that is yes, each yes has its row, and they rise.
use mathlib.Core.Path.{◌≡◌, ◌∙◌, ap}
use mathlib.Core.Bool.{Bool, true, false, false≢true}
use mathlib.Core.List.{List, [], ◌∷◌}
use Prim.Native.Nat.{ℕ, zero, suc, ◌+◌, ◌-◌, ◌≤◌, ◌<◌}
use native.Mathlib.Nat.{le_of_suc-le-suc, not-suc-le-zero, zero-lt-suc}
use native.Mathlib.Omega.{arith}
use lib.ListN.{length, get_or}
use Rattle.sending.specs.Sending.{chosen_from, chosen_rows}

-- ---- where the first answer is for any row

-- none is lower than the first
pub from_low : (first : ℕ) (wanted : List Bool) (k : ℕ) → k < length (chosen_from first wanted) → first ≤ get_or (chosen_from first wanted) k 0
unfolding chosen_from
from_low first [] k h = absurd (not-suc-le-zero h)
from_low first (true ∷ wanted) zero h = omega arith
from_low first (true ∷ wanted) (suc k) h = omega (arith, from_low (suc first) wanted k (le_of_suc-le-suc h))
from_low first (false ∷ wanted) k h = omega (arith, from_low (suc first) wanted k h)

-- and none past the last
pub from_high : (first : ℕ) (wanted : List Bool) (k : ℕ) → k < length (chosen_from first wanted)
    → get_or (chosen_from first wanted) k 0 < first + length wanted
unfolding chosen_from
from_high first [] k h = absurd (not-suc-le-zero h)
from_high first (true ∷ wanted) zero h = omega arith
from_high first (true ∷ wanted) (suc k) h = omega (arith, from_high (suc first) wanted k (le_of_suc-le-suc h))
from_high first (false ∷ wanted) k h = omega (arith, from_high (suc first) wanted k h)

-- each is lower than the next
pub from_rising : (first : ℕ) (wanted : List Bool) (k : ℕ) → suc k < length (chosen_from first wanted)
    → get_or (chosen_from first wanted) k 0 < get_or (chosen_from first wanted) (suc k) 0
unfolding chosen_from
from_rising first [] k h = absurd (not-suc-le-zero h)
from_rising first (true ∷ wanted) zero h = from_low (suc first) wanted 0 (le_of_suc-le-suc h)
from_rising first (true ∷ wanted) (suc k) h = from_rising (suc first) wanted k (le_of_suc-le-suc h)
from_rising first (false ∷ wanted) k h = from_rising (suc first) wanted k h

-- an answer behind the first
behind : (answer : Bool) (wanted : List Bool) (first row : ℕ) → suc first ≤ row
    → get_or (answer ∷ wanted) (row - first) false ≡ get_or wanted (row - suc first) false
behind answer wanted first row h =
    ap (λ (n : ℕ). get_or (answer ∷ wanted) n false) (let e : row - first ≡ suc (row - suc first) = omega arith in e)

-- each has a yes
pub from_yes : (first : ℕ) (wanted : List Bool) (k : ℕ) → k < length (chosen_from first wanted)
    → get_or wanted (get_or (chosen_from first wanted) k 0 - first) false ≡ true
unfolding chosen_from
from_yes first [] k h = absurd (not-suc-le-zero h)
from_yes first (true ∷ wanted) zero h =
    ap (λ (n : ℕ). get_or (true ∷ wanted) n false) (let e : first - first ≡ 0 = omega arith in e)
from_yes first (true ∷ wanted) (suc k) h =
    let inside = le_of_suc-le-suc h in
    behind true wanted first (get_or (chosen_from (suc first) wanted) k 0) (from_low (suc first) wanted k inside) ∙ from_yes (suc first) wanted k inside
from_yes first (false ∷ wanted) k h =
    behind false wanted first (get_or (chosen_from (suc first) wanted) k 0) (from_low (suc first) wanted k h) ∙ from_yes (suc first) wanted k h

-- and a row that has a yes is one of them
abbrev pub StandsIn : List ℕ → ℕ → Type 0
StandsIn rows row = (k : ℕ) × (k < length rows) × (get_or rows k 0 ≡ row)

stands_behind : (first row : ℕ) (rows : List ℕ) → StandsIn rows row → StandsIn (first ∷ rows) row
stands_behind first row rows s = (suc s.0, omega (arith, s.1), s.2)

moved : (first n : ℕ) → first + suc n ≡ suc first + n
moved first n = omega arith

pub yes_from : (first : ℕ) (wanted : List Bool) (n : ℕ) → get_or wanted n false ≡ true → StandsIn (chosen_from first wanted) (first + n)
unfolding chosen_from
yes_from first [] n e = absurd (false≢true e)
yes_from first (true ∷ wanted) zero e = (0, zero-lt-suc _, omega arith)
yes_from first (false ∷ wanted) zero e = absurd (false≢true e)
yes_from first (true ∷ wanted) (suc n) e =
    stands_behind first (first + suc n) (chosen_from (suc first) wanted) (rw (moved first n) (yes_from (suc first) wanted n e))
yes_from first (false ∷ wanted) (suc n) e = rw (moved first n) (yes_from (suc first) wanted n e)

-- ---- where it is for row 1

module _ (wanted : List Bool) (k : ℕ) (inside : k < length (chosen_rows wanted)) where
  pub chosen-low : 1 ≤ get_or (chosen_rows wanted) k 0
  unfolding chosen_rows
  chosen-low = from_low 1 wanted k inside

  pub chosen-high : get_or (chosen_rows wanted) k 0 ≤ length wanted
  unfolding chosen_rows
  chosen-high = omega (arith, from_high 1 wanted k inside)

  pub chosen-yes : get_or wanted (get_or (chosen_rows wanted) k 0 - 1) false ≡ true
  unfolding chosen_rows
  chosen-yes = from_yes 1 wanted k inside

pub chosen_rising : (wanted : List Bool) (k : ℕ) → suc k < length (chosen_rows wanted)
    → get_or (chosen_rows wanted) k 0 < get_or (chosen_rows wanted) (suc k) 0
unfolding chosen_rows
chosen_rising wanted = from_rising 1 wanted

pub yes_chosen : (wanted : List Bool) (row : ℕ) → 1 ≤ row → get_or wanted (row - 1) false ≡ true
    → (k : ℕ) × (k < length (chosen_rows wanted)) × (get_or (chosen_rows wanted) k 0 ≡ row)
unfolding chosen_rows
yes_chosen wanted row low e =
    rw (let back : 1 + (row - 1) ≡ row = omega arith in back) at (yes_from 1 wanted (row - 1) e)
