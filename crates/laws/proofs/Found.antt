-- Tests on what was found, a number or none, and what each shows.
use mathlib.Core.Path.{◌≡◌, refl, ap}
use mathlib.Core.Bool.{Bool, true, false}
use mathlib.Core.Option.{Option, none, some}
use Prim.Native.Nat.{ℕ}
use lib.Dec.{T, eqb, eqb→eq}

abbrev pub is : ℕ → Option ℕ → Bool
is n none = false
is n (some m) = eqb m n

pub is_it : (n : ℕ) (found : Option ℕ) → T (is n found) → found ≡ some n
is_it n none t = absurd t
is_it n (some m) t = ap {B = Option ℕ} some (eqb→eq m n t)

abbrev pub is_none : Option ℕ → Bool
is_none none = true
is_none (some m) = false

pub is_none_law : (found : Option ℕ) → T (is_none found) → found ≡ none
is_none_law none t = refl
is_none_law (some m) t = absurd t
