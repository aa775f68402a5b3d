-- The chosen rows from a row on: this one where it is wanted, and then those from the next on.
use mathlib.Core.Path.{◌≡◌, refl, ap, ◌∙◌}
use mathlib.Core.Bool.{Bool, true, false, cond}
use mathlib.Core.List.{List, [], ◌∷◌}
use Prim.Native.Nat.{ℕ, suc, ◌+◌, ◌≤◌, ◌<◌}
use native.Mathlib.Omega.{arith}
use lib.ListN.{length, get_or, drop, drop_of_length-le}
use lib.Seq.{drop-cons}
use mir.Val.{bool_byte}
use Rattle.sending.specs.Sending.{chosen_from}

-- those whose answers are left after so many
abbrev pub chosen_after : List Bool → ℕ → List ℕ
chosen_after wanted done = chosen_from (suc done) (drop done wanted)

by_answer : (answer : Bool) (row : ℕ) (rest : List Bool) → chosen_from row (answer ∷ rest) ≡ cond answer (row ∷ chosen_from (suc row) rest) (chosen_from (suc row) rest)
unfolding chosen_from
by_answer true row rest = refl
by_answer false row rest = refl

pub next_choice : (wanted : List Bool) (done : ℕ) → done < length wanted
    → chosen_after wanted done ≡ cond (get_or wanted done false) (suc done ∷ chosen_after wanted (suc done)) (chosen_after wanted (suc done))
next_choice wanted done h =
    ap (chosen_from (suc done)) (drop-cons wanted done false h) ∙ by_answer (get_or wanted done false) (suc done) (drop (suc done) wanted)

-- how many they are
pub one_at_most : (answer : Bool) → bool_byte answer ≤ 1
one_at_most true = omega arith
one_at_most false = omega arith

count_if : (answer : Bool) (row : ℕ) (rest : List ℕ) → length (cond answer (row ∷ rest) rest) ≡ bool_byte answer + length rest
count_if true row rest = omega arith
count_if false row rest = omega arith

pub next_count : (wanted : List Bool) (done : ℕ) → done < length wanted
    → length (chosen_after wanted done) ≡ bool_byte (get_or wanted done false) + length (chosen_after wanted (suc done))
next_count wanted done h =
    ap length (next_choice wanted done h) ∙ count_if (get_or wanted done false) (suc done) (chosen_after wanted (suc done))

-- none where no answer is left
pub none_after : (wanted : List Bool) (done : ℕ) → length wanted ≤ done → chosen_after wanted done ≡ []
unfolding chosen_from
none_after wanted done h = ap (chosen_from (suc done)) (drop_of_length-le wanted {i = done} h)

pub none_left : (wanted : List Bool) (done : ℕ) → length wanted ≤ done → length (chosen_after wanted done) ≡ 0
none_left wanted done h = ap length (none_after wanted done h)

-- there are no more of them than answers
pub few_chosen : (row : ℕ) (wanted : List Bool) → length (chosen_from row wanted) ≤ length wanted
unfolding chosen_from
few_chosen row [] = omega arith
few_chosen row (true ∷ wanted) = omega (arith, few_chosen (suc row) wanted)
few_chosen row (false ∷ wanted) = omega (arith, few_chosen (suc row) wanted)
