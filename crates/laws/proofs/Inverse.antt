-- A function that can be read back tells its arguments apart: n lines for an answer of n cases, and not n times n.
use mathlib.Core.Path.{◌≡◌, refl, ◌∙◌, sym, ap}
use mathlib.Core.List.{List}
use mathlib.Core.Option.{Option, none, some}
use Prim.Native.Nat.{ℕ}
use native.Mathlib.Omega.{arith}
use lib.ListN.{get_or}
use Rattle.laws.specs.Paper.{Paper, one_or_none}

-- what two cases come to that can't both hold
pub never : ◌≡◌ {A = ℕ} 0 1 → ⊥
never e = omega arith

pub told_apart : {A B : Type 0} (f : A → B) (back : B → A) → ((a : A) → back (f a) ≡ a) → (a b : A) → f a ≡ f b → a ≡ b
told_apart f back reads a b e = sym (reads a) ∙ (ap back e ∙ reads b)

-- an answer that is one value, or one without a number, read back from the paper's number and values
abbrev one_back : {A : Type 0} → (ℕ → A) → A → Option ℕ → List ℕ → A
one_back good other none values = other
one_back good other (some n) values = good (get_or values 0 0)

abbrev pub paper_back : {A : Type 0} → (ℕ → A) → A → Paper → A
paper_back good other paper = one_back good other paper.number paper.values

-- what is there, or nothing
abbrev pub value_back : Paper → Option ℕ
value_back = paper_back some none

value_back_law : (o : Option ℕ) → value_back (one_or_none o) ≡ o
unfolding one_or_none
value_back_law none = refl
value_back_law (some n) = refl

-- an answer whose paper is that of a value, or of none, holds that value, or none
pub holds_value : {A : Type 0} (paper : A → Paper) (held : A → Option ℕ) → ((a : A) → held a ≡ value_back (paper a))
    → (a : A) (o : Option ℕ) → paper a ≡ one_or_none o → held a ≡ o
holds_value paper held reads a o e = reads a ∙ (ap value_back e ∙ value_back_law o)
