-- From the paper's number and values to what was heard, and a message by its case.
use mathlib.Core.Path.{◌≡◌, refl, sym, ap, ◌∙◌, subst}
use mathlib.Core.Option.{Option, none, some}
use Prim.Native.Nat.{ℕ, ◌<◌}
use Rattle.std.specs.Prelude as code
use Rattle.laws.specs.Paper.{one_or_none}
use Rattle.laws.proofs.Inverse.{holds_value, paper_back, told_apart, value_back}
use Rattle.coding.specs.Hamming.{message, message_paper}
use Rattle.coding.specs.Heard.{heard}
use Rattle.coding.proofs.Hamming.{Small, small}

paper_heard : (o : code.Option ℕ) → heard o ≡ value_back (message_paper o)
unfolding heard message_paper
paper_heard (code.Some value) = refl
paper_heard code.None = refl

pub heard_law : (c : code.Option ℕ) (o : Option ℕ) → message_paper c ≡ one_or_none o → heard c ≡ o
heard_law = holds_value message_paper heard paper_heard

-- one paper is one answer
heard_back : (o : code.Option ℕ) → paper_back code.Some code.None (message_paper o) ≡ o
unfolding message_paper
heard_back (code.Some value) = refl
heard_back code.None = refl

pub heard_is : (a b : code.Option ℕ) → message_paper a ≡ message_paper b → a ≡ b
heard_is = told_apart message_paper (paper_back code.Some code.None) heard_back

-- ---- a message, by its case

module _ (m : code.Option ℕ) {o : Option ℕ} (h : heard m ≡ o) where
  pub heard-good : (value : ℕ) → m ≡ code.Some value → o ≡ some value
  unfolding heard
  heard-good value e = sym h ∙ ap heard e

  pub heard-refused : m ≡ code.None → o ≡ none
  unfolding heard
  heard-refused e = sym h ∙ ap heard e

pub small_good : (m : code.Option ℕ) (value : ℕ) → Small (heard m) → m ≡ code.Some value → value < 16
unfolding heard
small_good m value s e = subst (λ (x : code.Option ℕ). Small (heard x)) e s

pub small_heard : (m : code.Option ℕ) (byte : ℕ) → heard m ≡ message byte → Small (heard m)
small_heard m byte e = subst Small (sym e) (small byte)
