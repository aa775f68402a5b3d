-- A list is its own elements, one by one; two lists are equal where they are so at the head and behind it.
use mathlib.Core.Path.{◌≡◌, refl, ◌∙◌, ap, sym}
use mathlib.Core.List.{List, ◌∷◌}
use Prim.Native.Nat.{ℕ, zero, suc}
use lib.ListN.{length, get_or}
use lib.Seq.{ext_get_or}
use Rattle.laws.proofs.Table.{tabulate, entry}

pub length_tabulate : (rule : ℕ → ℕ) (n i : ℕ) → length (tabulate rule i n) ≡ n
length_tabulate rule zero i = refl
length_tabulate rule (suc n) i = ap suc (length_tabulate rule n (suc i))

-- a list of n elements; with n a numeral the right side computes to them all
pub tabulated : (n : ℕ) (xs : List ℕ) → length xs ≡ n → xs ≡ tabulate (λ k. get_or xs k 0) 0 n
tabulated n xs e =
    ext_get_or 0 xs (tabulate (λ k. get_or xs k 0) 0 n) (e ∙ sym (length_tabulate (λ k. get_or xs k 0) n 0))
    (λ k h. sym (entry (λ k. get_or xs k 0) n k (rw e at h)))

pub cons_is : {x y : ℕ} {xs ys : List ℕ} → x ≡ y → xs ≡ ys → ◌≡◌ {A = List ℕ} (x ∷ xs) (y ∷ ys)
cons_is p q = λ i. p i ∷ q i
