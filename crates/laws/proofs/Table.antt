-- A table that is its rule worked out, entry by entry: the checker computes the rule over the whole table and compares, and so each entry is what
-- the rule says. A proof names the rule alone, and never the table's entries again.
use mathlib.Core.Path.{◌≡◌, ◌∙◌, ap}
use mathlib.Core.List.{List, [], ◌∷◌}
use Prim.Native.Nat.{ℕ, zero, suc, ◌+◌, ◌<◌}
use native.Mathlib.Nat.{zero-add, add-zero, add-suc, suc-add, le_of_suc-le-suc, not-suc-le-zero}
use lib.ListN.{get_or}

-- n entries of the rule, from the place i on
abbrev pub tabulate : (ℕ → ℕ) → ℕ → ℕ → List ℕ
tabulate rule i zero = []
tabulate rule i (suc n) = rule i ∷ tabulate rule (suc i) n

from : (rule : ℕ → ℕ) (n i k : ℕ) → k < n → get_or (tabulate rule i n) k 0 ≡ rule (i + k)
from rule zero i k h = absurd (not-suc-le-zero h)
from rule (suc n) i zero h = ap rule (simp add-zero)
from rule (suc n) i (suc k) h = from rule n (suc i) k (le_of_suc-le-suc h) ∙ ap rule (simp (add-suc, suc-add))

pub entry : (rule : ℕ → ℕ) (n k : ℕ) → k < n → get_or (tabulate rule 0 n) k 0 ≡ rule k
entry rule n k h = from rule n 0 k h ∙ ap rule (zero-add k)
