-- Cells and their values, there and back; and what fits.
use mathlib.Core.Path.{◌≡◌, refl, ap}
use mathlib.Core.Bool.{true}
use mathlib.Core.List.{List, [], ◌∷◌}
use Prim.Native.Nat.{ℕ, zero, suc, ◌*◌, ◌^◌}
use native.Mathlib.Omega.{arith}
use borrow.Author.Tests.{lt-ltb}
use lib.Dec.{T, ltb→lt}
use lib.ListN.{length}
use Rattle.laws.specs.Every.{every}
use Rattle.laws.specs.Fields.{fits}
use Rattle.laws.proofs.Bools.{both_left, both_right}
use Rattle.laws.proofs.Fields.{Fit}
use Rattle.packing.specs.Cells.{cell_values, cell_widths, character_width, characters_from, mark_width, marks_from}

pub marks_back : (marks characters : List ℕ) → length marks ≡ length characters → marks_from (cell_values marks characters) ≡ marks
unfolding marks_from cell_values
marks_back [] characters e = refl
marks_back (m ∷ marks) [] e = absurd (omega arith)
marks_back (m ∷ marks) (c ∷ characters) e = ap (λ (xs : List ℕ). m ∷ xs) (marks_back marks characters (omega arith))

pub characters_back : (marks characters : List ℕ) → length marks ≡ length characters → characters_from (cell_values marks characters) ≡ characters
unfolding characters_from cell_values
characters_back [] [] e = refl
characters_back [] (c ∷ characters) e = absurd (omega arith)
characters_back (m ∷ marks) [] e = absurd (omega arith)
characters_back (m ∷ marks) (c ∷ characters) e = ap (λ (xs : List ℕ). c ∷ xs) (characters_back marks characters (omega arith))

pub cells_there : (n : ℕ) (values : List ℕ) → length values ≡ 2 * n → cell_values (marks_from values) (characters_from values) ≡ values
unfolding marks_from characters_from cell_values
cells_there n [] e = refl
cells_there n (m ∷ []) e = absurd (omega arith)
cells_there zero (m ∷ c ∷ values) e = absurd (omega arith)
cells_there (suc n) (m ∷ c ∷ values) e = ap (λ (xs : List ℕ). m ∷ c ∷ xs) (cells_there n values (omega arith))

-- ---- values that fit their bits

pub fit_cells : (n : ℕ) (marks characters : List ℕ) → length marks ≡ n → length characters ≡ n
    → T (every (fits mark_width) marks) → T (every (fits character_width) characters) → Fit (cell_widths n) (cell_values marks characters)
unfolding cell_widths cell_values every fits
fit_cells zero [] [] e f p q = tt
fit_cells zero [] (c ∷ characters) e f p q = absurd (omega arith)
fit_cells zero (m ∷ marks) characters e f p q = absurd (omega arith)
fit_cells (suc n) [] characters e f p q = absurd (omega arith)
fit_cells (suc n) (m ∷ marks) [] e f p q = absurd (omega arith)
fit_cells (suc n) (m ∷ marks) (c ∷ characters) e f p q =
    let mark = fits mark_width m in
    let character = fits character_width c in
    let others = every (fits mark_width) marks in
    let rest = every (fits character_width) characters in (
      ltb→lt m (2 ^ mark_width) (both_left mark others p),
      (
        ltb→lt c (2 ^ character_width) (both_left character rest q),
        fit_cells n marks characters (omega arith) (omega arith) (both_right mark others p) (both_right character rest q),
      ),
    )

pub fit_marks : (n : ℕ) (values : List ℕ) → Fit (cell_widths n) values → every (fits mark_width) (marks_from values) ≡ true
unfolding cell_widths marks_from every fits
fit_marks zero [] h = refl
fit_marks zero (v ∷ values) h = absurd h
fit_marks (suc n) [] h = absurd h
fit_marks (suc n) (m ∷ []) h = absurd h.1
fit_marks (suc n) (m ∷ c ∷ values) h = rw (lt-ltb m (2 ^ mark_width) h.0, fit_marks n values h.1.1)

pub fit_characters : (n : ℕ) (values : List ℕ) → Fit (cell_widths n) values → every (fits character_width) (characters_from values) ≡ true
unfolding cell_widths characters_from every fits
fit_characters zero [] h = refl
fit_characters zero (v ∷ values) h = absurd h
fit_characters (suc n) [] h = absurd h
fit_characters (suc n) (m ∷ []) h = absurd h.1
fit_characters (suc n) (m ∷ c ∷ values) h = rw (lt-ltb c (2 ^ character_width) h.1.0, fit_characters n values h.1.1)
