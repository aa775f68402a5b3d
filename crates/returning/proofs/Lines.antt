-- The run that is fed back, line by line: the header's line, the lines of the chosen rows in their order, and the further one.
use mathlib.Core.Path.{◌≡◌, refl, sym, ap, ◌∙◌}
use mathlib.Core.Bool.{Bool}
use mathlib.Core.List.{List, [], ◌∷◌, ◌++◌, map, map-append}
use Prim.Native.Nat.{ℕ, suc, ◌<◌}
use native.Mathlib.Omega.{arith}
use lib.ListN.{get_or-append, get_or, length, length-append, length-map}
use lib.Seq.{get_or_at}
use Rattle.laws.proofs.Lists.{get_d_map}
use Rattle.page.specs.declared.Page.{Page}
use Rattle.receiver.specs.declared.Selection.{Selection}
use Rattle.sending.specs.Sending.{chosen_rows, header_line, line_count, lines_of, row_line}
use Rattle.demands.specs.Runs.{Line, line_at, received_at}
use Rattle.demands.specs.Worked.{as_sent}
use Rattle.returning.specs.Returned.{fed}

-- ---- a run of any lines and a further one

abbrev pub all_lines : List (List ℕ) → List ℕ → List (List ℕ)
all_lines lines further = lines ++ (further ∷ [])

pub all_length : (lines : List (List ℕ)) (further : List ℕ) → length (all_lines lines further) ≡ suc (length lines)
all_length lines further = omega (arith, length-append lines (further ∷ []))

module _ (selection : Selection) (lent : List ℕ) (lines : List (List ℕ)) (further : List ℕ) where
  abbrev all : List (List ℕ)
  all = all_lines lines further

  abbrev received : ℕ → List ℕ
  received k = received_at (fed selection lent lines further).lines k

  fed-all : (fed selection lent lines further).lines ≡ map as_sent all
  unfolding fed
  fed-all = sym (map-append as_sent lines (further ∷ []))

  pub fed-length : length (fed selection lent lines further).lines ≡ length all
  fed-length = ap length fed-all ∙ length-map all as_sent

  -- each line is received as it was sent
  pub fed-at : (k : ℕ) → k < length all → received k ≡ get_or all k []
  unfolding line_at as_sent
  fed-at k h = ap (λ (xs : List Line). received_at xs k) fed-all ∙ ap (λ (line : Line). line.received) (get_d_map as_sent all k _ [] h)

  pub fed-line : (k : ℕ) → k < length lines → received k ≡ get_or lines k []
  fed-line k h = fed-at k (omega (arith, all_length lines further)) ∙ get_or-append lines (further ∷ []) [] k h

  pub fed-further : (k : ℕ) → length lines ≡ k → received k ≡ further
  fed-further k e = fed-at k (omega (arith, all_length lines further)) ∙ get_or_at lines further [] [] k e

-- ---- the lines of a page

module _ (page : Page) (wanted : List Bool) where
  pub count-is : line_count wanted ≡ suc (length (chosen_rows wanted))
  unfolding line_count
  count-is = refl

  pub first-line : get_or (lines_of page wanted) 0 [] ≡ header_line page
  unfolding lines_of
  first-line = refl

  pub later-line : (k : ℕ) → k < length (chosen_rows wanted) → get_or (lines_of page wanted) (suc k) [] ≡ row_line page (get_or (chosen_rows wanted) k 0)
  unfolding lines_of
  later-line k h = get_d_map (row_line page) (chosen_rows wanted) k [] 0 h
