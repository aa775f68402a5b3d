-- The rows gathered so far, and the spans that are left.
use mathlib.Core.Path.{◌≡◌, refl, ◌∙◌, ap, sym}
use mathlib.Core.Bool.{Bool, true, false, cond, ◌||◌, or-false}
use mathlib.Core.List.{List, [], ◌∷◌}
use Prim.Native.Nat.{ℕ, zero, suc, ◌+◌, ◌<◌}
use native.Mathlib.Nat.{not-suc-le-zero, le_of_suc-le-suc}
use native.Mathlib.Numerals.{one-add}
use native.Mathlib.Omega.{arith}
use lib.ListN.{length, get_or, replicate, get_or-replicate}
use lib.Seq.{ext_get_or}
use Rattle.std.specs.Prelude.{Option, Some, None}
use Rattle.grid.specs.Grid.{last_row}
use Rattle.laws.specs.Every.{every}
use Rattle.laws.proofs.Bools.{or_assoc}
use Rattle.choosing.specs.Chosen.{covered, covers, covered_from, first_row, is_span, names_rows, says_rows, spans_in, wanted_of, wanted_rows}
use Rattle.choosing.specs.Private.{Joined}
use Rattle.choosing.specs.declared.Span.{Span}

-- what is gathered, joined with the spans that are left, is what the argument says
pub record Gathered (argument : List ℕ) (wanted : List Bool) (spans : List (Option Span)) : Type 0 where
  pub size : length wanted ≡ last_row
  pub named : every is_span spans ≡ names_rows argument
  pub each : (k : ℕ) → k < last_row → (get_or wanted k false || covered spans (suc k)) ≡ covered (spans_in argument) (suc k)

length_covered : (spans : List (Option Span)) (row n : ℕ) → length (covered_from spans row n) ≡ n
unfolding covered_from
length_covered spans row zero = refl
length_covered spans row (suc n) = ap suc (length_covered spans (suc row) n)

covered_at : (spans : List (Option Span)) (row n k : ℕ) → k < n → get_or (covered_from spans row n) k false ≡ covered spans (row + k)
unfolding covered_from
covered_at spans row zero k h = absurd (not-suc-le-zero h)
covered_at spans row (suc n) zero h = ap (covered spans) (omega arith)
covered_at spans row (suc n) (suc k) h = covered_at spans (suc row) n k (le_of_suc-le-suc h) ∙ ap (covered spans) (omega arith)

module _ (argument : List ℕ) where
  pub gathered_none : Gathered argument (replicate last_row false) (spans_in argument)
  unfolding names_rows
  gathered_none = record { size = refl; named = refl; each = λ k h. rw (get_or-replicate last_row k false false h) }

  pub one_more : {wanted : List Bool} {span : Span} {spans : List (Option Span)} → Gathered argument wanted (Some span ∷ spans)
      → {joined : List Bool} → Joined wanted span joined → Gathered argument joined spans
  unfolding every covered
  one_more {wanted} {span} {spans} so_far more =
      record {
        size = more.size;
        named = so_far.named;
        each = λ k h.
            ap (λ b. b || covered spans (suc k)) (more.each k h) ∙ or_assoc (get_or wanted k false) (covers span (suc k)) (covered spans (suc k))
            ∙ so_far.each k h;
      }

  -- a part that is none, and the argument names no rows
  pub says_none : {wanted : List Bool} {spans : List (Option Span)} → Gathered argument wanted (None ∷ spans)
      → (says_rows None ≡ names_rows argument) × (wanted_of None ≡ wanted_rows argument)
  unfolding every says_rows wanted_of wanted_rows
  says_none so_far = rw (sym so_far.named) (refl, refl)

  when-named : names_rows argument ≡ true → wanted_rows argument ≡ covered_from (spans_in argument) first_row last_row
  unfolding wanted_rows
  when-named e = ap (λ b. cond b (covered_from (spans_in argument) first_row last_row) (replicate last_row false)) e

  module _ {wanted : List Bool} (all : Gathered argument wanted []) where
    row_is : (k : ℕ) → k < length wanted → get_or wanted k false ≡ get_or (covered_from (spans_in argument) first_row last_row) k false
    unfolding covered
    row_is k h =
        let below : k < last_row = rw all.size at h in
        let here = covered_at (spans_in argument) first_row last_row k below ∙ ap (covered (spans_in argument)) (one-add k) in
        sym (or-false (get_or wanted k false)) ∙ all.each k below ∙ sym here

    pub says-rows : (says_rows (Some wanted) ≡ names_rows argument) × (wanted_of (Some wanted) ≡ wanted_rows argument)
    unfolding every says_rows wanted_of
    says-rows =
        let same_length = all.size ∙ sym (length_covered (spans_in argument) first_row last_row) in
        (all.named, ext_get_or false wanted (covered_from (spans_in argument) first_row last_row) same_length row_is ∙ sym (when-named (sym all.named)))
