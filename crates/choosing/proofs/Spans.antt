-- The span of a part, by its hyphens; and the spans of an argument, from one comma to the next.
use mathlib.Core.Path.{◌≡◌, refl, ◌∙◌, ap, sym}
use mathlib.Core.Bool.{Bool, true, false}
use mathlib.Core.List.{List, [], ◌∷◌, map}
use Prim.Native.Nat.{ℕ, ◌<◌}
use native.Mathlib.Omega.{arith}
use borrow.Author.Tests.{eqb-true, eqb-false}
use lib.Dec.{eqb}
use lib.ListN.{length, take}
use Rattle.std.specs.Prelude.{Option, Some, None}
use Rattle.choosing.specs.Chosen.{comma, front, hyphen, others, pieces, row_in, span_between, span_from, span_of, spans_in}
use Rattle.choosing.proofs.Marks.{behind, front_short, front-taken, one_piece, whole-piece, first_piece}
use Rattle.choosing.proofs.Numbers.{no_hyphen}

-- ---- a part: `size` bytes stand before its first hyphen

between : (part : List ℕ) {texts : List (List ℕ)} → pieces hyphen part ≡ texts → span_of part ≡ span_between (map row_in texts)
unfolding span_of
between part e = ap (λ texts. span_between (map row_in texts)) e

-- a part that begins with no row is none, and so is one that ends with none
none_first : (rows : List (Option ℕ)) → span_between (None ∷ rows) ≡ None
unfolding span_between
none_first [] = refl
none_first (last ∷ []) = refl
none_first (last ∷ third ∷ more) = refl

pub none_last : (first : Option ℕ) → span_from first None ≡ None
unfolding span_from
none_last None = refl
none_last (Some first) = refl

module _ (part : List ℕ) {size : ℕ} (is : size ≡ length (front hyphen part)) where
  pub no-first : row_in (take size part) ≡ None → span_of part ≡ None
  unfolding pieces
  no-first none = between part refl ∙ rw (front-taken hyphen part is, none) (none_first _)

  pub row-alone : size ≡ length part → span_of part ≡ span_from (row_in (take size part)) (row_in (take size part))
  unfolding span_between
  row-alone all = between part (one_piece hyphen part is all)

  -- behind the first hyphen stands a row, or, where there is another hyphen, none
  module _ (h : size < length part) where
    two : (same : Bool) → eqb (length (front hyphen (behind size part))) (length (behind size part)) ≡ same
        → span_of part ≡ span_from (row_in (take size part)) (row_in (behind size part))
    unfolding span_between pieces
    two true e =
        between part (
        first_piece hyphen part is h
        ∙ ap (λ texts. take size part ∷ texts) (whole-piece hyphen (behind size part) refl (eqb-true _ _ e)))
    two false e =
        let most = front_short hyphen (behind size part) in
        let not_all = eqb-false _ _ e in
        let more : length (front hyphen (behind size part)) < length (behind size part) = omega arith in
        between part (
        first_piece hyphen part is h
        ∙ ap (λ texts. take size part ∷ texts) (first_piece hyphen (behind size part) refl more))
        ∙ sym (ap (span_from (row_in (take size part))) (no_hyphen (behind size part) more) ∙ none_last _)

    pub two-rows : span_of part ≡ span_from (row_in (take size part)) (row_in (behind size part))
    two-rows = two _ refl

-- ---- an argument: `size` bytes stand before its first comma

module _ (argument : List ℕ) {size : ℕ} (is : size ≡ length (front comma argument)) where
  pub some-span : spans_in argument ≡ span_of (take size argument) ∷ map span_of (others comma argument)
  unfolding spans_in pieces
  some-span = ap (λ text. span_of text ∷ map span_of (others comma argument)) (front-taken comma argument is)

  pub last-span : size ≡ length argument → spans_in argument ≡ span_of (take size argument) ∷ []
  unfolding spans_in
  last-span all = ap (map span_of) (one_piece comma argument is all)

  pub first-span : size < length argument → spans_in argument ≡ span_of (take size argument) ∷ spans_in (behind size argument)
  unfolding spans_in
  first-span h = ap (map span_of) (first_piece comma argument is h)
