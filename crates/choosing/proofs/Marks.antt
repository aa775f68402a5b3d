-- A text with marks in it: its front, and the pieces behind.
use mathlib.Core.Path.{◌≡◌, refl, ap, ◌∙◌, sym}
use mathlib.Core.Bool.{Bool, true, false, not, cond}
use mathlib.Core.List.{List, [], ◌∷◌}
use Prim.Native.Nat.{ℕ, suc, ◌+◌, ◌-◌, ◌<◌, ◌≤◌}
use native.Mathlib.Nat.{not-suc-le-zero}
use native.Mathlib.Numerals.{add-one}
use native.Mathlib.Omega.{arith}
use lib.Dec.{eqb}
use lib.ListN.{length, take, drop, length-drop}
use lib.Seq.{take_all}
use Rattle.std.specs.List.{position_or_len}
use Rattle.choosing.specs.Chosen.{front, others, pieces}

module _ (mark : ℕ) where
  -- the front is so many bytes of the text
  front-is : (text : List ℕ) → take (length (front mark text)) text ≡ front mark text
  unfolding front
  front-is [] = refl
  front-is (byte ∷ text) = by (eqb byte mark) (front-is text) where
    by : (is : Bool) → take (length (front mark text)) text ≡ front mark text
        → take (length (cond is [] (byte ∷ front mark text))) (byte ∷ text) ≡ cond is [] (byte ∷ front mark text)
    by true e = refl
    by false e = ap (λ (t : List ℕ). byte ∷ t) e

  pub front_short : (text : List ℕ) → length (front mark text) ≤ length text
  unfolding front
  front_short [] = omega arith
  front_short (byte ∷ text) = by (eqb byte mark) (front_short text) where
    by : (is : Bool) → length (front mark text) ≤ length text → length (cond is [] (byte ∷ front mark text)) ≤ suc (length text)
    by true h = omega arith
    by false h = omega arith

  -- it is as long as there are bytes that are no mark
  pub front_length : (text : List ℕ) → position_or_len (λ byte. eqb byte mark) text ≡ length (front mark text)
  unfolding front
  front_length [] = refl
  front_length (byte ∷ text) = by (eqb byte mark) (front_length text) where
    by : (is : Bool) → position_or_len (λ byte. eqb byte mark) text ≡ length (front mark text)
        → cond (not is) (1 + position_or_len (λ byte. eqb byte mark) text) 0 ≡ length (cond is [] (byte ∷ front mark text))
    by true e = refl
    by false e = omega arith

  no-others : (text : List ℕ) → length (front mark text) ≡ length text → others mark text ≡ []
  unfolding front others
  no-others [] e = refl
  no-others (byte ∷ text) e = by (eqb byte mark) (no-others text) e where
    by : (is : Bool) → (length (front mark text) ≡ length text → others mark text ≡ [])
        → length (cond is [] (byte ∷ front mark text)) ≡ suc (length text)
        → cond is (front mark text ∷ others mark text) (others mark text) ≡ []
    by true rest e = absurd (omega arith)
    by false rest e = rest (omega arith)

  others-are : (text : List ℕ) → length (front mark text) < length text → others mark text ≡ pieces mark (drop (suc (length (front mark text))) text)
  unfolding front others pieces
  others-are [] h = absurd (not-suc-le-zero h)
  others-are (byte ∷ text) h = by (eqb byte mark) (others-are text) h where
    by : (is : Bool) → (length (front mark text) < length text → others mark text ≡ pieces mark (drop (suc (length (front mark text))) text))
        → length (cond is [] (byte ∷ front mark text)) < suc (length text)
        → cond is (front mark text ∷ others mark text) (others mark text) ≡ pieces mark (drop (length (cond is [] (byte ∷ front mark text))) text)
    by true rest h = refl
    by false rest h = rest (omega arith)

-- what stands behind the first bytes and the mark after them
abbrev pub behind : ℕ → List ℕ → List ℕ
behind size text = take (length text - (size + 1)) (drop (size + 1) text)

module _ (mark : ℕ) (text : List ℕ) {size : ℕ} (is : size ≡ length (front mark text)) where
  pub front-taken : front mark text ≡ take size text
  front-taken = sym (rw is (front-is mark text))

  -- a text without a mark
  pub one_piece : size ≡ length text → pieces mark text ≡ take size text ∷ []
  unfolding pieces
  one_piece all = rw (no-others mark text (sym is ∙ all), front-taken)

  pub whole-piece : size ≡ length text → pieces mark text ≡ text ∷ []
  whole-piece all = one_piece all ∙ ap (λ (t : List ℕ). t ∷ []) (take_all size text (omega arith))

  -- a text with a mark
  pub first_piece : size < length text → pieces mark text ≡ take size text ∷ pieces mark (behind size text)
  unfolding pieces
  first_piece h =
      let whole : behind size text ≡ drop (suc size) text =
      take_all (length text - (size + 1)) (drop (size + 1) text) (simp length-drop (omega arith)) ∙ ap (λ (n : ℕ). drop n text) (add-one size) in
      let others-behind = others-are mark text (rw is at h) ∙ ap (λ (n : ℕ). pieces mark (drop (suc n) text)) (sym is) ∙ ap (pieces mark) (sym whole) in
      λ i. front-taken i ∷ others-behind i
