-- The checks of 24 and 23 cell by cell, and what each answer shows.
use mathlib.Core.Path.{◌≡◌, refl, ◌∙◌, sym}
use mathlib.Core.Bool.{Bool, true, false, not, cond, ◌&&◌, ◌||◌, not-not, and_comm, and-true, or-false}
use mathlib.Core.List.{List, [], ◌∷◌}
use Prim.Native.Nat.{ℕ, zero, suc, ◌+◌, ◌-◌, ◌^◌, ◌<◌, ◌≤◌}
use native.Mathlib.Nat.{le_trans}
use native.Mathlib.Numerals.{add-one}
use native.Mathlib.Omega.{arith}
use borrow.Author.Tests.{eq-eqb, eqb-true, leb-true, leb-false, le-leb, lt-leb}
use lib.Bits.{bit_or, or_add_and, or_lt, and_le_l, and_le_r}
use lib.Dec.{eqb, leb, ltb}
use lib.ListN.{length, get_or, take, drop, drop_of_length-le}
use lib.Seq.{drop-cons}
use Rattle.std.proofs.Math.Nat.{le-max_left, le-max_right, max-le}
use Rattle.std.specs.Prelude.{◌≢◌, max, ◌↔◌, IsTrue, Ok, Err, SomeIndex, is_ok, slice_index, ⊤}
use Rattle.laws.specs.Every.{every, every_pair}
use Rattle.laws.specs.Fields.{fits}
use Rattle.laws.proofs.Opposite.{at_most_is, below_is}
use Rattle.packet.specs.Texts.{header_column}
use Rattle.packing.specs.Cells.{character_width, mark_width}
use Rattle.page.specs.Lawful.{cell_lawful, cells_checked, cells_fit, cells_lawful, highest_mark, is_never, never, space}
use Rattle.page.specs.Records.{cells_of}
use Rattle.page.specs.declared.Cells.{Cells}
use Rattle.page.specs.declared.CellsError.TheVariants.{TooLarge, Unlawful}

-- ---- the columns 0 to 7 of row 0

-- one is marked just where not every one is never
pub marked_by : (marks : List ℕ) (marked : Bool) → (IsTrue marked ↔ SomeIndex marks (λ k. slice_index marks k ≢ never)) → marked ≡ not (every is_never marks)
unfolding is_never every
marked_by [] true e = absurd (omega (arith, (e.0 refl).1))
marked_by [] false e = refl
marked_by (mark ∷ marks) marked e = by (eqb mark never) refl (marked_by marks marked)
  where
    later : eqb mark never ≡ true → SomeIndex (mark ∷ marks) (λ k. slice_index (mark ∷ marks) k ≢ never) → SomeIndex marks (λ k. slice_index marks k ≢ never)
    later z (zero, h, other) = absurd (other (eqb-true mark never z))
    later z (suc k, h, other) = (k, omega arith, other)

    by : (z : Bool) → eqb mark never ≡ z → (IsTrue marked ↔ SomeIndex marks (λ k. slice_index marks k ≢ never) → marked ≡ not (every is_never marks))
        → marked ≡ not (eqb mark never && every is_never marks)
    by true z rest = rw z (rest (λ t. later z (e.0 t), λ some. e.1 (suc some.0, omega (arith, some.1), some.2)))
    by false z rest = rw z (e.1 (0, omega arith, λ w. absurd (cc (eq-eqb mark never w))))

-- ---- what is gathered of the cells

-- the largest number that fits so many bits
abbrev pub largest : ℕ → ℕ
largest width = 2 ^ width - 1

-- whether the characters' bits and the highest mark show a cell that is too large
abbrev pub large : ℕ → ℕ → Bool
large character-bits highest = ltb (largest character_width) character-bits || ltb (largest mark_width) highest

-- whether a mark above the lawful ones was seen, or something else that is unlawful
abbrev pub wrong : Bool → ℕ → Bool
wrong unlawful highest = unlawful || ltb highest_mark highest

-- ---- one cell more

fit_cases : (p' q' p q r s : Bool) → (not (q' || p') && ((not p && r) && (not q && s))) ≡ (not ((q' || q) || (p' || p)) && (r && s))
fit_cases p' true p q r s = refl
fit_cases true false p true r s = refl
fit_cases true false p false r s = refl
fit_cases false false true true r s = refl
fit_cases false false true false r s = refl
fit_cases false false false true true s = refl
fit_cases false false false true false s = refl
fit_cases false false false false r s = refl

-- a number made of the bits of two reaches a power of two just where one of them does
module _ (k a b : ℕ) where
  grows-l : a ≤ bit_or a b
  grows-l = let e = or_add_and a b in let h = and_le_r a b in omega arith

  grows-r : b ≤ bit_or a b
  grows-r = let e = or_add_and a b in let h = and_le_l a b in omega arith

  reached : (p q : Bool) → leb (2 ^ k) a ≡ p → leb (2 ^ k) b ≡ q → leb (2 ^ k) (bit_or a b) ≡ (p || q)
  reached true q e f = le-leb (2 ^ k) (bit_or a b) (le_trans (leb-true (2 ^ k) a e) grows-l)
  reached false true e f = le-leb (2 ^ k) (bit_or a b) (le_trans (leb-true (2 ^ k) b f) grows-r)
  reached false false e f = lt-leb (2 ^ k) (bit_or a b) (or_lt k a b (leb-false (2 ^ k) a e) (leb-false (2 ^ k) b f))

  or-reaches : leb (2 ^ k) (bit_or a b) ≡ (leb (2 ^ k) a || leb (2 ^ k) b)
  or-reaches = reached (leb (2 ^ k) a) (leb (2 ^ k) b) refl refl

-- the higher of two numbers reaches a bound just where one of them does
module _ (bound a b : ℕ) where
  higher-cases : (p q : Bool) → leb bound a ≡ p → leb bound b ≡ q → leb bound (max a b) ≡ (p || q)
  higher-cases true q e f = le-leb bound (max a b) (le_trans (leb-true bound a e) (le-max_left a b))
  higher-cases false true e f = le-leb bound (max a b) (le_trans (leb-true bound b f) (le-max_right a b))
  higher-cases false false e f =
      let l = leb-false bound a e in
      let r = leb-false bound b f in
      let least : max a b ≤ bound - 1 = max-le (omega arith) (omega arith) in
      lt-leb bound (max a b) (omega arith)

  higher-reaches : leb bound (max a b) ≡ (leb bound a || leb bound b)
  higher-reaches = higher-cases (leb bound a) (leb bound b) refl refl

lawful_cases : (u h m z s r : Bool) → (not (u || h) && ((not m && (not z || s)) && r)) ≡ (not ((u || (z && not s)) || (h || m)) && r)
lawful_cases true h m z s r = refl
lawful_cases false true m true true r = refl
lawful_cases false true m true false r = refl
lawful_cases false true m false s r = refl
lawful_cases false false true true true r = refl
lawful_cases false false true true false r = refl
lawful_cases false false true false s r = refl
lawful_cases false false false true true r = refl
lawful_cases false false false true false r = refl
lawful_cases false false false false s r = refl

module _ (characters marks : List ℕ) (at : ℕ) (c : at < length characters) (m : at < length marks) where
  abbrev character : ℕ
  character = get_or characters at 0

  abbrev mark : ℕ
  mark = get_or marks at 0

  pub fit-more : (character-bits highest higher : ℕ) → higher ≡ max highest mark
      → (not (large character-bits highest) && cells_fit (cells_of (drop at characters) (drop at marks)))
      ≡ (not (large (bit_or character-bits character) higher) && cells_fit (cells_of (drop (at + 1) characters) (drop (at + 1) marks)))
  unfolding cells_fit every fits
  fit-more character-bits highest higher e =
      rw (
        e,
        add-one at,
        drop-cons characters at 0 c,
        drop-cons marks at 0 m,
        below_is mark (2 ^ mark_width),
        below_is character (2 ^ character_width),
        or-reaches character_width character-bits character,
        higher-reaches (2 ^ mark_width) highest mark,
      )
      (fit_cases (ltb (largest mark_width) highest) (ltb (largest character_width) character-bits) (ltb (largest mark_width) mark)
      (ltb (largest character_width) character) (every (fits mark_width) (drop (suc at) marks)) (every (fits character_width) (drop (suc at) characters)))

  pub lawful-more : (unlawful : Bool) (highest higher : ℕ) → higher ≡ max highest mark
      → (not (wrong unlawful highest) && every_pair cell_lawful (drop at marks) (drop at characters))
      ≡ (not (wrong (unlawful || (eqb mark never && not (eqb character space))) higher)
      && every_pair cell_lawful (drop (at + 1) marks) (drop (at + 1) characters))
  unfolding every_pair cell_lawful
  lawful-more unlawful highest higher e =
      rw (e, add-one at, drop-cons characters at 0 c, drop-cons marks at 0 m, at_most_is mark highest_mark, higher-reaches (suc highest_mark) highest mark)
      (lawful_cases unlawful (ltb highest_mark highest) (ltb highest_mark mark) (eqb mark never) (eqb character space)
      (every_pair cell_lawful (drop (suc at) marks) (drop (suc at) characters)))

-- ---- none asked yet, and all asked

pub lawful_first : (characters marks : List ℕ) (marked : Bool) → marked ≡ not (every is_never (take header_column marks))
    → (not (wrong marked 0) && every_pair cell_lawful marks characters) ≡ cells_lawful (cells_of characters marks)
unfolding cells_lawful
lawful_first characters marks marked e =
    rw (or-false marked, e, not-not (every is_never (take header_column marks)))
    (and_comm (every is_never (take header_column marks)) (every_pair cell_lawful marks characters))

module _ (characters marks : List ℕ) (at : ℕ) (c : length characters ≤ at) (m : length marks ≤ at) where
  pub fit-last : (large rest : Bool) → (not large && cells_fit (cells_of (drop at characters) (drop at marks))) ≡ rest → rest ≡ not large
  unfolding cells_fit every
  fit-last large rest e =
      sym (sym (and-true (not large))
      ∙ (rw (drop_of_length-le characters c, drop_of_length-le marks m) at e))

  pub lawful-last : (wrong rest : Bool) → (not wrong && every_pair cell_lawful (drop at marks) (drop at characters)) ≡ rest → rest ≡ not wrong
  unfolding every_pair
  lawful-last wrong rest e =
      sym (sym (and-true (not wrong))
      ∙ (rw (drop_of_length-le characters c, drop_of_length-le marks m) at e))

-- ---- what an answer shows

module _ (cells : Cells) where
  checked : {fit lawful : Bool} → cells_fit cells ≡ fit → cells_lawful cells ≡ lawful → cells_checked cells ≡ cond fit (cond lawful (Ok tt) (Err Unlawful)) (Err TooLarge)
  unfolding cells_checked
  checked e f = rw (e, f)

  pub answer-large : cells_fit cells ≡ false → cells_checked cells ≡ Err TooLarge
  answer-large e = checked e refl

  pub answer-unlawful : cells_fit cells ≡ true → cells_lawful cells ≡ false → cells_checked cells ≡ Err Unlawful
  answer-unlawful e f = checked e f

  pub answer-lawful : cells_fit cells ≡ true → cells_lawful cells ≡ true → cells_checked cells ≡ Ok tt
  answer-lawful e f = checked e f

-- cells that fit are lawful just where the check has nothing against them
pub lawful_is_ok : (cells : Cells) → cells_fit cells ≡ true → is_ok (cells_checked cells) ≡ cells_lawful cells
unfolding cells_checked
lawful_is_ok cells e = rw e (by (cells_lawful cells))
  where
    by : (lawful : Bool) → is_ok {T = ⊤} (cond lawful (Ok tt) (Err Unlawful)) ≡ lawful
    by true = refl
    by false = refl
