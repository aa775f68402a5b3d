-- The table of tables: the row that a page's control bits choose, the position of a code among the thirteen, and the letter there. That every set has a letter for each
-- of the thirteen is one test over all of them.
use mathlib.Core.Path.{◌≡◌, refl, sym, ◌∙◌, ap}
use mathlib.Core.Bool.{Bool, true, false, cond}
use mathlib.Core.List.{List, [], ◌∷◌}
use Prim.Native.Nat.{ℕ, suc, ◌<◌, ◌≤◌}
use native.Mathlib.Omega.{arith}
use borrow.Author.Tests.{leb-false, leb-true}
use lib.Dec.{T, eqb, leb, eqb→eq}
use lib.ListN.{length, get_or, get_or-eq_default}
use Rattle.laws.specs.Below.{all_below}
use Rattle.laws.proofs.Below.{at}
use Rattle.laws.proofs.Lists.{get_d_any}
use Rattle.letters.specs.Private.{row_of}
use Rattle.letters.specs.Sets.{english, letter_in, national_codes, option_of, position_among, set_for, sets, stands_in}

-- ---- the row

row_by : (option : ℕ) (none : Bool) → leb (length sets) option ≡ none
    → (cond none 0 option < length sets) × (get_or sets (cond none 0 option) [] ≡ set_for option)
unfolding set_for sets
row_by option true e = (omega arith, sym (get_or-eq_default sets english (leb-true (length sets) option e)))
row_by option false e = let there = leb-false (length sets) option e in (there, get_d_any sets option [] english there)

module _ (control : ℕ) where
  pub row_small : row_of control < length sets
  unfolding row_of stands_in
  row_small = (row_by (option_of control) (stands_in control) refl).0

  pub row-set : get_or sets (row_of control) [] ≡ set_for (option_of control)
  unfolding row_of stands_in
  row-set = (row_by (option_of control) (stands_in control) refl).1

-- ---- as many letters as codes

pub option_small : (control : ℕ) → option_of control < 8
unfolding option_of
option_small control = omega arith

is_whole : ℕ → Bool
is_whole option = eqb (length (set_for option)) (length national_codes)

all_whole : T (all_below 8 is_whole)
unfolding is_whole all_below set_for sets national_codes
all_whole = tt

pub set_whole : (control : ℕ) → length (set_for (option_of control)) ≡ length national_codes
unfolding is_whole
set_whole control = eqb→eq _ _ (at 8 is_whole all_whole (option_of control) (option_small control))

-- ---- the position of a code

-- behind the last at most
position_by : (first : Bool) (more most : ℕ) → more ≤ most → cond first 0 (suc more) ≤ suc most
position_by true more most h = omega arith
position_by false more most h = omega arith

pub position_most : (codes : List ℕ) (code : ℕ) → position_among codes code ≤ length codes
unfolding position_among
position_most [] code = omega arith
position_most (national ∷ codes) code = position_by (eqb code national) (position_among codes code) (length codes) (position_most codes code)

-- ---- the letter there

pub inside : (code position : ℕ) → position ≡ position_among national_codes code → (position ≡ length national_codes → ⊥) → position < length national_codes
inside code position is other = let most = position_most national_codes code in omega arith

module _ (letters : List ℕ) (whole : length letters ≡ length national_codes) (code position : ℕ) (is : position ≡ position_among national_codes code) where
  -- a code outside the thirteen is its own letter
  pub own-letter : position ≡ length national_codes → code ≡ letter_in letters code
  unfolding letter_in
  own-letter outside = sym (get_or-eq_default letters code (omega arith))

  pub letter-there : position < length national_codes → get_or letters position 0 ≡ letter_in letters code
  unfolding letter_in
  letter-there there = get_d_any letters position 0 code (omega arith) ∙ ap (λ (k : ℕ). get_or letters k code) is
