-- A row's number, by its length and its digits.
use mathlib.Core.Path.{◌≡◌, refl}
use mathlib.Core.Bool.{Bool, true, false, cond, and-false}
use mathlib.Core.List.{List, [], ◌∷◌}
use Prim.Native.Nat.{ℕ, ◌<◌, ◌≤◌}
use native.Mathlib.Omega.{arith}
use borrow.Author.Tests.{eqb-true, leb-true, le-leb, lt-leb}
use lib.Dec.{eqb}
use lib.ListN.{length}
use Rattle.std.specs.Prelude.{None, Some}
use Rattle.grid.specs.Grid.{last_row}
use Rattle.laws.proofs.Bools.{both_true}
use Rattle.choosing.specs.Chosen.{count, first_row, front, hyphen, is_digit, row_in, row_of}

pub digit_from : (byte : ℕ) → is_digit byte ≡ true → (0x30 ≤ byte) × (byte ≤ 0x39)
digit_from byte is = let (low, high) = both_true _ _ is in (leb-true 0x30 byte low, leb-true byte 0x39 high)

-- two digits, by what they count
module _ (tens units : ℕ) (tens-is : is_digit tens ≡ true) (units-is : is_digit units ≡ true) where
  pub row-there : first_row ≤ count tens units → count tens units ≤ last_row → row_of tens units ≡ Some (count tens units)
  unfolding row_of
  row-there g h = rw (tens-is, units-is, le-leb first_row (count tens units) g, le-leb (count tens units) last_row h)

  pub row-below : count tens units < first_row → row_of tens units ≡ None
  unfolding row_of
  row-below h = rw (tens-is, units-is, lt-leb first_row (count tens units) h)

  pub no-such-row : last_row < count tens units → row_of tens units ≡ None
  unfolding row_of
  no-such-row h = rw (tens-is, units-is, lt-leb (count tens units) last_row h, and-false)

-- a hyphen is no digit
no_tens : (tens units : ℕ) → tens ≡ hyphen → row_of tens units ≡ None
unfolding row_of
no_tens tens units e = rw e

no_units : (tens units : ℕ) → units ≡ hyphen → row_of tens units ≡ None
unfolding row_of
no_units tens units e = rw (e, and-false)

-- a text with a hyphen in it is no row
pub no_hyphen : (text : List ℕ) → length (front hyphen text) < length text → row_in text ≡ None
unfolding row_in front
no_hyphen [] h = absurd (omega arith)
no_hyphen (units ∷ []) h = by (eqb units hyphen) refl h where
  by : (is : Bool) → eqb units hyphen ≡ is → length (cond is [] (units ∷ [])) < 1 → row_of 0x30 units ≡ None
  by true e h = no_units 0x30 units (eqb-true _ _ e)
  by false e h = absurd (omega arith)
no_hyphen (tens ∷ units ∷ []) h = by (eqb tens hyphen) (eqb units hyphen) refl refl h where
  by : (first second : Bool) → eqb tens hyphen ≡ first → eqb units hyphen ≡ second
      → length (cond first [] (tens ∷ cond second [] (units ∷ []))) < 2 → row_of tens units ≡ None
  by true second e f h = no_tens tens units (eqb-true _ _ e)
  by false true e f h = no_units tens units (eqb-true _ _ f)
  by false false e f h = absurd (omega arith)
no_hyphen (tens ∷ units ∷ third ∷ more) h = refl
