-- The page that an argument asks for, by its length and its digits.
use mathlib.Core.Path.{◌≡◌}
use mathlib.Core.Bool.{Bool, true, false, ◌&&◌}
use mathlib.Core.List.{List}
use mathlib.Core.Option.{none, some}
use Prim.Native.Nat.{ℕ}
use native.Mathlib.Omega.{arith}
use borrow.Author.Tests.{eq-eqb, ne_eqb}
use lib.ListN.{length}
use Rattle.receiver.specs.declared.When.TheVariants.{Any}
use Rattle.asking.specs.Asked.{asked, is_number, is_time, selection_asked, time_asked}

pub both_are : {a b c d : Bool} → a ≡ c → b ≡ d → (a && b) ≡ (c && d)
both_are e f i = e i && f i

module _ (argument : List ℕ) where
  pub number-alone : length argument ≡ 3 → is_number argument ≡ true → asked argument ≡ some (selection_asked argument Any)
  unfolding asked
  number-alone size is = rw (eq-eqb _ 3 size, is)

  pub no_number : length argument ≡ 3 → is_number argument ≡ false → asked argument ≡ none
  unfolding asked
  no_number size is = rw (eq-eqb _ 3 size, is)

  not_three : length argument ≡ 8 → length argument ≡ 3 → ⊥
  not_three size other = omega arith

  pub with-time : length argument ≡ 8 → (is_number argument && is_time argument) ≡ true
      → asked argument ≡ some (selection_asked argument (time_asked argument))
  unfolding asked
  with-time size is = rw (ne_eqb _ 3 (not_three size), eq-eqb _ 8 size, is)

  pub no-time : length argument ≡ 8 → (is_number argument && is_time argument) ≡ false → asked argument ≡ none
  unfolding asked
  no-time size is = rw (ne_eqb _ 3 (not_three size), eq-eqb _ 8 size, is)

  pub other_length : (length argument ≡ 3 → ⊥) → (length argument ≡ 8 → ⊥) → asked argument ≡ none
  unfolding asked
  other_length three eight = rw (ne_eqb _ 3 three, ne_eqb _ 8 eight)
