-- "Held goes blank when letters/mosaics or size really changes", said of the whole step as the paper says it: at a control code held goes blank just
-- where the state after it differs in these from the state before it, and else it stays. (`printed-next` of `Codes` has the other codes.)
use mathlib.Core.Path.{◌≡◌, refl}
use mathlib.Core.Bool.{Bool, true, false, not, cond, ◌||◌, beq}
use Prim.Native.Nat.{ℕ, ◌<◌}
use lib.Dec.{T}
use Rattle.laws.specs.Below.{all_below}
use Rattle.laws.proofs.Below.{at}
use Rattle.display.specs.Display.{blank, own_cell, ends_double, changes_after, next}
use Rattle.display.specs.declared.Symbol.{Symbol}
use Rattle.display.specs.declared.state.RowState.{RowState}
use Rattle.display.proofs.Codes.{control-gives}

-- letters/mosaics or size differ
abbrev pub really : RowState → RowState → Bool
really old new = not (beq old.mosaics new.mosaics) || not (beq old.double new.double)

-- held is made blank at the code's own cell, or after it
abbrev blanks : RowState → ℕ → Bool
blanks state code = ends_double state code || changes_after (own_cell state code) code

-- which of them are, goes by mode, size and code alone: a state with that mode and size, and one test over the control codes for each
abbrev probe : Bool → Bool → RowState
probe mosaics double =
    record {
      mosaics = mosaics;
      foreground = 0;
      background = 0;
      flash = false;
      conceal = false;
      boxed = false;
      double = double;
      separated = false;
      hold = false;
      held = blank;
      before = 0;
    }

abbrev agree : Bool → Bool → ℕ → Bool
agree mosaics double code = beq (blanks (probe mosaics double) code) (really (probe mosaics double) (next (probe mosaics double) code))

tried : (mosaics double : Bool) → T (all_below 0x20 (agree mosaics double))
unfolding all_below ends_double changes_after own_cell next
tried true true = tt
tried true false = tt
tried false true = tt
tried false false = tt

same : (a b : Bool) → T (beq a b) → a ≡ b
same true true t = refl
same true false t = absurd t
same false true t = absurd t
same false false t = refl

either : (first second : Bool) (symbol : Symbol) → cond second blank (cond first blank symbol) ≡ cond (first || second) blank symbol
either true true symbol = refl
either true false symbol = refl
either false true symbol = refl
either false false symbol = refl

module _ (state : RowState) (code : ℕ) (low : code < 0x20) where
  blanks-really : blanks state code ≡ really state (next state code)
  unfolding ends_double changes_after own_cell next
  blanks-really = same _ _ (at 0x20 (agree state.mosaics state.double) (tried state.mosaics state.double) code low)

  held-blanks : (next state code).held ≡ cond (blanks state code) blank state.held
  unfolding ends_double changes_after own_cell next
  held-blanks = rw (control-gives (own_cell state code) code low) (either (ends_double state code) (changes_after (own_cell state code) code) state.held)

  pub held-rule : (next state code).held ≡ cond (really state (next state code)) blank state.held
  held-rule = rw (← blanks-really) held-blanks
