-- Control codes, below 20, and printed ones, from 20 up: what of the rule each of them reaches. A printed code changes nothing of the state but the held
-- mosaic and the code before.
use mathlib.Core.Path.{◌≡◌, refl, sym, ◌∙◌, ap}
use mathlib.Core.Bool.{Bool, true, false, not, cond, ◌&&◌, and-false, false≢true}
use Prim.Native.Nat.{ℕ, ◌<◌, ◌≤◌}
use native.Mathlib.Omega.{arith}
use borrow.Author.Tests.{lt-ltb, le-ltb, lt-leb, ne_eqb}
use lib.Dec.{T, eqb}
use Rattle.laws.specs.Below.{all_below}
use Rattle.laws.proofs.Below.{at}
use Rattle.display.specs.Display.{own_cell, shown_control, shown, gives_pattern, mosaic, cell, letters_colour, mosaics_colour, after_cell, cell_at, next}
use Rattle.display.specs.Private.{passed, acts_at_once}
use Rattle.display.specs.declared.Cell.{Cell}
use Rattle.display.specs.declared.Symbol.{Symbol}
use Rattle.display.specs.declared.Symbol.TheVariants.{Letter}
use Rattle.display.specs.declared.state.RowState.{RowState}
use Rattle.display.proofs.Steps.{cell_at_is, next_is}

-- what is held after a code with no effects after its cell: its own mosaic, or what was held
abbrev pub held_after : RowState → ℕ → Symbol
held_after state code = cond (gives_pattern state code) (mosaic state code) state.held

-- a code that does not act at once has no effect at its own cell
module _ (state : RowState) (code : ℕ) (late : acts_at_once code ≡ false) where
  other : (n : ℕ) → acts_at_once n ≡ true → eqb code n ≡ false
  other n e = ne_eqb code n (λ same. false≢true (sym late ∙ (ap acts_at_once same ∙ e)))

  pub late-own : own_cell state code ≡ state
  unfolding own_cell acts_at_once
  late-own =
      simp (
        other 0x09 refl,
        other 0x0A refl,
        other 0x0B refl,
        other 0x0C refl,
        other 0x18 refl,
        other 0x19 refl,
        other 0x1A refl,
        other 0x1C refl,
        other 0x1D refl,
        other 0x1E refl,
      )

-- a code that is none of those that act after their cell has no effect there
quiet_after : (state : RowState) (code : ℕ) → letters_colour code ≡ false → mosaics_colour code ≡ false
    → eqb code 0x08 ≡ false → eqb code 0x0D ≡ false → eqb code 0x1F ≡ false
    → after_cell state code ≡ passed state (held_after state code) code
unfolding after_cell passed
quiet_after state code letters mosaics flashes doubles releases = simp (letters, mosaics, flashes, doubles, releases)

module _ (state : RowState) (code : ℕ) (high : 0x20 ≤ code) where
  none_of : (n : ℕ) → n < 0x20 → eqb code n ≡ false
  none_of n h = ne_eqb code n (λ e. omega arith)

  printed-late : acts_at_once code ≡ false
  unfolding acts_at_once
  printed-late = simp (lt-leb code 0x0C (omega arith), lt-leb code 0x1E (omega arith), and-false)

  printed-own : own_cell state code ≡ state
  printed-own = late-own state code printed-late

  printed-shown : shown state code ≡ cond (gives_pattern state code) (mosaic state code) (Letter code)
  unfolding shown
  printed-shown = rw (le-ltb code 0x20 high)

  printed-after : after_cell state code ≡ passed state (held_after state code) code
  unfolding letters_colour mosaics_colour
  printed-after =
      quiet_after state code (simp (lt-leb code 0x07 (omega arith), and-false)) (simp (lt-leb code 0x17 (omega arith), and-false))
      (none_of 0x08 (omega arith)) (none_of 0x0D (omega arith)) (none_of 0x1F (omega arith))

  pub printed-cell : cell state (cond (gives_pattern state code) (mosaic state code) (Letter code)) ≡ cell_at state code
  printed-cell = rw (← cell_at_is state code, printed-own, printed-shown)

  pub printed-next : next state code ≡ passed state (held_after state code) code
  printed-next = rw (← next_is state code, printed-own, printed-after)

  -- so that the state is left but for these two
  pub printed-passed : {after : RowState} → after ≡ next state code → passed state after.held code ≡ next state code
  unfolding passed
  printed-passed e = rw (e, printed-next) refl

apart : (a b : Bool) → T (not (a && b)) → a ≡ true → b ≡ false
apart true true t e = absurd t
apart true false t e = refl
apart false b t e = absurd (false≢true e)

module _ (state : RowState) (code : ℕ) (low : code < 0x20) where
  pub control-shown : shown state code ≡ shown_control state
  unfolding shown
  control-shown = rw (lt-ltb code 0x20 low)

  pub control-gives : gives_pattern state code ≡ false
  unfolding gives_pattern
  control-gives = simp (lt-leb 0x20 code low, lt-leb 0x60 code (omega arith), and-false)

  -- a code that acts at once has all its effects there
  module _ (once : acts_at_once code ≡ true) where
    not_late : (test : ℕ → Bool) → T (all_below 0x20 (λ k. not (acts_at_once k && test k))) → test code ≡ false
    not_late test tried = apart (acts_at_once code) (test code) (at 0x20 (λ k. not (acts_at_once k && test k)) tried code low) once

    pub once_after : after_cell state code ≡ passed state state.held code
    unfolding all_below acts_at_once letters_colour mosaics_colour
    once_after =
        quiet_after state code (not_late letters_colour tt) (not_late mosaics_colour tt)
        (not_late (λ k. eqb k 0x08) tt) (not_late (λ k. eqb k 0x0D) tt) (not_late (λ k. eqb k 0x1F) tt)
        ∙ rw control-gives

-- the cell of a control code and the state after it, made by the parts of its step
module _ (state : RowState) {code : ℕ} (low : code < 0x20) {own : RowState} (owned : own ≡ own_cell state code) where
  pub control-cell : {symbol : Symbol} {made : Cell} → symbol ≡ shown_control own → made ≡ cell own symbol → made ≡ cell_at state code
  control-cell shows made = made ∙ rw (shows, owned, ← control-shown (own_cell state code) code low) (cell_at_is state code)

  pub control-next : {after : RowState} → after ≡ after_cell own code → after ≡ next state code
  control-next made = made ∙ rw owned (next_is state code)

-- 00, 0E, 0F, 10, 1B change nothing
abbrev pub Idle : RowState → ℕ → Type 0
Idle state code = next state code ≡ passed state state.held code

pub idle : (state : RowState) → Idle state 0x00 × Idle state 0x0E × Idle state 0x0F × Idle state 0x10 × Idle state 0x1B
unfolding next passed
idle state = (simp and-false, simp and-false, simp and-false, simp and-false, simp and-false)
