-- A row code by code: what one more code does to the definitions that go along the whole of it.
use mathlib.Core.Path.{◌≡◌, refl, ◌∙◌, sym, ap}
use mathlib.Core.Bool.{Bool, true, false, not, ◌&&◌, ◌||◌, and-false}
use mathlib.Core.List.{List, [], ◌∷◌}
use Prim.Native.Nat.{ℕ, suc, ◌+◌, ◌<◌, ◌≤◌}
use native.Mathlib.Numerals.{add-one}
use native.Mathlib.Omega.{arith}
use borrow.Author.Tests.{ne_eqb}
use lib.Dec.{eqb, leb}
use lib.ListN.{length, get_or, drop}
use lib.Seq.{drop-cons}
use Rattle.laws.proofs.Bools.{or_assoc}
use Rattle.laws.proofs.Keeps.{either}
use Rattle.display.specs.Display.{own_cell, shown, cell, after_cell, cell_at, next, along}
use Rattle.display.specs.Pages.{all_codes, double_code, has_double, read_as}
use Rattle.display.specs.declared.state.RowState.{RowState}

pub cell_at_is : (state : RowState) (code : ℕ) → cell (own_cell state code) (shown (own_cell state code) code) ≡ cell_at state code
unfolding cell_at
cell_at_is state code = refl

pub next_is : (state : RowState) (code : ℕ) → after_cell (own_cell state code) code ≡ next state code
unfolding next
next_is state code = refl

pub along_none : (state : RowState) → along state [] ≡ []
unfolding along
along_none state = refl

pub along_cons : (state : RowState) (code : ℕ) (codes : List ℕ) → along state (code ∷ codes) ≡ cell_at state code ∷ along (next state code) codes
unfolding along
along_cons state code codes = refl

pub codes_none : all_codes [] ≡ true
unfolding all_codes
codes_none = refl

pub codes_cons : (code : ℕ) (codes : List ℕ) → all_codes (code ∷ codes) ≡ leb code 0x7F && all_codes codes
unfolding all_codes
codes_cons code codes = refl

-- a cell for each code
pub along_length : (state : RowState) (codes : List ℕ) → length (along state codes) ≡ length codes
along_length state [] = ap length (along_none state)
along_length state (code ∷ codes) = ap length (along_cons state code codes) ∙ ap suc (along_length (next state code) codes)

pub double_none : has_double [] ≡ false
unfolding has_double
double_none = refl

pub double_from : (codes : List ℕ) (i : ℕ) → i < length codes → (found : Bool)
    → (found || eqb (get_or codes i 0) double_code) || has_double (drop (i + 1) codes) ≡ found || has_double (drop i codes)
unfolding has_double
double_from codes i h found =
    let here : drop i codes ≡ get_or codes i 0 ∷ drop (i + 1) codes = rw (add-one i) (drop-cons codes i 0 h) in
    or_assoc found (eqb (get_or codes i 0) double_code) (has_double (drop (i + 1) codes))
    ∙ ap (λ (rest : List ℕ). found || has_double rest) (sym here)

-- a control code is one as it is read
pub read_control : (counts : Bool) {code : ℕ} → code < 0x20 → read_as counts code < 0x20
unfolding read_as
read_control counts {code} h = either (λ (n : ℕ). n < 0x20) (not counts && eqb code double_code) 0x00 code (omega arith) h

-- a code that is no 0D is read as it is, and so is a printed one
pub as_it_is : (counts : Bool) (code : ℕ) → eqb code double_code ≡ false → read_as counts code ≡ code
unfolding read_as
as_it_is counts code e = rw (e, and-false)

pub read_printed : (counts : Bool) {code : ℕ} → 0x20 ≤ code → read_as counts code ≡ code
read_printed counts {code} h = as_it_is counts code (ne_eqb code double_code (λ e. omega arith))

pub low_as : {read code : ℕ} → read ≡ code → code < 0x20 → read < 0x20
low_as e h = rw e h
