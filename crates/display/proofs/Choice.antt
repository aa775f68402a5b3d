-- What the code chooses without a branch, as the choice that the definitions make.
use mathlib.Core.Path.{◌≡◌, refl, sym}
use mathlib.Core.Bool.{Bool, true, false, not, cond, ◌&&◌, ◌||◌, false≢true}

pub set_on : (x test : Bool) → x || test ≡ cond test true x
set_on true true = refl
set_on true false = refl
set_on false true = refl
set_on false false = refl

pub set_off : (x test : Bool) → x && not test ≡ cond test false x
set_off true true = refl
set_off true false = refl
set_off false true = refl
set_off false false = refl

pub switched : (x on off : Bool) → (x || on) && not off ≡ cond off false (cond on true x)
switched x on off = rw (set_on x on, set_off)

-- whether a row is asked for 0D at all: not below a doubled one, nor where 0D does not count
pub not_asked : (below counts has : Bool) → below || not counts ≡ true → false ≡ counts && (not below && has)
not_asked true true has e = refl
not_asked true false has e = refl
not_asked false true has e = absurd (false≢true e)
not_asked false false has e = refl

pub asked : (below counts has : Bool) → below || not counts ≡ false → has ≡ counts && (not below && has)
asked true counts has e = absurd (false≢true (sym e))
asked false true has e = refl
asked false false has e = absurd (false≢true (sym e))
