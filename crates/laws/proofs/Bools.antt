-- Tests that passed, as facts.
use mathlib.Core.Path.{◌≡◌, refl, sym}
use mathlib.Core.Bool.{Bool, true, false, not, ◌&&◌, ◌||◌, false≢true}
use lib.Dec.{T}

pub passed : (b : Bool) → T b → b ≡ true
passed true t = refl
passed false t = absurd t

pub both_left : (a b : Bool) → T (a && b) → T a
both_left true b t = tt
both_left false b t = t

pub both_right : (a b : Bool) → T (a && b) → T b
both_right true b t = t
both_right false b t = absurd t

pub both_true : (a b : Bool) → (a && b) ≡ true → (a ≡ true) × (b ≡ true)
both_true true b e = (refl, e)
both_true false b e = absurd (false≢true e)

-- two tests, of which neither passed
pub neither : (a b : Bool) → (a || b) ≡ false → (a ≡ false) × (b ≡ false)
neither true b e = absurd (false≢true (sym e))
neither false b e = (refl, e)

-- a test that is asked only where another passes
pub where_asked : (a b : Bool) → T (not a || b) → T a → T b
where_asked true b t h = t
where_asked false b t h = absurd h

-- five tests in a row
pub five : (a b c d e : Bool) → T (a && (b && (c && (d && e)))) → T a × T b × T c × T d × T e
five a b c d e t =
    let u = both_right a (b && (c && (d && e))) t in
    let v = both_right b (c && (d && e)) u in
    let w = both_right c (d && e) v in
    (both_left a (b && (c && (d && e))) t, both_left b (c && (d && e)) u, both_left c (d && e) v, both_left d e w, both_right d e w)

pub or_assoc : (a b c : Bool) → (a || b) || c ≡ a || (b || c)
or_assoc true b c = refl
or_assoc false b c = refl
