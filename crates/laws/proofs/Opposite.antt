-- A test and its opposite.
use mathlib.Core.Path.{◌≡◌, refl, ◌∙◌, ap, sym}
use mathlib.Core.Bool.{Bool, true, false, not, ◌&&◌, ◌||◌, not-not}
use Prim.Native.Nat.{ℕ}
use borrow.Author.Tests.{leb-true, leb-false, lt-ltb, le-ltb}
use lib.Dec.{leb, ltb}

pub not_and : (a b : Bool) → not (a && b) ≡ (not a || not b)
not_and true b = refl
not_and false b = refl

by_test : (a b : ℕ) (t : Bool) → leb b a ≡ t → ltb a b ≡ not t
by_test a b true e = le-ltb a b (leb-true b a e)
by_test a b false e = lt-ltb a b (leb-false b a e)

pub below_is : (a b : ℕ) → ltb a b ≡ not (leb b a)
below_is a b = by_test a b (leb b a) refl

pub at_most_is : (a b : ℕ) → leb a b ≡ not (ltb b a)
at_most_is a b = sym (not-not (leb a b)) ∙ ap not (sym (below_is b a))
