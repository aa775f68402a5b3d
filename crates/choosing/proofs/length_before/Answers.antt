-- `choosing::length_before` meets its contract: the front is as long as the place of the first mark.
use mathlib.Core.Path.{◌≡◌, refl, ◌∙◌, ap}
use mathlib.Core.Bool.{Bool, true, false, cond}
use Prim.Native.Nat.{ℕ, ◌≤◌}
use native.Mathlib.Omega.{arith}
use borrow.Author.Tests.{ltb-false}
use lib.Dec.{ltb}
use lib.ListN.{length}
use Rattle.std.specs.Prelude.{Option, Some, None}
use Rattle.std.specs.Option.{unwrap_or}
use Rattle.choosing.proofs.Marks.{front_length, front_short}
use Rattle.choosing.proofs.length_before.Goals as goal

-- a place, or the length where it is none below that
at_most : (below : Bool) (place size : ℕ) → ltb place size ≡ below → place ≤ size → unwrap_or (cond below (Some place) None) size ≡ place
at_most true place size e h = refl
at_most false place size e h = let past = ltb-false place size e in omega arith

pub returns : goal.returns
returns c =
    let text = c.args.text.now in
    let long = front_length c.args.mark text in
    let short = front_short c.args.mark text in
    let is =
    c.unwrap_or.ensures ∙ ap (λ (found : Option ℕ). unwrap_or found (length text)) c.first_mark.ensures
    ∙ at_most _ _ _ refl (omega arith) ∙ long in
    (is, omega arith)
