-- `units::list` meets its contract. The loop's invariant: what was printed is the listing as far as the listing from this place, and no line was
-- longer than its room. The measure is what is left of the field.
use mathlib.Core.Path.{◌≡◌, sym, ◌∙◌, ap}
use mathlib.Core.List.{List}
use Prim.Native.Nat.{ℕ, ◌+◌, ◌≤◌}
use native.Mathlib.Omega.{arith}
use lib.ListN.{length, take}
use Rattle.listing.specs.Held.{held, listed_paper, next_paper, room}
use Rattle.listing.specs.Lines.{Told, line_at}
use Rattle.listing.specs.declared.Listed.{Listed}
use Rattle.listing.proofs.Listing.{onward, sent_none, comes-next, sent-more, sent-all, used_is, text-is, next-at}
use Rattle.units.proofs.list.Goals as goal

-- the line that is printed is the step's text, and short
module _ (answer : Listed) (step : Told) (is : listed_paper answer ≡ held step) {line : List ℕ} (lent : line ≡ take answer.line.used answer.line.bytes) where
  printed : line ≡ step.text
  printed = lent ∙ text-is answer step is

  short : answer.line.used ≤ room → length line ≤ room
  short h = let used = used_is answer step is in let same = ap length printed in omega arith

pub loop-line-init : goal.loop-line-init
loop-line-init g c = (sent_none _, omega arith)

pub print-requires : goal.print-requires
print-requires g c =
    let now = c.loop-line in
    let field = c.args.field.now in
    let is = printed c.line_at-step.result (line_at field now.place) c.line_at-step.ensures.result_value c.as_bytes-line.ensures in
    rw is (sym (comes-next field now.count now.place now.invariant.0))

pub overflow_add-count : goal.overflow_add-count
overflow_add-count g c =
    let now = c.loop-line in
    let inside = now.invariant.0.inside in
    let few = short c.line_at-step.result (line_at c.args.field.now now.place) c.line_at-step.ensures.result_value c.as_bytes-line.ensures c.line_at-step.ensures.used_le_room in
    omega arith

pub returns-in_default : goal.returns-in_default
unfolding next_paper
returns-in_default g c =
    let now = c.loop-line in
    let step = line_at c.args.field.now now.place in
    let is = c.line_at-step.ensures.result_value in
    ap (λ (text : List ℕ). now.count + length text) (printed c.line_at-step.result step is c.as_bytes-line.ensures)
    ∙ sent-all c.args.field.now now.count now.place now.invariant.0 (next-at c.line_at-step.result step is c.in_default.is)

pub loop-line-smaller : goal.loop-line-smaller
unfolding next_paper
loop-line-smaller g c =
    let on = onward _ _ _ (next-at c.line_at-step.result (line_at _ _) c.line_at-step.ensures.result_value c.in-Some.is) in
    let further = on.further in
    let within = on.within in
    omega arith

pub loop-line-preserved : goal.loop-line-preserved
unfolding next_paper
loop-line-preserved g c =
    let now = c.loop-line in
    let field = c.args.field.now in
    let step = line_at field now.place in
    let is = c.line_at-step.ensures.result_value in
    let next = next-at c.line_at-step.result step is c.in-Some.is in
    let further = (onward _ _ _ next).further in
    let few = short c.line_at-step.result step is c.as_bytes-line.ensures c.line_at-step.ensures.used_le_room in
    (rw (printed c.line_at-step.result step is c.as_bytes-line.ensures) (sent-more field now.count now.place now.invariant.0 _ next), omega arith)
