-- `sending::store_rows` meets its contract. In its loop `Storing` holds of the rows so far.
use mathlib.Core.Bool.{Bool, true, false, cond}
use Prim.Native.Nat.{ℕ, suc, ◌+◌, ◌≤◌}
use native.Mathlib.Omega.{arith}
use borrow.Author.Rules.{rules}
use lib.ListN.{get_or}
use Rattle.sending.specs.Sending.{row_line}
use Rattle.sending.proofs.Lines.{row-line-length}
use Rattle.sending.proofs.Storing.{next_fits, storing-first, storing-further, storing-last}
use Rattle.sending.proofs.store_rows.Goals as goal

-- at most one line more
one_more : (answer : Bool) (count : ℕ) → cond answer (count + 1) count ≤ count + 1
one_more true count = omega arith
one_more false count = omega arith

pub loop-at-init : goal.loop-at-init
loop-at-init c = (search rules, search rules, c.requires.0, storing-first (row_line c.args.page.now) c.args.wanted c.args.room.now c.requires.1)

pub store_if-count-requires : goal.store_if-count-requires
store_if-count-requires c =
    let loop = c.loop-at in (
      omega arith,
      omega arith,
      next_fits (row_line c.args.page.now) c.args.wanted c.args.room.now c.requires.1 loop.at loop.count loop.room loop.invariant.3 (omega arith),
    )

pub loop-at-preserved : goal.loop-at-preserved
loop-at-preserved c =
    let stored = c.store_if-count in
    let loop = c.loop-at in
    let answer : Bool = get_or c.args.wanted loop.at false in
    let whole = row-line-length c.args.page.now loop.invariant.2 (suc loop.at) (omega arith) in (
      omega (arith, stored.ensures.value, one_more answer loop.count),
      search rules,
      search rules,
      storing-further (row_line c.args.page.now) c.args.wanted c.args.room.now c.requires.1 loop.at loop.count loop.room loop.invariant.3 (omega arith) whole
          stored.result _ stored.ensures.value stored.ensures.room_after,
    )

pub shape_of-room : goal.shape_of-room
shape_of-room c = c.loop-at.invariant.3.size

pub returns : goal.returns
returns c =
    let loop = c.loop-at in
    storing-last (row_line c.args.page.now) c.args.wanted c.args.room.now c.requires.1 loop.at loop.count loop.room loop.invariant.3 (omega arith)
