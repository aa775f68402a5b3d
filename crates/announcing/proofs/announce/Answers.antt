-- `announcing::announce` meets its contract. The loop's invariant: what is still to be said, from the stop reached, gives what the whole gives.
use mathlib.Core.Path.{◌≡◌, refl, sym, ◌∙◌, subst}
use mathlib.Core.List.{List}
use Prim.Native.Nat.{ℕ, ◌+◌, ◌*◌, ◌/◌, ◌-◌, ◌≤◌, ◌<◌}
use native.Mathlib.Omega.{arith}
use borrow.Author.Rules.{rules}
use lib.ListN.{length, take, drop, length-drop}
use Rattle.packet.specs.Lines.{line_length}
use Rattle.announcing.specs.Private.{Stops}
use Rattle.announcing.specs.Said.{fitting, longest}
use Rattle.announcing.specs.declared.Announced.{Announced}
use Rattle.announcing.proofs.Walking.{further, ended, fitting_length, fitting_part, has_room, walks-on, walks_start}
use Rattle.announcing.proofs.announce.Goals as goal
use Rattle.announcing.proofs.announce.Goals.{In-loop-state}

-- in a turn: the lines that fit, and what is left of them
module _ (c : In-loop-state) where
  abbrev lines_of : List ℕ
  lines_of = fitting c.args.room.now c.args.lines.now

  abbrev state-of : Announced
  state-of = c.loop-state.state

  size_of : c.fitting_bytes-end.result ≡ length lines_of
  size_of = c.loop-state.invariant.0 ∙ sym (fitting_length c.args.room.now c.args.lines.now)

  more : state-of.used < length lines_of
  more = let test = c.loop-state-test.true in let size = size_of in omega arith

  few : length lines_of ≤ length c.args.room.now / longest * line_length
  few = let size = fitting_length c.args.room.now c.args.lines.now in omega arith

  part_of : take (c.fitting_bytes-end.result - state-of.used) (drop state-of.used c.args.lines.now) ≡ drop state-of.used lines_of
  part_of = fitting_part c.args.room.now c.args.lines.now c.fitting_bytes-end.result state-of.used c.loop-state.invariant.0

  left-of : state-of.used + length (drop state-of.used lines_of) ≤ length c.loop-state.room
  left-of =
      let l = length-drop state-of.used lines_of in
      let inside = more in
      let bound = few in
      let same = c.loop-state.invariant.1.same_room in
      omega arith

pub fitting_bytes-end-requires : goal.fitting_bytes-end-requires
fitting_bytes-end-requires c = tt

pub loop-state-init : goal.loop-state-init
loop-state-init c = (c.fitting_bytes-end.ensures, walks_start _ _ _ _ refl refl)

pub slice_bounds-part-end : goal.slice_bounds-part-end
slice_bounds-part-end c = let end = c.loop-state.invariant.0 in search rules

pub to_next_stop-state-requires : goal.to_next_stop-state-requires
to_next_stop-state-requires c =
    let turn = (goal.at.to_next_stop-state-requires c).In-loop-state in
    (has_room c.loop-state.invariant.1 (more turn) (few turn), rw (part_of turn) (left-of turn))

pub loop-state-smaller : goal.loop-state-smaller
loop-state-smaller c =
    let turn = (goal.at.loop-state-smaller c).In-loop-state in
    let call = c.to_next_stop-state in
    let StopsAt : List ℕ → Type 0 = λ lines. Stops c.loop-state.state lines c.loop-state.«record» c.loop-state.room call.result call.new.«record» call.new.room in
    let stopped = subst StopsAt (part_of turn) call.ensures in
    let far = further c.loop-state.invariant.1 (more turn) (few turn) stopped call.auto.«record» call.auto.room in
    let test = c.loop-state-test.true in
    omega arith

pub loop-state-preserved : goal.loop-state-preserved
loop-state-preserved c =
    let turn = (goal.at.loop-state-preserved c).In-loop-state in
    let call = c.to_next_stop-state in
    let StopsAt : List ℕ → Type 0 = λ lines. Stops c.loop-state.state lines c.loop-state.«record» c.loop-state.room call.result call.new.«record» call.new.room in
    let stopped = subst StopsAt (part_of turn) call.ensures in
    (c.loop-state.invariant.0, walks-on c.loop-state.invariant.1 (more turn) (few turn) stopped call.auto.«record» call.auto.room)

pub shape_of-record : goal.shape_of-record
shape_of-record c = c.loop-state.invariant.1.same_lent

pub shape_of-room : goal.shape_of-room
shape_of-room c = c.loop-state.invariant.1.same_room

pub returns : goal.returns
returns c =
    let size = c.loop-state.invariant.0 ∙ sym (fitting_length c.args.room.now c.args.lines.now) in
    ended c.loop-state.invariant.1 (let test = c.loop-state-test.false in omega arith)
