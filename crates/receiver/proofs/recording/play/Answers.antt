use mathlib.Core.Path.{◌≡◌, refl, sym, ap, ◌∙◌, subst}
use mathlib.Core.List.{List, ◌++◌}
use lib.ListN.{length}
use Prim.Native.Nat.{ℕ, ◌≤◌, min}
use native.Mathlib.Omega.{arith}
use Rattle.std.specs.declared.slice.Chunks.{Chunks}
use Rattle.packet.specs.Lines.{line_length}
use Rattle.receiver.proofs.Lawful.{our_magazine}
use Rattle.receiver.proofs.Cut.{Left, further, left_all, left_next, line_cut, line_sized, more_left, none_so_far, so_far}
use Rattle.receiver.proofs.Playing.{turning-ends, turning_at, turning_starts}
use Rattle.receiver.proofs.Turns.{AtLine, another_counts, turn-another, turn_holds, turn_on, turn-ours, turn-refused, turn-seen, turn-stops, turn-whole}
use borrow.Author.Rules.{rules}
use Rattle.receiver.proofs.recording.play.Goals as goal
use Rattle.receiver.proofs.recording.play.Goals.{After-line_asked}

-- a turn that has come to its line
module _ (c : After-line_asked) where
  abbrev rest : List ℕ
  rest = c.loop-line.line-iterator.rest.now

  abbrev line : List ℕ
  line = c.in-Some.line.now

  left : Left c.args.recording.now rest
  left = c.loop-line.invariant.2

  parts : rest ≡ line ++ c.next.new.self.rest.now
  parts = c.in-Some.ensures.steps.1.0

  size : length line ≡ min line_length (length rest)
  size = c.in-Some.ensures.steps.1.1 ∙ ap (λ (n : ℕ). min n (length rest)) c.loop-line.invariant.3

  at-line : AtLine c.args.recording.now c.args.«record».now c.args.receiver.now c.loop-line.«record» c.loop-line.receiver (so_far c.args.recording.now rest)
      c.loop-line.used c.loop-line.mended c.args.receiver.now.selection.magazine line
  at-line =
      record {
        turning = c.loop-line.invariant.0;
        same = c.loop-line.invariant.1;
        more = more_left left c.in-Some.ensures.steps.1.2;
        sized = line_sized left line size;
        cut = line_cut left line _ parts size;
      }

pub loop-line-init : goal.loop-line-init
loop-line-init c =
    let ready = c.requires in
    let recording = c.args.recording.now in
    let all : c.into_iter-line-iterator.result.rest.now ≡ recording =
    ap (λ (cut : Chunks ℕ). cut.rest.now) c.into_iter-line-iterator.ensures.into_iter_gives ∙ c.chunks-line-items.ensures.rest in (
      turning_at (ap (so_far recording) all ∙ none_so_far recording) (turning_starts _ _ _ ready.right ready.room),
      refl,
      subst (Left recording) (sym all) (left_all recording),
      ap (λ (cut : Chunks ℕ). cut.size) c.into_iter-line-iterator.ensures.into_iter_gives ∙ c.chunks-line-items.ensures.size,
    )

pub overflow_add-used : goal.overflow_add-used
overflow_add-used c =
    let inv = c.loop-line.invariant in
    let used = inv.0.used_within in
    let more = more_left inv.2 c.in-Some.ensures.steps.1.2 in
    search rules

pub shape_of-record-in-Err : goal.shape_of-record-in-Err
shape_of-record-in-Err c = let same = c.loop-line.invariant.0.same in search rules

pub returns-in-Err : goal.returns-in-Err
returns-in-Err c =
    let line = at-line (goal.at.returns-in-Err c).After-line_asked in
    turn-refused line _ (sym c.line_asked.ensures ∙ c.in-Err.is)

pub seen_of-shows-requires : goal.seen_of-shows-requires
seen_of-shows-requires c =
    let line = at-line (goal.at.seen_of-shows-requires c).After-line_asked in
    let turn = c.loop-line in
    let within = our_magazine turn.receiver (rw turn.invariant.0.right tt) in
    let ours = subst (λ (m : ℕ). (1 ≤ m) × (m ≤ 8)) turn.invariant.1 within in
    (ours.0, ours.1, turn-whole line (sym c.line_asked.ensures ∙ c.in_default.is) c.packet_of-packet.ensures)

pub mended_address-requires : goal.mended_address-requires
mended_address-requires c =
    turn-whole (at-line (goal.at.mended_address-requires c).After-line_asked) (sym c.line_asked.ensures ∙ c.in_default.is) c.packet_of-packet.ensures

pub with_line-mended-requires : goal.with_line-mended-requires
with_line-mended-requires c =
    let line = at-line (goal.at.with_line-mended-requires c).After-line_asked in
    turn_holds line (sym c.line_asked.ensures ∙ c.in_default.is) c.packet_of-packet.ensures c.seen_of-shows.ensures (search rules)
    (c.mended_address.ensures ∙ another_counts _ _ c.in-Another.is)

pub loop-line-preserved-in-Another : goal.loop-line-preserved-in-Another
loop-line-preserved-in-Another c =
    let line = at-line (goal.at.loop-line-preserved-in-Another c).After-line_asked in
    let another = c.in-Another.is in
    let turn = c.loop-line in
    let counts = c.mended_address.ensures ∙ another_counts _ _ another in (
      turning_at (further turn.invariant.2 _ _ c.in-Some.ensures.steps.1.0)
          (turn-another line (sym c.line_asked.ensures ∙ c.in_default.is) c.packet_of-packet.ensures c.seen_of-shows.ensures another counts c.with_line-mended.ensures),
      turn.invariant.1,
      left_next turn.invariant.2 _ _ c.in-Some.ensures.steps.1.0,
      c.in-Some.ensures.steps.0 ∙ turn.invariant.3,
    )

pub mended_bytes-in_line-requires : goal.mended_bytes-in_line-requires
mended_bytes-in_line-requires c =
    turn-whole (at-line (goal.at.mended_bytes-in_line-requires c).After-line_asked) (sym c.line_asked.ensures ∙ c.in_default.is) c.packet_of-packet.ensures

pub follow-done-requires : goal.follow-done-requires
follow-done-requires c =
    let line = at-line (goal.at.follow-done-requires c).After-line_asked in
    let ready = c.loop-line.invariant in (
      record { right = ready.0.right; room = ready.0.room },
      turn-seen line (sym c.line_asked.ensures ∙ c.in_default.is) c.packet_of-packet.ensures c.seen_of-shows.ensures,
    )

pub with_line-mended-requires-in-loop-line : goal.with_line-mended-requires-in-loop-line
with_line-mended-requires-in-loop-line c =
    let line = at-line (goal.at.with_line-mended-requires-in-loop-line c).After-line_asked in
    turn_holds line (sym c.line_asked.ensures ∙ c.in_default.is) c.packet_of-packet.ensures c.seen_of-shows.ensures (search rules) c.mended_bytes-in_line.ensures

pub shape_of-record-then-is_some : goal.shape_of-record-then-is_some
shape_of-record-then-is_some c = let same = c.loop-line.invariant.0.same in search rules

pub returns-then-is_some : goal.returns-then-is_some
returns-then-is_some c =
    let line = at-line (goal.at.returns-then-is_some c).After-line_asked in
    turn-stops line (sym c.line_asked.ensures ∙ c.in_default.is) c.packet_of-packet.ensures c.seen_of-shows.ensures c.follow-done.result c.follow-done.ensures
    c.mended_bytes-in_line.ensures c.with_line-mended-in-loop-line.ensures (sym c.is_some.ensures ∙ c.if-is_some.true) c.taken_of.ensures

pub loop-line-preserved : goal.loop-line-preserved
loop-line-preserved c =
    let line = at-line (goal.at.loop-line-preserved c).After-line_asked in
    let fine = sym c.line_asked.ensures ∙ c.in_default.is in
    let following = c.follow-done in
    let counts = c.mended_bytes-in_line.ensures in
    let sums = c.with_line-mended-in-loop-line.ensures in (
      turning_at (further c.loop-line.invariant.2 _ _ c.in-Some.ensures.steps.1.0)
          (turn_on line fine c.packet_of-packet.ensures c.seen_of-shows.ensures following.result following.ensures counts sums
          (sym c.is_some.ensures ∙ c.if-is_some.false)),
      turn-ours line fine c.packet_of-packet.ensures c.seen_of-shows.ensures following.result following.ensures counts sums,
      left_next c.loop-line.invariant.2 _ _ c.in-Some.ensures.steps.1.0,
      c.in-Some.ensures.steps.0 ∙ c.loop-line.invariant.3,
    )

pub returns : goal.returns
returns c =
    let turn = c.loop-line in
    let ended : length c.args.recording.now ≤ so_far c.args.recording.now turn.line-iterator.rest.now =
    omega (arith, turn.invariant.2.within, c.in-None.ensures.steps.1.0) in
    turning-ends turn.invariant.0 ended
