-- `field::unit_here` meets its contract: at each return the tests that led there say which case of `here` holds.
use mathlib.Core.Path.{◌≡◌, sym, ◌∙◌, ap}
use Prim.Native.Nat.{◌+◌}
use native.Mathlib.Omega.{arith}
use Rattle.field.specs.Field.{after_at, head_length, wrong_length, unit_answer, error_paper, any_unit_paper}
use Rattle.field.proofs.Units.{end-here, short-here, wrong-here, unit-here}
use Rattle.field.proofs.unit_here.Goals as goal

pub returns-then-left-eq0 : goal.returns-then-left-eq0
unfolding unit_answer any_unit_paper error_paper
returns-then-left-eq0 c =
    rw (end-here c.args.field.now c.args.place (omega arith))

pub returns-then-left-lt-HEAD : goal.returns-then-left-lt-HEAD
unfolding unit_answer any_unit_paper error_paper
returns-then-left-lt-HEAD c =
    rw (short-here c.args.field.now c.args.place (omega arith) (omega arith))

pub returns-then-left-bytes : goal.returns-then-left-bytes
unfolding unit_answer any_unit_paper error_paper
returns-then-left-bytes c =
    rw (short-here c.args.field.now c.args.place (omega arith) (omega (arith, c.length_at-length.ensures)))

pub returns-then-is_wrong_length : goal.returns-then-is_wrong_length
unfolding unit_answer any_unit_paper error_paper
returns-then-is_wrong_length c =
    let size = c.length_at-length.ensures in
    rw
    (wrong-here c.args.field.now c.args.place (omega arith) (omega (arith, size))
    (ap (wrong_length _ _) (sym size) ∙ (sym c.is_wrong_length.ensures ∙ c.if-is_wrong_length.true)))

pub returns : goal.returns
unfolding unit_answer any_unit_paper error_paper
returns c =
    let size = c.length_at-length.ensures in
    let after : c.args.place + (c.length_at-length.result + head_length) ≡ after_at c.args.field.now c.args.place = omega (arith, size) in
    rw (
      unit-here c.args.field.now c.args.place (omega arith) (omega (arith, size))
          (ap (wrong_length _ _) (sym size) ∙ (sym c.is_wrong_length.ensures ∙ c.if-is_wrong_length.false)),
      after,
      size,
    )
