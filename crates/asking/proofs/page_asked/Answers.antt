-- `asking::page_asked` meets its contract: by the argument's length, and whether it has its digits.
use mathlib.Core.Option.{some}
use mathlib.Core.Path.{sym, ◌∙◌, ap}
use Rattle.receiver.specs.declared.When.{When}
use Rattle.asking.specs.Asked.{asked_for, selection_asked}
use Rattle.asking.proofs.Arguments.{both_are, number-alone, no_number, with-time, no-time, other_length}
use Rattle.asking.proofs.page_asked.Goals as goal

pub returns-then-is_number : goal.returns-then-is_number
unfolding asked_for
returns-then-is_number c =
    let argument = c.args.argument.now in
    let is = sym c.is_number.ensures ∙ c.if-is_number.true in
    ap some c.selection_asked.ensures ∙ sym (number-alone argument c.if-argument-eq-NUMBER.true is)

pub returns-then-argument-eq-NUMBER : goal.returns-then-argument-eq-NUMBER
unfolding asked_for
returns-then-argument-eq-NUMBER c =
    let argument = c.args.argument.now in
    let is = sym c.is_number.ensures ∙ c.if-is_number.false in
    sym (no_number argument c.if-argument-eq-NUMBER.true is)

pub returns-then-is_number-is_time : goal.returns-then-is_number-is_time
unfolding asked_for
returns-then-is_number-is_time c =
    let call = c in
    let argument = call.args.argument.now in
    let is = sym (both_are call.is_number-then-argument-eq-TIMED.ensures c.is_time.ensures) ∙ c.if-is_number-is_time.true in
    ap some c.selection_asked-then-is_number-is_time.ensures
    ∙ (ap (λ (w : When). some (selection_asked argument w)) c.time_asked.ensures
    ∙ sym (with-time argument call.if-argument-eq-TIMED.true is))

pub returns-else-is_number-is_time : goal.returns-else-is_number-is_time
unfolding asked_for
returns-else-is_number-is_time c =
    let call = c in
    let argument = call.args.argument.now in
    let is = sym (both_are call.is_number-then-argument-eq-TIMED.ensures c.is_time.ensures) ∙ c.if-is_number-is_time.false in
    sym (no-time argument call.if-argument-eq-TIMED.true is)

pub returns-else-argument-eq-TIMED : goal.returns-else-argument-eq-TIMED
unfolding asked_for
returns-else-argument-eq-TIMED c =
    sym (other_length c.args.argument.now c.if-argument-eq-NUMBER.false c.if-argument-eq-TIMED.false)
