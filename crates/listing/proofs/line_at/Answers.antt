-- `listing::line_at` meets its contract: each case of `unit_at`'s answer has its line.
use Rattle.std.proofs.Common.{rules, ◌≡◌, sym, ◌∙◌, ap, length, Option, Some, None, Result, Ok, Err}
use Rattle.laws.specs.Paper.{accepted, refused_by}
use Rattle.field.specs.Field.{asked, any_unit_paper, error_paper}
use Rattle.field.specs.declared.FieldError.{FieldError}
use Rattle.field.specs.declared.FieldError.TheVariants.{NoField, PastField, Short, WrongLength}
use Rattle.field.specs.declared.WholeUnit.{WholeUnit}
use Rattle.listing.specs.Lines.{told, numbered, taken, line_at}
use Rattle.listing.specs.Held.{held, listed_paper, next_paper}
use Rattle.listing.proofs.Answers.{stops, stops_short, too_long, told_of}
use Rattle.listing.proofs.Held.{used_fits}
use Rattle.listing.proofs.line_at.Goals as goal
use Rattle.listing.proofs.line_at.Goals.{After-unit_at}

-- what `unit_at` promised, in the case of its answer that was found
answer_is : (c : After-unit_at) {case : Result (Option WholeUnit) FieldError} → c.unit_at.result ≡ case
    → let a = c.args in
    held (told (length a.field.now) (asked a.place) (any_unit_paper case)) ≡ held (line_at a.field.now a.place)
answer_is c e = ap held (told_of _ _ c.if-field-gt-MOST.false e c.unit_at.ensures)

pub returns-then-field-gt-MOST : goal.returns-then-field-gt-MOST
returns-then-field-gt-MOST c =
    let last = c.last_line.ensures in
    let line = c.too_long_line.ensures in
    record {
      result_value = stops _ last line ∙ ap held (sym (too_long _ _ c.if-field-gt-MOST.true));
      used_le_room = stops_short last line;
    }

pub returns-in-Ok-Some : goal.returns-in-Ok-Some
unfolding listed_paper held next_paper told numbered taken any_unit_paper accepted
returns-in-Ok-Some c =
    let is : c.unit_at.result ≡ Ok (Some c.in-Ok-Some.unit) = search rules in
    record {
      result_value = rw (c.unit_line.ensures.is, c.unit_place.ensures) (answer_is (goal.at.returns-in-Ok-Some c).After-unit_at is);
      used_le_room = used_fits c.unit_line.ensures;
    }

pub returns-in-Ok-None : goal.returns-in-Ok-None
unfolding told numbered taken any_unit_paper error_paper accepted refused_by
returns-in-Ok-None c =
    let last = c.last_line-in-Ok-None.ensures in
    let line = c.end_line.ensures in
    let is : c.unit_at.result ≡ Ok None = search rules in
    record { result_value = stops _ last line ∙ answer_is (goal.at.returns-in-Ok-None c).After-unit_at is; used_le_room = stops_short last line }

pub returns-in-Err-NoField : goal.returns-in-Err-NoField
unfolding told numbered taken any_unit_paper error_paper accepted refused_by
returns-in-Err-NoField c =
    let last = c.last_line-in-Err-NoField.ensures in
    let line = c.refused_line.ensures in
    let is : c.unit_at.result ≡ Err NoField = search rules in
    record { result_value = stops _ last line ∙ answer_is (goal.at.returns-in-Err-NoField c).After-unit_at is; used_le_room = stops_short last line }

pub returns-in-Err-PastField : goal.returns-in-Err-PastField
unfolding told numbered taken any_unit_paper error_paper accepted refused_by
returns-in-Err-PastField c =
    let last = c.last_line-in-Err-PastField.ensures in
    let line = c.refused_line-in-Err-PastField.ensures in
    let is : c.unit_at.result ≡ Err PastField = search rules in
    record { result_value = stops _ last line ∙ answer_is (goal.at.returns-in-Err-PastField c).After-unit_at is; used_le_room = stops_short last line }

pub returns-in-Err-Short : goal.returns-in-Err-Short
unfolding told numbered taken any_unit_paper error_paper accepted refused_by
returns-in-Err-Short c =
    let last = c.last_line-in-Err-Short.ensures in
    let line = c.refused_at_line.ensures in
    let is : c.unit_at.result ≡ Err (Short c.in-Err-Short.at) = search rules in
    record { result_value = stops _ last line ∙ answer_is (goal.at.returns-in-Err-Short c).After-unit_at is; used_le_room = stops_short last line }

pub returns-in-Err-WrongLength : goal.returns-in-Err-WrongLength
unfolding told numbered taken any_unit_paper error_paper accepted refused_by
returns-in-Err-WrongLength c =
    let last = c.last_line-in-Err-WrongLength.ensures in
    let line = c.refused_at_line-in-Err-WrongLength.ensures in
    let is : c.unit_at.result ≡ Err (WrongLength c.in-Err-WrongLength.at) = search rules in
    record { result_value = stops _ last line ∙ answer_is (goal.at.returns-in-Err-WrongLength c).After-unit_at is; used_le_room = stops_short last line }
