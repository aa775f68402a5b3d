-- `field::look_at` meets its contract: by what `unit_here` promises of the place and `look_at_line` of a unit of a teletext id.
use mathlib.Core.Path.{◌≡◌, sym, ◌∙◌, ap}
use Prim.Native.Nat.{◌<◌}
use native.Mathlib.Omega.{arith}
use lib.Dec.{lit<}
use lib.ListN.{length}
use Rattle.field.specs.Field.{id_at, teletext_id, here, error_paper, any_unit_paper}
use Rattle.field.specs.Search.{found_paper}
use Rattle.field.specs.Private.{go_on, look_told, step_told}
use Rattle.field.specs.declared.FieldError.{FieldError}
use Rattle.field.specs.declared.FieldError.TheVariants.{NoField, PastField, Short, WrongLength}
use Rattle.field.proofs.Units.{is_unit, teletext_length_law}
use Rattle.field.proofs.Steps.{leaves, Tells, tells, other-id, line-decides}
use Rattle.field.proofs.look_at.Goals as goal
use Rattle.field.proofs.look_at.Goals.{In-Ok-Some}

-- what `unit_here` told of the unit whose id is asked
told : (c : In-Ok-Some)
    → let unit = c.in-Ok-Some.unit in
    Tells c.args.field.now c.args.place (here c.args.field.now c.args.place) unit.id unit.length unit.after
unfolding any_unit_paper
told c = tells _ _ _ _ _ _ (rw c.in-Ok-Some.field-0-is at c.in-Ok-Some.ensures)

id-is : (c : In-Ok-Some) → teletext_id c.in-Ok-Some.unit.id ≡ teletext_id (id_at c.args.field.now c.args.place)
id-is c = ap teletext_id (told c).id-is

few_values : (error : FieldError) → length (error_paper error).values < 3
unfolding error_paper
few_values NoField = lit< tt
few_values PastField = lit< tt
few_values (Short place) = lit< tt
few_values (WrongLength place) = lit< tt

pub look_at_line-requires : goal.look_at_line-requires
look_at_line-requires c =
    let d = (goal.at.look_at_line-requires c).In-Ok-Some in
    let is = is_unit _ _ (told d).stands in
    let long = teletext_length_law _ _ c.requires.1 is (sym (c.if-is_teletext.ensures ∙ id-is d)) in
    (omega (arith, is.whole), (told d).after_is)

pub returns-then-is_teletext : goal.returns-then-is_teletext
returns-then-is_teletext c =
    let d = (goal.at.returns-then-is_teletext c).In-Ok-Some in
    c.look_at_line.ensures ∙ ap (step_told _) (line-decides _ _ (told d).stands (sym (c.if-is_teletext.ensures ∙ id-is d)))

pub returns-else-is_teletext : goal.returns-else-is_teletext
unfolding look_told step_told
returns-else-is_teletext c =
    let d = (goal.at.returns-else-is_teletext c).In-Ok-Some in
    ap go_on (told d).after_is ∙ ap (step_told _) (other-id _ _ (told d).stands (sym (c.if-is_teletext.ensures ∙ id-is d)))

pub returns-in-Ok-None : goal.returns-in-Ok-None
unfolding look_told found_paper any_unit_paper
returns-in-Ok-None c = leaves _ _ _ (rw c.in-Ok-None.field-0-is at c.in-Ok-None.ensures) (lit< tt)

pub returns-in-Err : goal.returns-in-Err
unfolding look_told found_paper any_unit_paper
returns-in-Err c = leaves _ _ _ c.in-Err.ensures (few_values c.in-Err.error)
