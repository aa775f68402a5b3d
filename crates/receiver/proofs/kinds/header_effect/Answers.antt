use mathlib.Core.Path.{sym, ap, ◌∙◌}
use Rattle.std.specs.Prelude.{Err}
use Rattle.packet.proofs.Papers.{header_read_is}
use Rattle.receiver.specs.Kinds.{header_effect}
use Rattle.receiver.proofs.Causes.{header_effect_law}
use Rattle.receiver.proofs.kinds.header_effect.Goals as goal

pub returns-then-is_selected : goal.returns-then-is_selected
returns-then-is_selected c =
    let read = sym (header_read_is _ _ c.header_of.ensures) ∙ c.in-Ok.is in
    sym (ap (header_effect _) read ∙ header_effect_law _ _ (sym c.is_selected.ensures ∙ c.if-is_selected.true))

pub returns-else-is_selected : goal.returns-else-is_selected
returns-else-is_selected c =
    let read = sym (header_read_is _ _ c.header_of.ensures) ∙ c.in-Ok.is in
    sym (ap (header_effect _) read ∙ header_effect_law _ _ (sym c.is_selected.ensures ∙ c.if-is_selected.false))

pub returns-in-Err-Spoiled : goal.returns-in-Err-Spoiled
unfolding header_effect
returns-in-Err-Spoiled c =
    let read = sym (header_read_is _ _ c.header_of.ensures) ∙ (c.in-Err-Spoiled.is ∙ ap Err c.in-Err-Spoiled.field-0-is) in
    sym (ap (header_effect c.args.selection) read)

pub returns-in-Err-WrongLength : goal.returns-in-Err-WrongLength
unfolding header_effect
returns-in-Err-WrongLength c =
    let read = sym (header_read_is _ _ c.header_of.ensures) ∙ (c.in-Err-WrongLength.is ∙ ap Err c.in-Err-WrongLength.field-0-is) in
    sym (ap (header_effect c.args.selection) read)
