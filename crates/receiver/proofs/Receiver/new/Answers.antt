use mathlib.Core.Path.{refl, sym, ◌∙◌}
use Rattle.receiver.specs.Entries.{made, made_answer, made_in}
use Rattle.receiver.specs.Selections.{selected_paper}
use Rattle.receiver.proofs.Receiver.new.Goals as goal

pub returns : goal.returns
unfolding made made_answer made_in selected_paper
returns c = rw (sym c.in_range.ensures ∙ c.if-not-in_range.false) (refl, refl)
