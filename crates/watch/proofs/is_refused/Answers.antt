-- `watch::is_refused` meets its contract: a refusal is the reason where its number is.
use mathlib.Core.Path.{◌≡◌, refl, ◌∙◌}
use denote.Enum.Bare.{sameb}
use mathlib.Core.Bool.{false}
use lib.Dec.{eqb}
use Rattle.receiver.specs.Entries.{answer_paper, refusal_number}
use Rattle.receiver.specs.contracts.Refusal.{the_type}
use Rattle.receiver.specs.declared.Refusal.{Refusal}
use Rattle.receiver.specs.declared.Refusal.TheVariants.{Unlawful, ShortRecord, WrongLength, WrongFraming}
use Rattle.watch.specs.Watched.{is_number}
use Rattle.watch.proofs.is_refused.Goals as goal

same : (a b : Refusal) → sameb the_type a b ≡ eqb (refusal_number a) (refusal_number b)
unfolding refusal_number
same Unlawful Unlawful = refl
same Unlawful ShortRecord = refl
same Unlawful WrongLength = refl
same Unlawful WrongFraming = refl
same ShortRecord Unlawful = refl
same ShortRecord ShortRecord = refl
same ShortRecord WrongLength = refl
same ShortRecord WrongFraming = refl
same WrongLength Unlawful = refl
same WrongLength ShortRecord = refl
same WrongLength WrongLength = refl
same WrongLength WrongFraming = refl
same WrongFraming Unlawful = refl
same WrongFraming ShortRecord = refl
same WrongFraming WrongLength = refl
same WrongFraming WrongFraming = refl

taken : (reason : Refusal) → false ≡ eqb 0 (refusal_number reason)
unfolding refusal_number
taken Unlawful = refl
taken ShortRecord = refl
taken WrongLength = refl
taken WrongFraming = refl

pub returns-in-Ok : goal.returns-in-Ok
unfolding is_number answer_paper
returns-in-Ok c = rw c.in-Ok.is (taken c.args.reason)

pub returns-in-Err : goal.returns-in-Err
unfolding is_number answer_paper
returns-in-Err c = rw c.in-Err.is (c.eq.ensures ∙ same c.in-Err.refusal c.args.reason)
