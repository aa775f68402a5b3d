-- Any two ends of a call that meet a function's clauses are the same: the answer, the receiver that was lent and the record that was lent. Said of the
-- generated clauses, in every model of the logic: a function that is proved by hand has no plainer reading.
use mathlib.Core.Path.{◌≡◌, ◌∙◌, sym}
use seplogic.Ra.Ura.{Ura}
use base.Logic.{SProp, ent, sep, fst∗, snd∗}
use prog.Memory.{Memory}
use prog.Routine.{Routine}
use types.Logic.{Logic}
use contract.Monad.{Fun, fact, fact_i, fact_use}
use contract.Lifetimes.{Lfts}
use denote.Triple.Entry.{Args, Res}
use denote.Triple.Clauses.{Ended, Clauses, Lasts, at_exit}
use Rattle.receiver.proofs.Unique.{answer_is}
use Rattle.lent.specs.contracts.take_line as take-line
use Rattle.lent.specs.contracts.take_line_through as through

module _ {M : Type 1} (𝓤 : Ura M) where
  -- two answers, and two contents of what is lent, that meet the clauses together are equal
  abbrev pub Unique : (T : Ended) → Clauses 𝓤 T → Type 1
  Unique T clauses =
      (κs : Lfts T.signature.lifetimes) (a : Args T.signature κs) (g : (clauses κs a).ghost) (r r' : Res T.signature κs) (ws ws' : Lasts T κs a)
      → ent 𝓤 (sep 𝓤 ((clauses κs a).ensures g r (at_exit T κs a ws)) ((clauses κs a).ensures g r' (at_exit T κs a ws'))) (fact 𝓤 ((r ≡ r') × (ws ≡ ws')))

-- from two plain facts, a third
both : {M : Type 1} (𝓤 : Ura M) (φ ψ χ : Type 0) → (φ → ψ → χ) → ent 𝓤 (sep 𝓤 (fact 𝓤 φ) (fact 𝓤 ψ)) (fact 𝓤 χ)
both 𝓤 φ ψ χ k = fact_use 𝓤 φ (fst∗ 𝓤 (fact 𝓤 φ) (fact 𝓤 ψ)) (λ p. fact_use 𝓤 ψ (snd∗ 𝓤 (fact 𝓤 φ) (fact 𝓤 ψ)) (λ q. fact_i 𝓤 χ _ (k p q)))

pub take_line_unique : {M : Type 1} {𝓤 : Ura M} (𝓛 : Logic 𝓤) (mem : Memory → SProp 𝓤) (run : Routine → Fun 𝓤) → Unique 𝓤 take-line.ended (take-line.clauses 𝓛 mem run)
take_line_unique {𝓤 = 𝓤} 𝓛 mem run κs a g r r' ws ws' =
    both 𝓤 _ _ _ (λ p q. (answer_is r r' (p.answered ∙ sym q.answered), λ i. ((p.kept ∙ sym q.kept) i, (tt, ((p.left ∙ sym q.left) i, tt)))))

pub take_line_through_unique : {M : Type 1} {𝓤 : Ura M} (𝓛 : Logic 𝓤) (mem : Memory → SProp 𝓤) (run : Routine → Fun 𝓤) → Unique 𝓤 through.ended (through.clauses 𝓛 mem run)
take_line_through_unique {𝓤 = 𝓤} 𝓛 mem run κs a g r r' ws ws' =
    both 𝓤 _ _ _ (λ p q. (
      λ i. record { receiver = (p.kept ∙ sym q.kept) i; answer = answer_is r.answer r'.answer (p.answered ∙ sym q.answered) i },
      λ i. (tt, (tt, ((p.left ∙ sym q.left) i, tt))),
    ))
