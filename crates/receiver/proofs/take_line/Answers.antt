use mathlib.Core.Path.{◌≡◌, sym, ap, ap₂, ◌∙◌, subst}
use mathlib.Core.List.{List}
use Prim.Native.Nat.{ℕ}
use lib.ListN.{length}
use Rattle.std.specs.Prelude.{OnOk, Result, ⊤}
use Rattle.packet.specs.Lines.{packet_length}
use Rattle.receiver.specs.Entries.{asked, line_entered}
use Rattle.receiver.specs.Private.{looked_at}
use Rattle.receiver.specs.declared.Refusal.{Refusal}
use Rattle.receiver.proofs.Asked.{line-looked, line_whole, meets}
use Rattle.receiver.proofs.take_line.Goals as goal

pub enter-answer-requires : goal.enter-answer-requires
enter-answer-requires c =
    subst (λ (told : Result ⊤ Refusal). OnOk told (length c.packet_of.result.now ≡ packet_length)) (sym c.line_asked.ensures)
    (subst (λ (packet : List ℕ). OnOk (Rattle.receiver.specs.Private.line_asked c.args.line.now) (length packet ≡ packet_length)) (sym c.packet_of.ensures) (line_whole c.args.line.now))

pub returns : goal.returns
unfolding line_entered
returns c =
    let receiver = c.args.receiver in
    let lent = c.args.«record».now in
    meets _ _
    (ap (asked receiver lent)
    (ap₂ (λ (told : Result ⊤ Refusal) (packet : List ℕ). looked_at told receiver packet lent) c.line_asked.ensures c.packet_of.ensures
    ∙ sym (line-looked receiver lent c.args.line.now)))
    c.enter-answer.ensures
