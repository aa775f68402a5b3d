use mathlib.Core.Path.{◌≡◌, sym, ap, ◌∙◌, subst}
use lib.ListN.{length}
use Rattle.std.specs.Prelude.{OnOk, Result, ⊤}
use Rattle.packet.specs.Lines.{packet_length}
use Rattle.receiver.specs.Entries.{asked, packet_entered}
use Rattle.receiver.specs.Private.{looked_at}
use Rattle.receiver.specs.declared.Refusal.{Refusal}
use Rattle.receiver.proofs.Asked.{meets, packet-looked, packet_whole}
use Rattle.receiver.proofs.take_packet.Goals as goal

pub enter-answer-requires : goal.enter-answer-requires
enter-answer-requires c =
    let packet = c.args.packet.now in
    subst (λ (told : Result ⊤ Refusal). OnOk told (length packet ≡ packet_length)) (sym c.packet_asked.ensures) (packet_whole packet)

pub returns : goal.returns
unfolding packet_entered
returns c =
    let receiver = c.args.receiver in
    let packet = c.args.packet.now in
    let lent = c.args.«record».now in
    meets _ _
    (ap (asked receiver lent)
    (ap (λ (told : Result ⊤ Refusal). looked_at told receiver packet lent) c.packet_asked.ensures ∙ sym (packet-looked receiver lent packet)))
    c.enter-answer.ensures
