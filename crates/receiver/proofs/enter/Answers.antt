use mathlib.Core.Path.{◌≡◌, sym, ap, ◌∙◌, subst}
use mathlib.Core.List.{List}
use Prim.Native.Nat.{ℕ}
use lib.ListN.{length}
use Rattle.std.specs.Prelude.{Ok}
use Rattle.receiver.specs.Entries.{Entered}
use Rattle.receiver.specs.Mended.{mended_in, packet_mended}
use Rattle.receiver.specs.Private.{asked_of, looked_at}
use Rattle.receiver.specs.declared.Receiver.{Receiver}
use Rattle.receiver.specs.declared.kinds.Seen.{Seen}
use Rattle.receiver.proofs.Asked.{Follows, asked-refused, entry_done, entry-goes, fine, looked-follows, told_meets}
use Rattle.receiver.proofs.Lawful.{our_magazine}
use Rattle.receiver.proofs.enter.Goals as goal
use Rattle.receiver.proofs.enter.Goals.{In_ok-looked}

-- 18 and 12, and then 10 and 11, had nothing against the line
module _ (c : In_ok-looked) where
  abbrev receiver : Receiver
  receiver = c.args.receiver.now

  abbrev lent : List ℕ
  lent = c.args.«record».now

  abbrev further : Entered
  further = looked_at c.args.looked receiver c.args.packet.now lent

  let-in : asked_of receiver (length lent) ≡ Ok tt
  let-in = sym c.asked.ensures ∙ c.in_ok-asked.was

  stands : Follows receiver c.args.packet.now lent further (Ok tt)
  stands = subst (Follows receiver c.args.packet.now lent further) c.in_ok-looked.was (looked-follows receiver lent c.args.looked c.args.packet.now c.requires)

pub returns-in_err-asked : goal.returns-in_err-asked
returns-in_err-asked c =
    told_meets _ _ c.from_residual.ensures.1 (asked-refused c.args.receiver.now _ _ _ (sym c.asked.ensures ∙ c.in_err-asked.was))

pub returns-in_err-looked : goal.returns-in_err-looked
returns-in_err-looked c =
    let args = c.args in
    let receiver = args.receiver.now in
    let lent = args.«record».now in
    let packet = args.packet.now in
    let further = looked_at args.looked receiver packet lent in
    told_meets _ _ c.from_residual-in_err-looked.ensures.1
    (entry-goes receiver lent further (sym c.asked.ensures ∙ c.in_ok-asked.was) _ _
    (subst (Follows receiver packet lent further) c.in_err-looked.was (looked-follows receiver lent args.looked packet c.requires)))

pub seen_of-shows-requires : goal.seen_of-shows-requires
seen_of-shows-requires c =
    let here = (goal.at.seen_of-shows-requires c).In_ok-looked in
    let ours = our_magazine c.args.receiver.now (rw (fine c.args.receiver.now _ (let-in here)).0 tt) in
    (ours.0, ours.1, (stands here).0)

pub follow-done-requires : goal.follow-done-requires
follow-done-requires c =
    let is = fine c.args.receiver.now _ (let-in (goal.at.follow-done-requires c).In_ok-looked) in
    (record { right = is.0; room = is.1 }, c.seen_of-shows.ensures)

pub returns : goal.returns
unfolding packet_mended
returns c =
    let here = (goal.at.returns c).In_ok-looked in
    let packet = c.args.packet.now in
    let counts = c.mended_bytes-mended.ensures ∙ ap (λ (s : Seen). mended_in s packet) c.seen_of-shows.ensures in
    entry_done c.args.receiver.now c.args.«record».now _ (let-in here) packet (stands here).1 _ _ _ c.follow-done.ensures counts _ c.taken_of.ensures
