-- Through a run: what stands before each of its lines, and what each line gives.
use mathlib.Core.Path.{◌≡◌, refl, sym, ap, subst, ◌∙◌}
use mathlib.Core.List.{List}
use Prim.Native.Nat.{ℕ, zero, suc, ◌≤◌, ◌<◌}
use native.Mathlib.Omega.{arith}
use lib.Dec.{T}
use lib.ListN.{length}
use Rattle.laws.proofs.Bools.{passed, both_left, both_right}
use Rattle.laws.proofs.Every.{every_at}
use Rattle.packet.specs.Lines.{packet_of}
use Rattle.packet.specs.Sent.{damage, line_packet, sent_by_rules}
use Rattle.page.specs.Records.{record_length}
use Rattle.receiver.specs.Entries.{Entered, closing_number, entered, lawful, made, new_receiver}
use Rattle.receiver.specs.Mended.{packet_mended}
use Rattle.receiver.specs.Effects.{Outcome, taken}
use Rattle.receiver.specs.Selections.{in_range}
use Rattle.receiver.specs.declared.Receiver.{Receiver}
use Rattle.receiver.proofs.Carried.{taken_selection}
use Rattle.receiver.proofs.Closings.{length-stays}
use Rattle.receiver.proofs.Entering.{line_kept}
use Rattle.receiver.proofs.Lawful.{new_lawful, taken-lawful}
use Rattle.receiver.proofs.Sized.{Sized, new_sized, taken-sized}
use Rattle.demands.specs.Demands.{Fed, Ready, throughout}
use Rattle.demands.specs.Runs.{Line, Run, closing_of, count_of, entering, entry_at, kind_of, line_at, line_within, received_at, sent_at, before_line, within}
use Rattle.demands.proofs.Keeping.{Held, held_after}
use Rattle.demands.proofs.Told.{line_taken}

-- ---- an answer's kind, count and closing word

pub kind_entered : (o : Outcome) (mended : ℕ) → kind_of (entered o mended) ≡ o.kind
unfolding kind_of entered
kind_entered o mended = refl

pub count_entered : (o : Outcome) (mended : ℕ) → count_of (entered o mended) ≡ o.count
unfolding count_of entered
count_entered o mended = refl

pub closing_entered : (o : Outcome) (mended : ℕ) → closing_of (entered o mended) ≡ closing_number o.closing
unfolding closing_of entered
closing_entered o mended = refl

pub lent_entered : (o : Outcome) (mended : ℕ) → (entered o mended).lent ≡ o.lent
unfolding entered
lent_entered o mended = refl

-- ---- the lines

pub line_within_law : (d : ℕ) (line : Line) → T (line_within d line) → T (sent_by_rules line.sent) × T (damage d line.sent line.received)
unfolding line_within
line_within_law d line t = (
  both_left (sent_by_rules line.sent) (damage d line.sent line.received) t,
  both_right (sent_by_rules line.sent) (damage d line.sent line.received) t,
)

-- ---- what stands, whatever the lines are

pub record Stands (run : Run) (receiver : Receiver) (lent : List ℕ) : Type 0 where
  pub is : T (lawful receiver)
  pub room : record_length ≤ length lent
  pub selects : receiver.selection ≡ run.selection
  pub sized : Sized receiver.cells

taken_stands : (run : Run) (receiver : Receiver) (packet lent : List ℕ) → Stands run receiver lent
    → Stands run (taken receiver packet lent).receiver (taken receiver packet lent).lent
taken_stands run receiver packet lent stands =
    record {
      is = taken-lawful receiver stands.is lent packet;
      room = omega (arith, length-stays receiver packet lent stands.room, stands.room);
      selects = taken_selection receiver packet lent ∙ stands.selects;
      sized = taken-sized receiver stands.sized packet lent;
    }

new_stands : (run : Run) → Ready run → Stands run (new_receiver run.selection) run.lent
unfolding new_receiver
new_stands run ready =
    record { is = new_lawful run.selection ready.range; room = ready.room; selects = refl; sized = new_sized run.selection }

module _ (run : Run) (ready : Ready run) where
  abbrev pub receiver_at : ℕ → Receiver
  receiver_at k = (before_line run k).receiver

  abbrev pub lent_at : ℕ → List ℕ
  lent_at k = (before_line run k).lent

  abbrev pub packet_at : ℕ → List ℕ
  packet_at k = line_packet (received_at run.lines k)

  abbrev pub outcome_at : ℕ → Outcome
  outcome_at k = taken (receiver_at k) (packet_at k) (lent_at k)

  abbrev pub mended_at : ℕ → ℕ
  mended_at k = packet_mended (receiver_at k) (packet_at k)

  -- each line leaves to the next what its entry gave
  pub left-receiver : (k : ℕ) → receiver_at (suc k) ≡ (entry_at run k).receiver
  unfolding before_line entry_at
  left-receiver k = refl

  left-lent : (k : ℕ) → lent_at (suc k) ≡ (entry_at run k).lent
  unfolding before_line entry_at
  left-lent k = refl

  entry-stands : (k : ℕ) → Stands run (receiver_at k) (lent_at k) → Stands run (entry_at run k).receiver (entry_at run k).lent
  unfolding entry_at entering
  entry-stands k stands =
      line_kept (receiver_at k) (lent_at k) (Stands run) stands (received_at run.lines k)
      (λ is long. taken_stands run (receiver_at k) (packet_of (received_at run.lines k)) (lent_at k) stands)

  at_first : Stands run (receiver_at 0) (lent_at 0)
  unfolding before_line made
  at_first = rw (passed (in_range run.selection) ready.range) (new_stands run ready)

  -- before each line
  pub standing : (k : ℕ) → Stands run (receiver_at k) (lent_at k)
  standing zero = at_first
  standing (suc k) = rw (left-receiver k, left-lent k) (entry-stands k (standing k))

  -- a line within some damage is taken
  module _ (d k : ℕ) (sent : T (sent_by_rules (sent_at run.lines k))) (damaged : T (damage d (sent_at run.lines k) (received_at run.lines k))) where
    pub entry-is : entry_at run k ≡ entered (outcome_at k) (mended_at k)
    unfolding entry_at entering
    entry-is =
        line_taken d (sent_at run.lines k) (received_at run.lines k) sent damaged (receiver_at k) (standing k).is (lent_at k) (standing k).room

    pub receiver-after : receiver_at (suc k) ≡ (outcome_at k).receiver
    unfolding entered
    receiver-after = left-receiver k ∙ ap (λ (e : Entered). e.receiver) entry-is

-- ---- and what is held, where the lines are within the damage

module _ (run : Run) (ready : Ready run) where
  -- what is held before a line within the damage is held after it
  pub held-further : (d k : ℕ) → d ≤ throughout → T (sent_by_rules (sent_at run.lines k)) → T (damage d (sent_at run.lines k) (received_at run.lines k))
      → Held run k (receiver_at run ready k) → Held run (suc k) (receiver_at run ready (suc k))
  held-further d k mild sent damaged held =
      let stands = standing run ready k in
      subst (Held run (suc k)) (sym (receiver-after run ready d k sent damaged))
      (held_after run k (receiver_at run ready k) (lent_at run ready k) stands.selects stands.sized d mild sent damaged held
      (ap kind_of (entry-is run ready d k sent damaged) ∙ kind_entered (outcome_at run ready k) (mended_at run ready k)))

module _ (run : Run) (fed : Fed run) where
  pub line_at_law : (k : ℕ) → k < length run.lines → T (sent_by_rules (sent_at run.lines k)) × T (damage throughout (sent_at run.lines k) (received_at run.lines k))
  unfolding within line_at
  line_at_law k h = line_within_law throughout (line_at run.lines k) (every_at (line_within throughout) run.lines fed.damaged k _ h)

  none-held : Held run 0 (receiver_at run fed.ready 0)
  unfolding before_line made new_receiver
  none-held =
      rw (passed (in_range run.selection) fed.ready.range) (λ going. absurd (let z : ◌≡◌ {A = ℕ} 0 1 = cc going.0 in omega arith))

  -- before each line, and after the last
  pub held_at : (k : ℕ) → k ≤ length run.lines → Held run k (receiver_at run fed.ready k)
  held_at zero h = none-held
  held_at (suc k) h =
      let (sent, damaged) = line_at_law k h in
      held-further run fed.ready throughout k (omega arith) sent damaged (held_at k (omega arith))
