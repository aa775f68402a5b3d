-- The entries: refused, a call changes nothing. Asked of a lawful receiver: 18 is not given, the receiver that comes back is lawful, and a good line of
-- a lent record that is long enough is taken. And a line does what its packet does.
use mathlib.Core.Path.{◌≡◌, ◌∙◌, ap, sym}
use mathlib.Core.Bool.{cond}
use mathlib.Core.List.{List}
use Prim.Native.Nat.{ℕ, ◌≤◌}
use native.Mathlib.Omega.{arith}
use borrow.Author.Tests.{eq-eqb, le-ltb, ltb-false}
use lib.Dec.{T, eqb, ltb}
use lib.ListN.{length}
use Rattle.std.specs.Prelude.{Result, Ok, Err, ⊤}
use Rattle.laws.proofs.Bools.{passed}
use Rattle.laws.proofs.Keeps.{chosen, failed}
use Rattle.laws.proofs.Lists.{length_part}
use Rattle.packet.specs.Lines.{framed, packet_length, packet_of, packet_part, packet_place}
use Rattle.packet.specs.declared.LineError.{LineError}
use Rattle.packet.specs.declared.LineError.TheVariants as unframed
use Rattle.packet.proofs.Whole.{whole_line}
use Rattle.page.specs.Records.{record_length}
use Rattle.receiver.specs.Entries.{Entered, asked, entered, lawful, line_by, line_entered, packet_entered, packet_gives, packet_taken, refusal}
use Rattle.receiver.specs.Effects.{taken}
use Rattle.receiver.specs.declared.Receiver.{Receiver}
use Rattle.receiver.proofs.Lawful.{taken-lawful}

-- the packet of a framed line has 42 bytes
pub length_packet : (line : List ℕ) → framed line ≡ Ok tt → length (packet_of line) ≡ packet_length
unfolding packet_of packet_part
length_packet line e =
    ap (λ (f : Result ⊤ LineError). length (packet_part f line)) e ∙ length_part line packet_place packet_length (omega (arith, whole_line line e))

-- ---- refused, a call changes nothing; else the packet is taken

module _ (receiver : Receiver) (lent : List ℕ) (P : Receiver → List ℕ → Type 0) (same : P receiver lent) where
  abbrev Kept : Entered → Type 0
  Kept e = P e.receiver e.lent

  refusal-kept : (number : ℕ) → Kept (refusal number receiver lent)
  unfolding refusal
  refusal-kept number = same

  asked-kept : (further : Entered) → (T (lawful receiver) → record_length ≤ length lent → Kept further) → Kept (asked receiver lent further)
  unfolding asked
  asked-kept further keeps =
      chosen Kept (lawful receiver) _ (refusal 18 receiver lent)
      (λ t.
      chosen Kept (ltb (length lent) record_length) (refusal 12 receiver lent) further (λ short. refusal-kept 12)
      (λ long. keeps t (ltb-false (length lent) record_length (failed (ltb (length lent) record_length) long))))
      (λ t. refusal-kept 18)

  packet-taken-kept : (packet : List ℕ) → Kept (packet_gives receiver packet lent) → Kept (packet_taken receiver packet lent)
  unfolding packet_taken
  packet-taken-kept packet after =
      chosen Kept (eqb (length packet) packet_length) (packet_gives receiver packet lent) (refusal 10 receiver lent) (λ t. after) (λ t. refusal-kept 10)

  line-by-kept : (f : Result ⊤ LineError) (line : List ℕ) → Kept (packet_gives receiver (packet_of line) lent) → Kept (line_by f receiver line lent)
  unfolding line_by
  line-by-kept (Ok fine) line after = packet-taken-kept (packet_of line) after
  line-by-kept (Err unframed.WrongLength) line after = refusal-kept 10
  line-by-kept (Err unframed.WrongFraming) line after = refusal-kept 11

  -- what a packet does, where it is taken
  abbrev Taken : List ℕ → Type 0
  Taken packet = T (lawful receiver) → record_length ≤ length lent → P (taken receiver packet lent).receiver (taken receiver packet lent).lent

  pub packet-kept : (packet : List ℕ) → Taken packet → Kept (packet_entered receiver packet lent)
  unfolding packet_entered entered
  packet-kept packet after = asked-kept (packet_taken receiver packet lent) (λ is long. packet-taken-kept packet (after is long))

  pub line_kept : (line : List ℕ) → Taken (packet_of line) → Kept (line_entered receiver line lent)
  unfolding line_entered entered
  line_kept line after = asked-kept (line_by (framed line) receiver line lent) (λ is long. line-by-kept (framed line) line (after is long))

-- ---- of a lawful receiver

module _ (receiver : Receiver) (is : T (lawful receiver)) (lent : List ℕ) where
  -- 18 is not given: only 12 is asked before what follows
  pub never-18 : (further : Entered) → asked receiver lent further ≡ cond (ltb (length lent) record_length) (refusal 12 receiver lent) further
  unfolding asked
  never-18 further = rw (passed (lawful receiver) is)

  -- the receiver that comes back is lawful, refused or not
  abbrev StaysLawful : Receiver → List ℕ → Type 0
  StaysLawful after left = T (lawful after)

  pub packet-lawful : (packet : List ℕ) → T (lawful (packet_entered receiver packet lent).receiver)
  packet-lawful packet = packet-kept receiver lent StaysLawful is packet (λ l long. taken-lawful receiver is lent packet)

  pub line-lawful : (line : List ℕ) → T (lawful (line_entered receiver line lent).receiver)
  line-lawful line = line_kept receiver lent StaysLawful is line (λ l long. taken-lawful receiver is lent (packet_of line))

  -- a packet of 42 bytes, and a line that is framed, are taken where the lent record is long enough
  module _ (long : record_length ≤ length lent) where
    asked_is : (further : Entered) → asked receiver lent further ≡ further
    asked_is further = never-18 further ∙ rw (le-ltb (length lent) record_length long)

    pub packet-is-taken : (packet : List ℕ) → length packet ≡ packet_length → packet_entered receiver packet lent ≡ packet_gives receiver packet lent
    unfolding packet_entered packet_taken
    packet-is-taken packet e = asked_is (packet_taken receiver packet lent) ∙ rw (eq-eqb (length packet) packet_length e)

    pub line-is-taken : (line : List ℕ) → framed line ≡ Ok tt → line_entered receiver line lent ≡ packet_gives receiver (packet_of line) lent
    unfolding line_entered line_by packet_taken
    line-is-taken line e =
        asked_is (line_by (framed line) receiver line lent)
        ∙ (ap (λ (f : Result ⊤ LineError). line_by f receiver line lent) e ∙ rw (eq-eqb (length (packet_of line)) packet_length (length_packet line e)))

-- the packet of a line whose framing passes does what the line does
pub packet_of_line : (receiver : Receiver) (line lent : List ℕ) → framed line ≡ Ok tt
    → packet_entered receiver (packet_of line) lent ≡ line_entered receiver line lent
unfolding packet_entered line_entered line_by
packet_of_line receiver line lent passes = ap (λ (f : Result ⊤ LineError). asked receiver lent (line_by f receiver line lent)) (sym passes)
