-- The lent record's content is free: answers and receivers go by its length alone, and only by whether a record has room.
use mathlib.Core.Path.{◌≡◌, refl, ap, subst}
use mathlib.Core.Bool.{Bool, true, false, cond}
use mathlib.Core.List.{List}
use Prim.Native.Nat.{ℕ}
use lib.Dec.{eqb, ltb}
use lib.ListN.{length}
use Rattle.std.specs.Prelude.{Result, Ok, Err, ⊤}
use Rattle.packet.specs.Lines.{framed, packet_length, packet_of}
use Rattle.packet.specs.Texts.{text_of}
use Rattle.packet.specs.declared.LineError.{LineError}
use Rattle.packet.specs.declared.LineError.TheVariants as unframed
use Rattle.page.specs.Records.{record_length}
use Rattle.receiver.specs.Effects.{Outcome, doubted, effected, header_taken, just_closed, taken, text_taken, unclosed, unsure_taken}
use Rattle.receiver.specs.Entries.{Entered, asked, entered, lawful, line_by, line_entered, packet_gives, packet_taken, refusal}
use Rattle.receiver.specs.Kinds.{effect_due}
use Rattle.receiver.specs.Mended.{packet_mended}
use Rattle.receiver.specs.declared.Receiver.{Receiver}
use Rattle.receiver.specs.declared.kinds.Effect.{Effect}
use Rattle.receiver.specs.declared.kinds.Effect.TheVariants.{Nothing, Store, Open, Close, Doubt}
use Rattle.receiver.proofs.Closings.{length-stays}
use Rattle.receiver.proofs.Entering.{line_kept}

-- two entries that differ in nothing but what then lies in the lent record
abbrev pub SameButLent : Entered → Entered → Type 0
SameButLent one two = (one.answer ≡ two.answer) × (one.receiver ≡ two.receiver)

abbrev SameEntered : Outcome → Outcome → Type 0
SameEntered one two = (mended : ℕ) → SameButLent (entered one mended) (entered two mended)

module _ (receiver : Receiver) (lent other : List ℕ) where
  unsure-free : (could is_open : Bool)
      → SameEntered
      (cond is_open (cond could (just_closed (doubted receiver) 4 lent) (unclosed (doubted receiver) 4 lent)) (unclosed receiver 4 lent))
      (cond is_open (cond could (just_closed (doubted receiver) 4 other) (unclosed (doubted receiver) 4 other)) (unclosed receiver 4 other))
  unfolding entered just_closed unclosed
  unsure-free true true mended = (refl, refl)
  unsure-free false true mended = (refl, refl)
  unsure-free could false mended = (refl, refl)

  effected-free : (e : Effect) (bytes : List ℕ) → SameEntered (effected receiver e bytes lent) (effected receiver e bytes other)
  unfolding entered effected unclosed text_taken header_taken just_closed unsure_taken
  effected-free Nothing bytes mended = (refl, refl)
  effected-free (Store row) bytes mended = (refl, refl)
  effected-free (Open header) bytes mended = (refl, refl)
  effected-free (Close kind) bytes mended = (refl, refl)
  effected-free (Doubt could) bytes mended = unsure-free could receiver.«open» mended

  taken_free : (packet : List ℕ) → SameEntered (taken receiver packet lent) (taken receiver packet other)
  unfolding taken
  taken_free packet = effected-free (effect_due receiver packet) (text_of packet).bytes

  packet-free : (packet : List ℕ) (whole : Bool)
      → SameButLent (cond whole (packet_gives receiver packet lent) (refusal 10 receiver lent))
      (cond whole (packet_gives receiver packet other) (refusal 10 receiver other))
  unfolding refusal
  packet-free packet true = taken_free packet (packet_mended receiver packet)
  packet-free packet false = (refl, refl)

  framed-free : (line : List ℕ) (f : Result ⊤ LineError) → SameButLent (line_by f receiver line lent) (line_by f receiver line other)
  unfolding line_by packet_taken refusal
  framed-free line (Ok fine) = packet-free (packet_of line) (eqb (length (packet_of line)) packet_length)
  framed-free line (Err unframed.WrongLength) = (refl, refl)
  framed-free line (Err unframed.WrongFraming) = (refl, refl)

  asked-free : (further another : Entered) → SameButLent further another → (is_lawful short : Bool)
      → SameButLent (cond is_lawful (cond short (refusal 12 receiver lent) further) (refusal 18 receiver lent))
      (cond is_lawful (cond short (refusal 12 receiver other) another) (refusal 18 receiver other))
  unfolding refusal
  asked-free further another same true true = (refl, refl)
  asked-free further another same true false = same
  asked-free further another same false short = (refl, refl)

pub entered_free : (receiver : Receiver) (line lent other : List ℕ) → ltb (length lent) record_length ≡ ltb (length other) record_length
    → SameButLent (line_entered receiver line lent) (line_entered receiver line other)
unfolding line_entered asked
entered_free receiver line lent other same =
    let further = line_by (framed line) receiver line other in
    subst (λ (short : Bool). SameButLent (line_entered receiver line lent) (cond (lawful receiver) (cond short (refusal 12 receiver other) further) (refusal 18 receiver other)))
    same
    (asked-free receiver lent other (line_by (framed line) receiver line lent) further (framed-free receiver lent other line (framed line)) (lawful receiver)
    (ltb (length lent) record_length))

-- a record that has no room gets none, and one that has room keeps it
pub short_stays : (receiver : Receiver) (line lent : List ℕ) → ltb (length (line_entered receiver line lent).lent) record_length ≡ ltb (length lent) record_length
short_stays receiver line lent =
    line_kept receiver lent (λ (r : Receiver) (left : List ℕ). ltb (length left) record_length ≡ ltb (length lent) record_length) refl line
    (λ is long. ap (λ (n : ℕ). ltb n record_length) (length-stays receiver (packet_of line) lent long))
