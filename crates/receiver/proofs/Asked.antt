-- From what the code of an entry asked, looked at and did to what its definition gives.
use mathlib.Core.Path.{◌≡◌, refl, sym, ap, ap₂, ◌∙◌, subst}
use mathlib.Core.Bool.{Bool, true, false, cond, not, ◌&&◌, and_assoc}
use mathlib.Core.List.{List}
use Prim.Native.Nat.{ℕ, ◌≤◌}
use native.Mathlib.Omega.{arith}
use borrow.Author.Tests.{eq-eqb, eqb-true, le-ltb, ltb-false}
use lib.Dec.{eqb, ltb}
use lib.ListN.{length}
use Rattle.std.specs.Prelude.{None, Some, IsErrAnd, OnOk, Option, Result, Ok, Err, is_ok, is_some, ⊤}
use Rattle.laws.specs.Paper.{accepted}
use Rattle.packet.specs.Lines.{framed, packet_length, packet_of}
use Rattle.packet.specs.declared.LineError.{LineError}
use Rattle.packet.specs.declared.LineError.TheVariants as unframed
use Rattle.page.specs.Lawful.{cells_fit, cells_lawful, cells_checked, cells_paper, header_fits}
use Rattle.page.specs.Records.{record_length}
use Rattle.page.specs.declared.Cells.{Cells}
use Rattle.page.specs.declared.CellsError.{CellsError}
use Rattle.page.specs.declared.CellsError.TheVariants.{TooLarge, Unlawful}
use Rattle.page.proofs.Papers.{check_is}
use Rattle.receiver.specs.Effects.{Outcome, taken}
use Rattle.receiver.specs.Entries.{Entered, Meets, answer_paper, asked, entered, lawful, line_by, line_values, packet_gives, packet_taken, refusal, refusal_number, state_lawful}
use Rattle.receiver.specs.Mended.{brought_by, none_mended, packet_mended}
use Rattle.receiver.specs.Private.{Does, asked_by, asked_of, both_lawful, line_asked, looked_at, packet_asked, stepped_of, taken_of}
use Rattle.receiver.specs.Recordings.{goes_on}
use Rattle.receiver.specs.Selections.{in_range}
use Rattle.receiver.specs.declared.Closing.{Closing}
use Rattle.receiver.specs.declared.Closing.TheVariants as closing
use Rattle.receiver.specs.declared.Receiver.{Receiver}
use Rattle.receiver.specs.declared.Refusal.{Refusal}
use Rattle.receiver.specs.declared.Refusal.TheVariants as refused
use Rattle.receiver.specs.declared.Stepped.{Stepped}
use Rattle.receiver.specs.declared.Taken.{Taken}
use Rattle.receiver.specs.declared.effects.Done.{Done}
use Rattle.receiver.proofs.Entering.{length_packet}

-- ---- the cells that 18 asks

by_tests : (fit lawful : Bool) → (fit && lawful) ≡ is_ok {T = ⊤} (cond fit (cond lawful (Ok tt) (Err Unlawful)) (Err TooLarge))
by_tests true true = refl
by_tests true false = refl
by_tests false lawful = refl

pub asked_cells : (cells : Cells) (answer : Result ⊤ CellsError) → cells_paper answer ≡ cells_paper (cells_checked cells) → is_ok answer ≡ both_lawful cells
unfolding both_lawful cells_checked
asked_cells cells answer e = ap is_ok (check_is answer (cells_checked cells) e) ∙ sym (by_tests (cells_fit cells) (cells_lawful cells))

-- the four answers together are what 18 asks
pub all_asked : (receiver : Receiver) (range state fits cells : Bool) → range ≡ in_range receiver.selection
    → state ≡ state_lawful receiver
    → fits ≡ header_fits receiver.header → cells ≡ both_lawful receiver.cells → (range && state && fits && cells) ≡ lawful receiver
unfolding lawful both_lawful
all_asked receiver range state fits cells a b c d =
    let before = in_range receiver.selection && state_lawful receiver && header_fits receiver.header in
    ap₂ ◌&&◌ (ap₂ ◌&&◌ (ap₂ ◌&&◌ a b) c) d ∙ sym (and_assoc before (cells_fit receiver.cells) (cells_lawful receiver.cells))

-- ---- what `?` hands on

-- it is the refusal
pub refused_is : {T : Type 0} (told : Result T Refusal) (reason : Refusal) → IsErrAnd told (λ (r : Refusal). r ≡ reason) → told ≡ Err reason
refused_is (Err given) reason e = ap Err e
refused_is (Ok fine) reason e = absurd e

-- ---- 18 and 12

pub meets : {e f : Entered} (s : Stepped) (lent : List ℕ) → e ≡ f → Meets e s lent → Meets f s lent
meets s lent e m = subst (λ (x : Entered). Meets x s lent) e m

-- the receiver handed in, with a refusal
abbrev pub handed_back : Receiver → Refusal → Stepped
handed_back receiver reason = record { receiver = receiver; answer = Err reason }

-- what was shown of a refusal holds of what `?` hands on
pub told_meets : {e : Entered} {receiver : Receiver} {lent : List ℕ} (told : Result Taken Refusal) (reason : Refusal) → IsErrAnd told (λ (r : Refusal). r ≡ reason)
    → Meets e (handed_back receiver reason) lent → Meets e (stepped_of receiver told) lent
told_meets {e} {receiver} {lent} told reason is m =
    subst (λ (x : Result Taken Refusal). Meets e (stepped_of receiver x) lent) (sym (refused_is told reason is)) m

pub refused_meets : (receiver : Receiver) (lent : List ℕ) (reason : Refusal) → Meets (refusal (refusal_number reason) receiver lent) (handed_back receiver reason) lent
unfolding refusal answer_paper
refused_meets receiver lent reason = record { answered = refl; kept = refl; left = refl }

refused_as : (receiver : Receiver) (lent : List ℕ) (known given : Refusal) → known ≡ given
    → Meets (refusal (refusal_number known) receiver lent) (handed_back receiver given) lent
refused_as receiver lent known given e =
    subst (λ (r : Refusal). Meets (refusal (refusal_number known) receiver lent) (handed_back receiver r) lent) e (refused_meets receiver lent known)

module _ (receiver : Receiver) (lent : List ℕ) (further : Entered) where
  abbrev by-tests-asked : Bool → Bool → Result ⊤ Refusal
  by-tests-asked is_lawful short = cond is_lawful (cond short (Err refused.ShortRecord) (Ok tt)) (Err refused.Unlawful)

  abbrev by-tests-given : Bool → Bool → Entered
  by-tests-given is_lawful short = cond is_lawful (cond short (refusal 12 receiver lent) further) (refusal 18 receiver lent)

  refused-by : (is_lawful short : Bool) (given : Refusal) → by-tests-asked is_lawful short ≡ Err given
      → Meets (by-tests-given is_lawful short) (handed_back receiver given) lent
  unfolding refusal_number
  refused-by true true given e = refused_as receiver lent refused.ShortRecord given (cc)
  refused-by true false given e = absurd (let z : ◌≡◌ {A = ℕ} 0 1 = cc in omega arith)
  refused-by false short given e = refused_as receiver lent refused.Unlawful given (cc)

  pub asked-refused : (given : Refusal) → asked_of receiver (length lent) ≡ Err given → Meets (asked receiver lent further) (handed_back receiver given) lent
  unfolding asked asked_of
  asked-refused given e = refused-by (lawful receiver) (ltb (length lent) record_length) given e

  fine-by : (is_lawful short : Bool) → by-tests-asked is_lawful short ≡ Ok tt → (is_lawful ≡ true) × (short ≡ false)
  fine-by true true e = absurd (let z : ◌≡◌ {A = ℕ} 0 1 = cc in omega arith)
  fine-by true false e = (refl, refl)
  fine-by false short e = absurd (let z : ◌≡◌ {A = ℕ} 0 1 = cc in omega arith)

  pub asked-on : lawful receiver ≡ true → record_length ≤ length lent → further ≡ asked receiver lent further
  unfolding asked
  asked-on e h = sym (ap₂ by-tests-given e (le-ltb (length lent) record_length h))

pub fine : (receiver : Receiver) (lent : List ℕ) → asked_of receiver (length lent) ≡ Ok tt → (lawful receiver ≡ true) × (record_length ≤ length lent)
unfolding asked_of
fine receiver lent e =
    let both = fine-by receiver lent (refusal 18 receiver lent) (lawful receiver) (ltb (length lent) record_length) e in
    (both.0, ltb-false (length lent) record_length both.1)

-- ---- 10 and 11

-- what follows, by what was asked of a packet
abbrev pub Follows : Receiver → List ℕ → List ℕ → Entered → Result ⊤ Refusal → Type 0
Follows receiver packet lent further (Err given) = Meets further (handed_back receiver given) lent
Follows receiver packet lent further (Ok fine) = (length packet ≡ packet_length) × (further ≡ packet_gives receiver packet lent)

module _ (receiver : Receiver) (lent : List ℕ) where
  -- of what was asked of the packet
  pub looked-follows : (looked : Result ⊤ Refusal) (packet : List ℕ) → OnOk looked (length packet ≡ packet_length)
      → Follows receiver packet lent (looked_at looked receiver packet lent) looked
  unfolding looked_at
  looked-follows (Ok fine) packet whole = (whole, refl)
  looked-follows (Err reason) packet whole = refused_meets receiver lent reason

  packet-by : (packet : List ℕ) (whole : Bool)
      → cond whole (packet_gives receiver packet lent) (refusal 10 receiver lent) ≡ looked_at (cond whole (Ok tt) (Err refused.WrongLength)) receiver packet lent
  unfolding looked_at refusal_number
  packet-by packet true = refl
  packet-by packet false = refl

  pub packet-looked : (packet : List ℕ) → packet_taken receiver packet lent ≡ looked_at (packet_asked packet) receiver packet lent
  unfolding packet_taken packet_asked
  packet-looked packet = packet-by packet (eqb (length packet) packet_length)

  line-by : (line : List ℕ) (f : Result ⊤ LineError) → framed line ≡ f → line_by f receiver line lent ≡ looked_at (asked_by f) receiver (packet_of line) lent
  unfolding line_by asked_by packet_taken looked_at refusal_number
  line-by line (Ok fine) e =
      ap (λ (b : Bool). cond b (packet_gives receiver (packet_of line) lent) (refusal 10 receiver lent)) (eq-eqb (length (packet_of line)) packet_length (length_packet line e))
  line-by line (Err unframed.WrongLength) e = refl
  line-by line (Err unframed.WrongFraming) e = refl

  pub line-looked : (line : List ℕ) → line_by (framed line) receiver line lent ≡ looked_at (line_asked line) receiver (packet_of line) lent
  unfolding line_asked
  line-looked line = line-by line (framed line) refl

-- what 10 lets through has its length
whole_by : (packet : List ℕ) (whole : Bool) → eqb (length packet) packet_length ≡ whole
    → OnOk {T = ⊤} (cond whole (Ok tt) (Err refused.WrongLength)) (length packet ≡ packet_length)
whole_by packet true e = eqb-true (length packet) packet_length e
whole_by packet false e = tt

pub packet_whole : (packet : List ℕ) → OnOk (packet_asked packet) (length packet ≡ packet_length)
unfolding packet_asked
packet_whole packet = whole_by packet (eqb (length packet) packet_length) refl

line_whole_by : (line : List ℕ) (f : Result ⊤ LineError) → framed line ≡ f → OnOk (asked_by f) (length (packet_of line) ≡ packet_length)
unfolding asked_by
line_whole_by line (Ok fine) e = length_packet line e
line_whole_by line (Err unframed.WrongLength) e = tt
line_whole_by line (Err unframed.WrongFraming) e = tt

pub line_whole : (line : List ℕ) → OnOk (line_asked line) (length (packet_of line) ≡ packet_length)
unfolding line_asked
line_whole line = line_whole_by line (framed line) refl

pub line-follows : (receiver : Receiver) (lent line : List ℕ) → Follows receiver (packet_of line) lent (line_by (framed line) receiver line lent) (line_asked line)
line-follows receiver lent line =
    subst (λ (e : Entered). Follows receiver (packet_of line) lent e (line_asked line)) (sym (line-looked receiver lent line))
    (looked-follows receiver lent (line_asked line) (packet_of line) (line_whole line))

packet_fine : (f : Result ⊤ LineError) → asked_by f ≡ Ok tt → f ≡ Ok tt
unfolding asked_by
packet_fine (Ok fine) e = refl
packet_fine (Err unframed.WrongLength) e = absurd (let z : ◌≡◌ {A = ℕ} 0 1 = cc in omega arith)
packet_fine (Err unframed.WrongFraming) e = absurd (let z : ◌≡◌ {A = ℕ} 0 1 = cc in omega arith)

pub line_fine : (line : List ℕ) → line_asked line ≡ Ok tt → framed line ≡ Ok tt
unfolding line_asked
line_fine line e = packet_fine (framed line) e

-- ---- what was done

pub done_meets : {outcome : Outcome} (done : Done) {after : Receiver} {lent : List ℕ} → Does outcome done after lent → {given mended : ℕ} → given ≡ mended
    → Meets (entered outcome mended) (stepped_of after (Ok (taken_of done given))) lent
unfolding entered answer_paper
done_meets done d same =
    record {
      answered = λ i. accepted (line_values (d.kind i) (d.count i) (d.word i) (same i));
      kept = d.kept;
      left = d.left;
    }

-- ---- an entry that 18 and 12 let through

module _ (receiver : Receiver) (lent : List ℕ) (further : Entered) (e : asked_of receiver (length lent) ≡ Ok tt) where
  pub entry-goes : (s : Stepped) (left : List ℕ) → Meets further s left → Meets (asked receiver lent further) s left
  entry-goes s left m = let is = fine receiver lent e in meets s left (asked-on receiver lent further is.0 is.1) m

  -- and what the line did
  pub entry_done : (packet : List ℕ) → further ≡ packet_gives receiver packet lent → (done : Done) (after : Receiver) (left : List ℕ)
      → Does (taken receiver packet lent) done after left → {mended : ℕ} → mended ≡ packet_mended receiver packet → (given : Taken) → given ≡ taken_of done mended
      → Meets (asked receiver lent further) (stepped_of after (Ok given)) left
  entry_done packet f done after left d m given g =
      entry-goes (stepped_of after (Ok given)) left
      (meets (stepped_of after (Ok given)) left (sym f)
      (subst (λ (t : Taken). Meets (packet_gives receiver packet lent) (stepped_of after (Ok t)) left) (sym g) (done_meets done d m)))

-- ---- where playing stops

pub goes_on_is : (kind count : ℕ) (word : Option Closing) (mended : ℕ)
    → goes_on (answer_paper (Ok (record { kind = kind; count = count; closing = word; mended = mended }))) ≡ not (is_some word)
unfolding goes_on answer_paper
goes_on_is kind count None mended = refl
goes_on_is kind count (Some closing.Clean) mended = refl
goes_on_is kind count (Some closing.Doubt) mended = refl

-- a refused line stops, and has nothing mended
abbrev pub Refuses : Refusal → Type 0
Refuses given = (goes_on (answer_paper (Err given)) ≡ false) × (brought_by (answer_paper (Err given)) ≡ none_mended)

pub refuses : (given : Refusal) → Refuses given
unfolding goes_on answer_paper brought_by
refuses refused.Unlawful = (refl, refl)
refuses refused.ShortRecord = (refl, refl)
refuses refused.WrongLength = (refl, refl)
refuses refused.WrongFraming = (refl, refl)
