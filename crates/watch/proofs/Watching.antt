-- Laws of the watch: a line that goes on is one line more with its mended bytes, and nothing else; and of a lawful receiver whose record is long enough each line is taken, or refused by
-- 10 or 11, so that no other number has to be counted.
use mathlib.Core.Path.{◌≡◌, refl, ap, ap₂, ◌∙◌}
use mathlib.Core.Bool.{Bool, true, false, cond, ◌&&◌}
use mathlib.Core.List.{List}
use mathlib.Core.Logic.{◌⊎◌, inl, inr}
use mathlib.Core.Option.{Option, none, some}
use Prim.Native.Nat.{ℕ, ◌+◌, ◌-◌, ◌≤◌, min}
use native.Mathlib.Omega.{arith}
use borrow.Author.Tests.{eqb-true, le-ltb}
use lib.Dec.{T, eqb}
use lib.ListN.{length, get_or}
use Rattle.std.specs.Prelude.{None, Result, Ok, Err, ⊤}
use Rattle.laws.specs.Digits.{most_counted}
use Rattle.laws.specs.Paper.{Paper, accepted, refused_by}
use Rattle.laws.proofs.Bools.{both_true}
use Rattle.laws.proofs.Keeps.{either}
use Rattle.packet.specs.Lines.{framed, packet_length, packet_of}
use Rattle.packet.specs.declared.LineError.{LineError}
use Rattle.packet.specs.declared.LineError.TheVariants.{WrongLength, WrongFraming}
use Rattle.page.specs.Records.{record_length}
use Rattle.receiver.specs.Entries.{entered, lawful, line_by, line_entered, packet_gives, packet_taken, refusal, refused_line}
use Rattle.receiver.specs.Mended.{brought_by, none_mended, summed}
use Rattle.receiver.specs.declared.Mended.{Mended}
use Rattle.receiver.specs.declared.Receiver.{Receiver}
use Rattle.receiver.proofs.Entering.{never-18}
use Rattle.receiver.specs.Recordings.{goes_on, is_accepted}
use Rattle.watch.specs.Watched.{added, added_if, closing_of, gap_after, is_number, line_watched, lines_passed, own_after, own_closed, recording_watched, without, word_of}
use Rattle.watch.specs.declared.Watch.{Watch}

-- ---- lines that go on

-- an accepted answer whose closing word is none
pub record GoesOn (answer : Paper) : Type 0 where
  pub number : answer.number ≡ some 0
  pub closing : closing_of answer ≡ 0

accepted_is : (number : Option ℕ) → is_accepted number ≡ true → number ≡ some 0
unfolding is_accepted
accepted_is none e = let z : ◌≡◌ {A = ℕ} 0 1 = cc in absurd (omega arith)
accepted_is (some n) e = ap {B = Option ℕ} some (eqb-true n 0 e)

pub on : (answer : Paper) → goes_on answer ≡ true → GoesOn answer
unfolding goes_on closing_of
on answer e =
    let both = both_true (is_accepted answer.number) (eqb (get_or answer.values 2 0) 0) e in
    record { number = accepted_is answer.number both.0; closing = eqb-true (get_or answer.values 2 0) 0 both.1 }

and_true : (a : Bool) → (a && true) ≡ a
and_true true = refl
and_true false = refl

-- a line that goes on leaves the watch one line more, with its mended bytes, and has no word
pub line_on : (watch : Watch) (is_open : Bool) (answer : Paper) → goes_on answer ≡ true
    → line_watched watch is_open answer ≡ record { watch = lines_passed watch 1 (brought_by answer); word = None; own = 0 }
unfolding line_watched lines_passed gap_after is_accepted is_number added_if word_of own_after own_closed
line_on watch is_open answer e =
    let o = on answer e in
    rw (o.number, o.closing, and_true watch.gap)

-- some lines and then some more
added_more : (count a b : ℕ) → added (added count a) b ≡ added count (a + b)
unfolding added
added_more count a b = omega arith

none_then : (count more : ℕ) → added (added count 0) more ≡ added count more
unfolding added
none_then count more = omega arith

pub passed_more : (watch : Watch) (a b : ℕ) (m n : Mended) → lines_passed (lines_passed watch a m) b n ≡ lines_passed watch (a + b) (summed m n)
unfolding lines_passed summed
passed_more watch a b m n =
    rw (
      added_more watch.lines a b,
      added_more watch.mended m.bytes n.bytes,
      added_more watch.mended_lines m.lines n.lines,
      added_more watch.own m.own n.own,
    )

-- no lines, and then a line that stops
passed_none : (watch : Watch) (is_open : Bool) (answer : Paper) → line_watched (lines_passed watch 0 none_mended) is_open answer ≡ line_watched watch is_open answer
unfolding line_watched lines_passed own_after own_closed
passed_none watch is_open answer =
    rw (
      none_then watch.lines 1,
      none_then watch.mended (brought_by answer).bytes,
      none_then watch.mended_lines (brought_by answer).lines,
      none_then watch.own (brought_by answer).own,
      none_then watch.own 0,
    )

-- ---- the mended bytes of some lines

mended_is : (a b : Mended) → a.bytes ≡ b.bytes → a.lines ≡ b.lines → a.own ≡ b.own → a ≡ b
mended_is a b bytes lines own = λ i. record { bytes = bytes i; lines = lines i; own = own i }

-- and of some among them
pub record AtLeast (all some : Mended) : Type 0 where
  pub bytes : some.bytes ≤ all.bytes
  pub lines : some.lines ≤ all.lines
  pub own : some.own ≤ all.own

pub at_least_itself : (m : Mended) → AtLeast m m
at_least_itself m = record { bytes = omega arith; lines = omega arith; own = omega arith }

module _ (so more : Mended) where
  pub at-least-more : AtLeast (summed so more) so
  unfolding summed
  at-least-more = record { bytes = omega arith; lines = omega arith; own = omega arith }

  pub at-least-less : {all : Mended} → AtLeast all (summed so more) → AtLeast all so
  unfolding summed
  at-least-less h =
      let bytes = h.bytes in
      let lines = h.lines in
      let own = h.own in
      record { bytes = omega arith; lines = omega arith; own = omega arith }

  -- what is left without the first of them
  pub more-alone : without (summed so more) so ≡ more
  unfolding summed without
  more-alone = mended_is (without (summed so more) so) more (omega arith) (omega arith) (omega arith)

  pub without-both : (all : Mended) → AtLeast all (summed so more) → summed more (without all (summed so more)) ≡ without all so
  unfolding summed without
  without-both all h =
      let bytes = h.bytes in
      let lines = h.lines in
      let own = h.own in
      mended_is (summed more (without all (summed so more))) (without all so) (omega arith) (omega arith) (omega arith)

  -- and without some of the second
  pub last_out : (last : Mended) → AtLeast more last → summed so (without more last) ≡ without (summed so more) last
  unfolding summed without
  last_out last h =
      let bytes = h.bytes in
      let lines = h.lines in
      let own = h.own in
      mended_is (summed so (without more last)) (without (summed so more) last) (omega arith) (omega arith) (omega arith)

pub without_none : (m : Mended) → without m none_mended ≡ m
unfolding without
without_none m = mended_is (without m none_mended) m (omega arith) (omega arith) (omega arith)

none_left : (m : Mended) → without m m ≡ none_mended
unfolding without
none_left m = mended_is (without m m) none_mended (omega arith) (omega arith) (omega arith)

at_least_with : (more : Mended) {all some : Mended} → AtLeast all some → AtLeast (summed more all) some
unfolding summed
at_least_with more h =
    let bytes = h.bytes in
    let lines = h.lines in
    let own = h.own in
    record { bytes = omega arith; lines = omega arith; own = omega arith }

-- ---- some lines of a recording

-- one line at which it stops
pub one_stops : (watch : Watch) (is_open : Bool) (answer : Paper) → recording_watched watch 1 (brought_by answer) is_open (some answer) ≡ line_watched watch is_open answer
unfolding recording_watched
one_stops watch is_open answer =
    ap (λ (m : Mended). line_watched (lines_passed watch 0 m) is_open answer) (none_left (brought_by answer)) ∙ passed_none watch is_open answer

-- the line that it stopped at is among them
abbrev pub Covers : Mended → Option Paper → Type 0
Covers all none = Unit {0}
Covers all (some answer) = AtLeast all (brought_by answer)

pub covers_more : (more all : Mended) (stopped : Option Paper) → Covers all stopped → Covers (summed more all) stopped
covers_more more all none c = tt
covers_more more all (some answer) c = at_least_with more c

-- a line that goes on, and then so many of a recording
pub recording_more : (watch : Watch) (is_open : Bool) (stopped : Option Paper) (used : ℕ) (first others : Mended) → 1 ≤ used → Covers others stopped
    → recording_watched (lines_passed watch 1 first) used others is_open stopped ≡ recording_watched watch (1 + used) (summed first others) is_open stopped
unfolding recording_watched
recording_more watch is_open none used first others h c = ap (λ (w : Watch). record { watch = w; word = None; own = 0 }) (passed_more watch 1 used first others)
recording_more watch is_open (some answer) used first others h c =
    let before : 1 + (used - 1) ≡ 1 + used - 1 = omega arith in
    ap (λ (w : Watch). line_watched w is_open answer)
    (passed_more watch 1 (used - 1) first (without others (brought_by answer)) ∙ ap₂ (lines_passed watch) before (last_out first others (brought_by answer) c))

-- the count of a page that closed is a count
closed_counted : (own : ℕ) (answer : Paper) → own_closed own answer ≤ most_counted
unfolding own_closed added
closed_counted own answer = either (λ (n : ℕ). n ≤ most_counted) (eqb (closing_of answer) 0) 0 (min most_counted (own + 0)) (omega arith) (omega arith)

pub page_counted : (watch : Watch) (used : ℕ) (mended : Mended) (is_open : Bool) (stopped : Option Paper) → (recording_watched watch used mended is_open stopped).own ≤ most_counted
unfolding recording_watched line_watched
page_counted watch used mended is_open none = omega arith
page_counted watch used mended is_open (some answer) = closed_counted (lines_passed watch (used - 1) (without mended (brought_by answer))).own answer

-- ---- the numbers that arise

-- taken, or refused by 10 or 11
abbrev pub Counted : Option ℕ → Type 0
Counted number = (number ≡ some 0) ⊎ ((number ≡ some 10) ⊎ (number ≡ some 11))

module _ (receiver : Receiver) (line lent : List ℕ) where
  taken-counted : (whole : Bool) (packet : List ℕ)
      → Counted (cond whole (packet_gives receiver packet lent) (refusal 10 receiver lent)).answer.number
  unfolding entered accepted refusal refused_line refused_by
  taken-counted true packet = inl refl
  taken-counted false packet = inr (inl refl)

  line-counted : (what : Result ⊤ LineError) → Counted (line_by what receiver line lent).answer.number
  unfolding line_by packet_taken refusal refused_line refused_by
  line-counted (Ok fine) = taken-counted (eqb (length (packet_of line)) packet_length) (packet_of line)
  line-counted (Err WrongLength) = inr (inl refl)
  line-counted (Err WrongFraming) = inr (inr refl)

  -- 12 and 18 never arise from a receiver of our own and a record that is long enough
  pub counted : T (lawful receiver) → record_length ≤ length lent → Counted (line_entered receiver line lent).answer.number
  unfolding line_entered
  counted is long = rw (never-18 receiver is lent (line_by (framed line) receiver line lent), le-ltb (length lent) record_length long) (line-counted (framed line))
