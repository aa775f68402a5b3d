-- Playing a recording, turn by turn: where a turn goes on, where it stops, and the end.
use mathlib.Core.Path.{◌≡◌, refl, sym, ap, ap₂, ◌∙◌, subst}
use mathlib.Core.Bool.{Bool, true, false, cond}
use mathlib.Core.List.{List}
use mathlib.Core.Option.{some}
use Prim.Native.Nat.{ℕ, zero, suc, ◌+◌, ◌-◌, ◌≤◌, ◌<◌, min}
use native.Mathlib.Nat.{sub-zero}
use native.Mathlib.Omega.{arith}
use borrow.Author.Tests.{eq-eqb, ne_eqb}
use lib.ListN.{length, take, drop, length-drop}
use lib.Seq.{drop-drop}
use Rattle.std.specs.Prelude.{None, Some}
use Rattle.laws.specs.Digits.{most_counted}
use Rattle.laws.specs.Paper.{Paper}
use Rattle.laws.proofs.Bools.{passed}
use Rattle.laws.proofs.Lists.{drop_min}
use Rattle.packet.specs.Lines.{framed, line_length}
use Rattle.page.specs.Records.{record_length}
use Rattle.receiver.specs.Entries.{Entered, Meets, answer_paper, lawful, line_by, line_entered}
use Rattle.receiver.specs.Mended.{brought_by, none_mended, summed}
use Rattle.receiver.specs.Private.{Holds}
use Rattle.receiver.specs.Recordings.{Playing, PlaysAs, ended, goes_on, played, played_paper, playing, stopped_at}
use Rattle.receiver.specs.declared.Mended.{Mended}
use Rattle.receiver.specs.declared.Receiver.{Receiver}
use Rattle.receiver.specs.declared.Recorded.{Recorded}
use Rattle.receiver.specs.declared.Stepped.{Stepped}
use Rattle.receiver.proofs.Asked.{asked-on, meets}
use Rattle.receiver.proofs.Entering.{line-lawful}
use Rattle.receiver.proofs.MendedBytes.{Within, none_more}

-- ---- one turn

-- a line of a recording, entered
abbrev pub entry : Receiver → List ℕ → List ℕ → Entered
entry receiver rest lent = line_entered receiver (take line_length rest) lent

-- the mended bytes with those of an answer
abbrev pub with_answer : Mended → Paper → Mended
with_answer so answer = summed so (brought_by answer)

module _ (receiver : Receiver) (rest lent : List ℕ) (used : ℕ) (so : Mended) where
  abbrev here : Entered
  here = entry receiver rest lent

  -- what a turn leads to, where some lines are left and where not, and where it goes on and where not
  abbrev turned : ℕ → Bool → Bool → Playing
  turned bound empty on =
      cond empty (ended receiver lent used so)
      (cond on (playing bound here.receiver (drop line_length rest) here.lent (used + 1) (with_answer so here.answer))
      (stopped_at here (used + 1) (with_answer so here.answer)))

  pub turn-ends : (bound : ℕ) → length rest ≡ 0 → playing bound receiver rest lent used so ≡ ended receiver lent used so
  unfolding playing
  turn-ends zero e = refl
  turn-ends (suc bound) e = ap (λ (b : Bool). turned bound b (goes_on here.answer)) (eq-eqb (length rest) 0 e)

  pub turn : (bound : ℕ) → (length rest ≡ 0 → ⊥) → (on : Bool) → goes_on here.answer ≡ on
      → playing (suc bound) receiver rest lent used so
      ≡ cond on (playing bound here.receiver (drop line_length rest) here.lent (used + 1) (with_answer so here.answer))
      (stopped_at here (used + 1) (with_answer so here.answer))
  unfolding playing
  turn bound d on g = ap₂ (turned bound) (ne_eqb (length rest) 0 d) g

pub plays_as : {p q : Playing} (r : Recorded) (lent : List ℕ) → p ≡ q → PlaysAs p r lent → PlaysAs q r lent
plays_as r lent e m = subst (λ (x : Playing). PlaysAs x r lent) e m

module _ (receiver : Receiver) (recording lent : List ℕ) where
  -- nothing to play
  pub plays-nothing : length recording ≡ 0
      → PlaysAs (played receiver recording lent) (record { receiver = receiver; used = 0; mended = none_mended; answer = None }) lent
  unfolding played ended played_paper
  plays-nothing e =
      plays_as _ lent (sym (turn-ends receiver recording lent 0 none_mended (length recording) e))
      (record { answered = refl; counted = refl; mended = refl; kept = refl; left = refl })

  -- the first line refused
  pub first_stops : (length recording ≡ 0 → ⊥) → (s : Stepped) (left : List ℕ) → Meets (entry receiver recording lent) s left
      → goes_on (answer_paper s.answer) ≡ false → brought_by (answer_paper s.answer) ≡ none_mended
      → PlaysAs (played receiver recording lent) (record { receiver = s.receiver; used = 1; mended = none_mended; answer = Some s.answer }) left
  unfolding played stopped_at played_paper
  first_stops d s left m g nothing =
      plays_as _ left
      (sym (turn receiver recording lent 0 none_mended (length recording - 1) d false (sym (ap goes_on m.answered) ∙ g))
      ∙ ap (λ (n : ℕ). playing n receiver recording lent 0 none_mended) (suc-pred d))
      (record {
        answered = ap some m.answered;
        counted = refl;
        mended = sym (ap (with_answer none_mended) (sym m.answered) ∙ (ap (summed none_mended) nothing ∙ none_more none_mended));
        kept = m.kept;
        left = m.left;
      })
    where
      suc-pred : (length recording ≡ 0 → ⊥) → suc (length recording - 1) ≡ length recording
      suc-pred d = omega (arith, d)

-- ---- what holds before each turn: what is still to be played gives what the whole gives

pub record Turning (recording record₀ : List ℕ) (receiver : Receiver) (lent : List ℕ) (current : Receiver) (at used : ℕ) (so : Mended) : Type 0 where
  pub plays : playing (length recording - used) current (drop at recording) lent used so ≡ played receiver recording record₀
  pub used_within : used ≤ at
  pub at_within : at ≤ length recording
  pub bytes_within : so.bytes ≤ at
  pub lines_within : so.lines ≤ used
  pub own_within : so.own ≤ so.bytes
  pub right : lawful current ≡ true
  pub room : record_length ≤ length lent
  pub same : length lent ≡ length record₀

pub turning_starts : (receiver : Receiver) (recording lent : List ℕ) → lawful receiver ≡ true → record_length ≤ length lent
    → Turning recording lent receiver lent receiver 0 0 none_mended
unfolding played
turning_starts receiver recording lent right room =
    record {
      plays = ap (λ (n : ℕ). playing n receiver recording lent 0 none_mended) (sub-zero (length recording));
      used_within = omega arith;
      at_within = omega arith;
      bytes_within = omega arith;
      lines_within = omega arith;
      own_within = omega arith;
      right = right;
      room = room;
      same = refl;
    }

pub turning_at : {recording record₀ : List ℕ} {receiver : Receiver} {lent : List ℕ} {current : Receiver} {at same used : ℕ} {so : Mended} → same ≡ at
    → Turning recording record₀ receiver lent current at used so → Turning recording record₀ receiver lent current same used so
turning_at {recording} {record₀} {receiver} {lent} {current} {at} {same} {used} {so} e t =
    subst (λ (k : ℕ). Turning recording record₀ receiver lent current k used so) (sym e) t

module _ {recording record₀ : List ℕ} {receiver : Receiver} {lent : List ℕ} {current : Receiver} {at used : ℕ} {so : Mended}
    (t : Turning recording record₀ receiver lent current at used so) where
  pub turning-ends : length recording ≤ at
      → PlaysAs (played receiver recording record₀) (record { receiver = current; used = used; mended = so; answer = None }) lent
  unfolding ended played_paper
  turning-ends h =
      plays_as _ lent
      (sym (turn-ends current (drop at recording) lent used so (length recording - used) (length-drop at recording ∙ omega (arith, h))) ∙ t.plays)
      (record { answered = refl; counted = refl; mended = refl; kept = refl; left = refl })

  -- a line's mended bytes can be added, where they are no more than the line's bytes
  pub turning-holds : (mended size : ℕ) → mended ≤ size → at + size ≤ length recording → length recording ≤ most_counted → 1 ≤ size → Holds so mended
  turning-holds mended size few inside fits one =
      let bytes = t.bytes_within in
      let lines = t.lines_within in
      let own = t.own_within in
      let lines-used = t.used_within in
      record { bytes = omega arith; lines = omega arith; own = omega arith }

  module _ (more : at < length recording) (size : ℕ) (sized : size ≡ min line_length (length recording - at)) where
    by-rest : size ≡ min line_length (length (drop at recording))
    by-rest = sized ∙ ap (min line_length) (sym (length-drop at recording))

    the_rest : drop (at + size) recording ≡ drop line_length (drop at recording)
    the_rest = sym (drop-drop size at recording) ∙ (ap (λ (k : ℕ). drop k (drop at recording)) by-rest ∙ drop_min line_length (drop at recording))

    not_empty : length (drop at recording) ≡ 0 → ⊥
    not_empty e = let l : length recording - at ≡ 0 = sym (length-drop at recording) ∙ e in omega (arith, l, more)

    one_more : suc (length recording - (used + 1)) ≡ length recording - used
    one_more = omega (arith, t.used_within, more)

    abbrev now-entered : Entered
    now-entered = entry current (drop at recording) lent

    module _ (line : List ℕ) (cut : line ≡ take line_length (drop at recording)) (s : Stepped) (left : List ℕ)
        (m : Meets (line_by (framed line) current line lent) s left)
        (after : Mended) (sums : after ≡ with_answer so (answer_paper s.answer)) where
      entered_here : Meets now-entered s left
      unfolding line_entered
      entered_here =
          meets s left
          (ap (λ (x : List ℕ). line_by (framed x) current x lent) cut
          ∙ asked-on current lent (line_by (framed (take line_length (drop at recording))) current (take line_length (drop at recording)) lent) t.right t.room)
          m

      sums-here : after ≡ with_answer so now-entered.answer
      sums-here = sums ∙ ap (with_answer so) entered_here.answered

      -- what the turn leads to
      abbrev goes_to : Bool → Receiver → List ℕ → List ℕ → Mended → Playing
      goes_to on r rest l mended =
          cond on (playing (length recording - (used + 1)) r rest l (used + 1) mended) (stopped_at now-entered (used + 1) mended)

      turn_is : (on : Bool) → goes_on (answer_paper s.answer) ≡ on
          → goes_to on now-entered.receiver (drop line_length (drop at recording)) now-entered.lent after ≡ played receiver recording record₀
      turn_is on g =
          ap (goes_to on now-entered.receiver (drop line_length (drop at recording)) now-entered.lent) sums-here
          ∙ (sym (turn current (drop at recording) lent used so (length recording - (used + 1)) not_empty on (sym (ap goes_on entered_here.answered) ∙ g))
          ∙ (ap (λ (n : ℕ). playing n current (drop at recording) lent used so) one_more ∙ t.plays))

      pub turning-stops : goes_on (answer_paper s.answer) ≡ false
          → PlaysAs (played receiver recording record₀) (record { receiver = s.receiver; used = used + 1; mended = after; answer = Some s.answer }) left
      unfolding stopped_at played_paper
      turning-stops g =
          plays_as _ left (turn_is false g)
          (record { answered = ap some entered_here.answered; counted = refl; mended = refl; kept = entered_here.kept; left = entered_here.left })

      -- where it adds no more than the line has bytes
      pub turning-on : goes_on (answer_paper s.answer) ≡ true → length left ≡ length lent
          → {mended : ℕ} → Within (brought_by (answer_paper s.answer)) mended → mended ≤ size
          → Turning recording record₀ receiver left s.receiver (at + size) (used + 1) after
      unfolding summed
      turning-on g keeps within few =
          let bytes = ap (λ (x : Mended). x.bytes) sums in
          let lines = ap (λ (x : Mended). x.lines) sums in
          let own = ap (λ (x : Mended). x.own) sums in
          record {
            plays =
                ap (λ (r : Receiver). playing (length recording - (used + 1)) r (drop (at + size) recording) left (used + 1) after) entered_here.kept
                ∙ (ap₂ (λ (x l : List ℕ). goes_to true now-entered.receiver x l after) the_rest entered_here.left ∙ turn_is true g);
            used_within = omega (arith, t.used_within, more, sized);
            at_within = omega (arith, t.at_within, sized);
            bytes_within = omega (arith, t.bytes_within, bytes, within.bytes, few);
            lines_within = omega (arith, t.lines_within, lines, within.lines);
            own_within = omega (arith, t.own_within, bytes, own, within.bytes, within.own);
            right = ap lawful entered_here.kept ∙ passed (lawful now-entered.receiver) (line-lawful current (rw t.right _) lent (take line_length (drop at recording)));
            room = rw keeps t.room;
            same = keeps ∙ t.same;
          }
