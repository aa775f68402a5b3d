-- What is said over lines, stop by stop: playing to the next stop and saying what closed there says what the lines on the way say one by one.
use Rattle.std.specs.Prelude.{None}
use mathlib.Core.Path.{◌≡◌, refl, sym, ◌∙◌, ap, ap₂, subst}
use mathlib.Core.Bool.{Bool, true, false, cond}
use mathlib.Core.List.{List, [], ◌∷◌, ◌++◌, append-nil}
use mathlib.Core.Logic.{◌⊎◌, inl, inr, ⊎_elim}
use mathlib.Core.Option.{some}
use Prim.Native.Nat.{ℕ, zero, suc, ◌+◌, ◌-◌, ◌*◌, ◌≤◌}
use native.Mathlib.Nat.{sub-zero}
use native.Mathlib.Omega.{arith}
use borrow.Author.Tests.{eq-eqb, ne_eqb}
use lib.ListN.{length, take, drop, length-append, length-drop}
use lib.Seq.{drop-append-le, drop-drop, take-append-le}
use Rattle.packet.specs.Lines.{line_length}
use Rattle.receiver.specs.Entries.{Entered, line_entered}
use Rattle.receiver.specs.Recordings.{Playing, ended, goes_on, played, playing, stopped_at}
use Rattle.receiver.specs.Mended.{brought_by, none_mended, summed}
use Rattle.receiver.specs.declared.Mended.{Mended}
use Rattle.receiver.proofs.Playing.{turn, turn-ends}
use Rattle.watch.specs.Watched.{lines_passed, recording_watched, without}
use Rattle.watch.specs.declared.Watched.{Watched}
use Rattle.watch.proofs.Watching.{AtLeast, Covers, at_least_itself, at-least-less, at-least-more, covers_more, line_on, more-alone, one_stops, recording_more, without-both, without_none}
use Rattle.announcing.specs.Private.{stop_said}
use Rattle.announcing.specs.Said.{Saying, line_said, lines_said, said}
use Rattle.announcing.specs.Told.{announced, page_said}

-- ---- line by line

module _ (before : Saying) (lines : List ℕ) where
  abbrev behind : ℕ → Saying
  behind bound = lines_said bound (line_said before (take line_length lines)) (drop line_length lines)

  pub said-ends : (bound : ℕ) → length lines ≡ 0 → lines_said bound before lines ≡ before
  unfolding lines_said
  said-ends zero e = refl
  said-ends (suc bound) e = ap (λ (empty : Bool). cond empty before (behind bound)) (eq-eqb (length lines) 0 e)

  pub said-on : (bound : ℕ) → (length lines ≡ 0 → ⊥) → lines_said (suc bound) before lines ≡ behind bound
  unfolding lines_said
  said-on bound d = ap (λ (empty : Bool). cond empty before (behind bound)) (ne_eqb (length lines) 0 d)

-- any bound that is enough says the same
less : (lines : List ℕ) (bound : ℕ) → (length lines ≡ 0 → ⊥) → length lines ≤ suc bound → length (drop line_length lines) ≤ bound
less lines bound d h = let l = length-drop line_length lines in omega (arith, d)

empty_or_not : (n : ℕ) → (n ≡ 0) ⊎ (n ≡ 0 → ⊥)
empty_or_not zero = inl refl
empty_or_not (suc n) = inr (λ e. absurd (omega arith))

both_enough : (a b : ℕ) (before : Saying) (lines : List ℕ) → length lines ≤ a → length lines ≤ b → lines_said a before lines ≡ lines_said b before lines
both_enough zero b before lines h k = let z : length lines ≡ 0 = omega arith in said-ends before lines 0 z ∙ sym (said-ends before lines b z)
both_enough (suc a) zero before lines h k = let z : length lines ≡ 0 = omega arith in said-ends before lines (suc a) z ∙ sym (said-ends before lines 0 z)
both_enough (suc a) (suc b) before lines h k =
    ⊎_elim
    (λ (z : length lines ≡ 0). said-ends before lines (suc a) z ∙ sym (said-ends before lines (suc b) z))
    (λ (d : length lines ≡ 0 → ⊥).
    said-on before lines a d
    ∙ (both_enough a b (line_said before (take line_length lines)) (drop line_length lines) (less lines a d h) (less lines b d k) ∙ sym (said-on before lines b d)))
    (empty_or_not (length lines))

pub enough : (bound : ℕ) (before : Saying) (lines : List ℕ) → length lines ≤ bound → lines_said bound before lines ≡ said before lines
unfolding said
enough bound before lines h = both_enough bound (length lines) before lines h (omega arith)

pub said_of_none : (before : Saying) (lines : List ℕ) → length lines ≡ 0 → said before lines ≡ before
unfolding said
said_of_none before lines z = said-ends before lines (length lines) z

-- the first line, and then the others
pub said_line : (before : Saying) (lines : List ℕ) → (length lines ≡ 0 → ⊥) → said before lines ≡ said (line_said before (take line_length lines)) (drop line_length lines)
said_line before lines d =
    let size : length lines ≤ suc (length lines - 1) = omega (arith, d) in
    sym (enough (suc (length lines - 1)) before lines size)
    ∙ (said-on before lines (length lines - 1) d ∙ enough (length lines - 1) (line_said before (take line_length lines)) (drop line_length lines) (less lines (length lines - 1) d size))

-- lines may be cut up behind any whole line: what is said does not depend on it
pub said_in_pieces : (count : ℕ) (before : Saying) (first others : List ℕ) → length first ≡ count * line_length → said before (first ++ others) ≡ said (said before first) others
said_in_pieces zero before [] others e = ap (λ (s : Saying). said s others) (sym (said_of_none before [] refl))
said_in_pieces zero before (byte ∷ first) others e = absurd (omega arith)
said_in_pieces (suc count) before first others e =
    let both = length-append first others in
    let size = length-drop line_length first in
    let whole : line_length ≤ length first = omega arith in
    let next = line_said before (take line_length first) in
    said_line before (first ++ others) (λ z. absurd (omega arith))
    ∙ (ap₂ (λ (line rest : List ℕ). said (line_said before line) rest) (take-append-le line_length first others whole) (drop-append-le line_length first others whole)
    ∙ (said_in_pieces count next (drop line_length first) others (omega arith)
    ∙ ap (λ (s : Saying). said s others) (sym (said_line before first (λ z. absurd (omega arith))))))

-- ---- and stop by stop

-- what is left and said where playing has come so far, from a count of lines used and the bytes mended in them
after_play : Saying → ℕ → Mended → Playing → Saying
after_play before used so p =
    let watched : Watched = recording_watched before.watch (p.used - used) (without p.mended so) p.receiver.«open» p.stopped in
    record {
      receiver = p.receiver;
      watch = watched.watch;
      lent = p.lent;
      text = before.text ++ announced watched.word watched.own p.lent;
    }

-- of some lines: playing uses one or more, and saying goes on behind them
record Goes (before : Saying) (lines : List ℕ) (bound used : ℕ) (so : Mended) (p : Playing) : Type 0 where
  more : used + 1 ≤ p.used
  above : AtLeast p.mended so
  covers : Covers (without p.mended so) p.stopped
  on : lines_said bound before lines ≡ said (after_play before used so p) (drop ((p.used - used) * line_length) lines)

-- the first line of some
module _ (before : Saying) (lines : List ℕ) (d : length lines ≡ 0 → ⊥) where
  abbrev entry : Entered
  entry = line_entered before.receiver (take line_length lines) before.lent

  abbrev first : Saying
  first = line_said before (take line_length lines)

  abbrev brings : Mended
  brings = brought_by entry.answer

  one_line : (used : ℕ) → (used + 1 - used) * line_length ≡ line_length
  one_line used = omega arith

  one_more : (used : ℕ) → used + 1 - used ≡ 1
  one_more used = omega arith

  -- it stops
  stops-here : (used : ℕ) (so : Mended) → after_play before used so (stopped_at entry (used + 1) (summed so brings)) ≡ first
  unfolding after_play stopped_at line_said
  stops-here used so =
      let watched =
      ap₂ (λ (n : ℕ) (m : Mended). recording_watched before.watch n m entry.receiver.«open» (some entry.answer)) (one_more used) (more-alone so brings)
      ∙ one_stops before.watch entry.receiver.«open» entry.answer
      in
      λ i.
      record {
        receiver = entry.receiver;
        watch = (watched i).watch;
        lent = entry.lent;
        text = before.text ++ announced (watched i).word (watched i).own entry.lent;
      }

  goes-stopped : (bound used : ℕ) (so : Mended) → length lines ≤ suc bound → Goes before lines (suc bound) used so (stopped_at entry (used + 1) (summed so brings))
  unfolding stopped_at
  goes-stopped bound used so h =
      record {
        more = omega arith;
        above = at-least-more so brings;
        covers = rw (more-alone so brings) (at_least_itself brings);
        on =
            said-on before lines bound d
            ∙ (enough bound first (drop line_length lines) (less lines bound d h)
            ∙ ap₂ (λ (s : Saying) (n : ℕ). said s (drop n lines)) (sym (stops-here used so)) (sym (one_line used)));
      }

  -- it goes on: it is one line more with its mended bytes, and nothing is said of it
  module _ (on : goes_on entry.answer ≡ true) where
    abbrev passed : Saying
    passed = record { receiver = entry.receiver; watch = lines_passed before.watch 1 brings; lent = entry.lent; text = before.text }

    silent : (text : List ℕ) → text ++ announced None 0 entry.lent ≡ text
    unfolding announced page_said
    silent text = append-nil text

    first-is : first ≡ passed
    unfolding line_said
    first-is =
        let watched = line_on before.watch entry.receiver.«open» entry.answer on in
        (λ i.
        record {
          receiver = entry.receiver;
          watch = (watched i).watch;
          lent = entry.lent;
          text = before.text ++ announced (watched i).word (watched i).own entry.lent;
        })
        ∙ ap (λ (text : List ℕ). record { receiver = entry.receiver; watch = lines_passed before.watch 1 brings; lent = entry.lent; text = text }) (silent before.text)

    -- to the end
    ends-here : (used : ℕ) (so : Mended) → after_play before used so (ended entry.receiver entry.lent (used + 1) (summed so brings)) ≡ passed
    unfolding after_play ended recording_watched
    ends-here used so =
        ap₂ (λ (n : ℕ) (m : Mended). record { receiver = entry.receiver; watch = lines_passed before.watch n m; lent = entry.lent; text = before.text ++ announced None 0 entry.lent })
        (one_more used) (more-alone so brings)
        ∙ ap (λ (text : List ℕ). record { receiver = entry.receiver; watch = lines_passed before.watch 1 brings; lent = entry.lent; text = text }) (silent before.text)

    goes-ended : (bound used : ℕ) (so : Mended) → length (drop line_length lines) ≡ 0
        → Goes before lines (suc bound) used so (ended entry.receiver entry.lent (used + 1) (summed so brings))
    unfolding ended
    goes-ended bound used so z =
        let same = ap (λ (n : ℕ). drop n lines) (one_line used) in
        record {
          more = omega arith;
          above = at-least-more so brings;
          covers = tt;
          on =
              said-on before lines bound d
              ∙ (ap (λ (s : Saying). lines_said bound s (drop line_length lines)) first-is
              ∙ (said-ends passed (drop line_length lines) bound z
              ∙ (sym (ends-here used so)
              ∙ sym (said_of_none (after_play before used so (ended entry.receiver entry.lent (used + 1) (summed so brings))) _ (ap length same ∙ z)))));
        }

    -- or further
    module _ (used : ℕ) (so : Mended) (p : Playing) where
      behind-it : used + 1 + 1 ≤ p.used → AtLeast p.mended (summed so brings) → Covers (without p.mended (summed so brings)) p.stopped
          → after_play passed (used + 1) (summed so brings) p ≡ after_play before used so p
      unfolding after_play
      behind-it h above covers =
          let count : 1 + (p.used - (used + 1)) ≡ p.used - used = omega arith in
          let watched =
          recording_more before.watch p.receiver.«open» p.stopped (p.used - (used + 1)) brings (without p.mended (summed so brings)) (omega arith) covers
          ∙ ap₂ (λ (n : ℕ) (m : Mended). recording_watched before.watch n m p.receiver.«open» p.stopped) count (without-both so brings p.mended above)
          in
          λ i.
          record {
            receiver = p.receiver;
            watch = (watched i).watch;
            lent = p.lent;
            text = before.text ++ announced (watched i).word (watched i).own p.lent;
          }

      goes_further : (bound : ℕ) → Goes passed (drop line_length lines) bound (used + 1) (summed so brings) p → Goes before lines (suc bound) used so p
      goes_further bound g =
          let further = g.more in
          let count : line_length + (p.used - (used + 1)) * line_length ≡ (p.used - used) * line_length = omega arith in
          record {
            more = omega arith;
            above = at-least-less so brings g.above;
            covers =
                subst (λ (m : Mended). Covers m p.stopped) (without-both so brings p.mended g.above)
                (covers_more brings (without p.mended (summed so brings)) p.stopped g.covers);
            on =
                said-on before lines bound d
                ∙ (ap (λ (s : Saying). lines_said bound s (drop line_length lines)) first-is
                ∙ (g.on
                ∙ ap₂ said (behind-it further g.above g.covers)
                (drop-drop ((p.used - (used + 1)) * line_length) line_length lines ∙ ap (λ (n : ℕ). drop n lines) count)));
          }

by_case : {X : Type 0} (b : Bool) → (b ≡ true → X) → (b ≡ false → X) → X
by_case true f g = f refl
by_case false f g = g refl

goes : (bound : ℕ) (before : Saying) (lines : List ℕ) (used : ℕ) (so : Mended) → length lines ≤ bound → (length lines ≡ 0 → ⊥)
    → Goes before lines bound used so (playing bound before.receiver lines before.lent used so)
goes zero before lines used so h d = absurd (d (omega arith))
goes (suc bound) before lines used so h d =
    let here = entry before lines d in
    let rest = drop line_length lines in
    let more = summed so (brings before lines d) in
    let turned = turn before.receiver lines before.lent used so bound d in
    by_case (goes_on here.answer)
    (λ on.
    subst (Goes before lines (suc bound) used so) (sym (turned true on))
    (⊎_elim
    (λ (z : length rest ≡ 0).
    subst (Goes before lines (suc bound) used so) (sym (turn-ends here.receiver rest here.lent (used + 1) more bound z)) (goes-ended before lines d on bound used so z))
    (λ (e : length rest ≡ 0 → ⊥).
    goes_further before lines d on used so (playing bound here.receiver rest here.lent (used + 1) more) bound
    (goes bound (passed before lines d on) rest (used + 1) more (less lines bound d h) e))
    (empty_or_not (length rest))))
    (λ off. subst (Goes before lines (suc bound) used so) (sym (turned false off)) (goes-stopped before lines d bound used so h))

-- ---- what the loop over the stops needs

module _ (before : Saying) (lines : List ℕ) (d : length lines ≡ 0 → ⊥) where
  abbrev whole : Playing
  whole = played before.receiver lines before.lent

  all-goes : Goes before lines (length lines) 0 none_mended whole
  unfolding played
  all-goes = goes (length lines) before lines 0 none_mended (omega arith) d

  pub some-used : 1 ≤ whole.used
  some-used = let more = all-goes.more in omega arith

  from_start : after_play before 0 none_mended whole ≡ stop_said before lines
  unfolding after_play stop_said
  from_start =
      let watched =
      ap₂ (λ (n : ℕ) (m : Mended). recording_watched before.watch n m whole.receiver.«open» whole.stopped) (sub-zero whole.used) (without_none whole.mended)
      in
      λ i.
      record {
        receiver = whole.receiver;
        watch = (watched i).watch;
        lent = whole.lent;
        text = before.text ++ announced (watched i).word (watched i).own whole.lent;
      }

  as_said : said before lines ≡ lines_said (length lines) before lines
  unfolding said
  as_said = refl

  pub said-stop : said before lines ≡ said (stop_said before lines) (drop (whole.used * line_length) lines)
  said-stop =
      as_said
      ∙ (all-goes.on ∙ ap₂ (λ (s : Saying) (n : ℕ). said s (drop (n * line_length) lines)) from_start (sub-zero whole.used))
