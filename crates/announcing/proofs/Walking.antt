-- The walk over some lines, from stop to stop: what holds before each of them.
use mathlib.Core.Path.{◌≡◌, refl, sym, ◌∙◌, ap, ap₂}
use mathlib.Core.List.{List, [], ◌∷◌, ◌++◌}
use Prim.Native.Nat.{ℕ, zero, suc, ◌+◌, ◌-◌, ◌*◌, ◌/◌, ◌%◌, ◌≤◌, ◌<◌, min}
use native.Mathlib.Omega.{arith}
use lib.ListN.{length, take, drop, length-drop, length-take}
use lib.Seq.{drop-drop}
use Rattle.laws.proofs.Lists.{drop_min, take_min}
use Rattle.packet.specs.Lines.{line_length}
use Rattle.receiver.specs.Recordings.{Playing, PlaysAs, played, played_paper}
use Rattle.receiver.specs.declared.Recorded.{Recorded}
use Rattle.watch.specs.Watched.{recording_watched}
use Rattle.watch.specs.declared.Watch.{Watch}
use Rattle.watch.specs.declared.Watched.{Watched}
use Rattle.texts.specs.Put.{Puts}
use Rattle.watch.proofs.Watching.{page_counted}
use Rattle.announcing.specs.Private.{Stops, standing, stop_said}
use Rattle.announcing.specs.Said.{Saying, SaysAs, fitting, longest, said}
use Rattle.announcing.specs.Told.{announced}
use Rattle.announcing.specs.declared.Announced.{Announced}
use Rattle.announcing.proofs.Lengths.{announced_length}
use Rattle.texts.proofs.Putting.{as_text, put_none, put_then}
use Rattle.announcing.proofs.Saying.{said_of_none, said-stop, some-used}

-- ---- parts of lines

pub drop_take : (u n : ℕ) (xs : List ℕ) → drop u (take n xs) ≡ take (n - u) (drop u xs)
drop_take zero n xs = ap (λ (k : ℕ). take k xs) (let e : n ≡ n - 0 = omega arith in e)
drop_take (suc u) zero xs = ap (λ (k : ℕ). take k (drop (suc u) xs)) (let e : 0 ≡ 0 - suc u = omega arith in e)
drop_take (suc u) (suc n) [] = sym (none (suc n - suc u))
  where
    none : (k : ℕ) → take {A = ℕ} k [] ≡ []
    none zero = refl
    none (suc k) = refl
drop_take (suc u) (suc n) (x ∷ xs) = drop_take u n xs ∙ ap (λ (k : ℕ). take k (drop u xs)) (let e : n - u ≡ suc n - suc u = omega arith in e)

-- the lines that fit, and a part of them
pub fitting_length : (room lines : List ℕ) → length (fitting room lines) ≡ min (length room / longest * line_length) (length lines)
unfolding fitting
fitting_length room lines = length-take (length room / longest * line_length) lines

pub fitting_part : (room lines : List ℕ) (end used : ℕ) → end ≡ min (length room / longest * line_length) (length lines)
    → take (end - used) (drop used lines) ≡ drop used (fitting room lines)
unfolding fitting
fitting_part room lines end used e =
    sym (drop_take used end lines)
    ∙ ap (drop used) (ap (λ (k : ℕ). take k lines) e ∙ take_min (length room / longest * line_length) lines)

-- ---- before each stop

pub record Walks (lines lent₀ room₀ : List ℕ) (start : Saying) (state : Announced) (lent room : List ℕ) : Type 0 where
  pub text : List ℕ
  -- what is still to be said gives what the whole gives
  pub says : said (standing state lent text) (drop state.used lines) ≡ said start lines
  pub put : Puts text room₀ 0 room state.length
  pub within : state.used ≤ length lines
  -- before a line there are whole lines, and no more was said than their room holds
  pub whole : state.used < length lines → (state.used % line_length ≡ 0) × (line_length * state.length ≤ longest * state.used)
  pub same_lent : length lent ≡ length lent₀
  pub same_room : length room ≡ length room₀

module _ {lines lent₀ room₀ : List ℕ} {start : Saying} {state : Announced} {lent room : List ℕ} (w : Walks lines lent₀ room₀ start state lent room) where
  -- at the end of the lines
  pub ended : length lines ≤ state.used → SaysAs start lines state lent room₀ room
  ended h =
      let rest = length-drop state.used lines in
      let all : standing state lent w.text ≡ said start lines = sym (said_of_none (standing state lent w.text) (drop state.used lines) (omega arith)) ∙ w.says in
      let within = w.within in
      let text : w.text ≡ (said start lines).text = ap (λ (s : Saying). s.text) all in
      record {
        kept = ap (λ (s : Saying). s.receiver) all;
        watched = ap (λ (s : Saying). s.watch) all;
        left = ap (λ (s : Saying). s.lent) all;
        used = omega arith;
        counted = w.put.ends ∙ (let e : 0 + length w.text ≡ length w.text = omega arith in e ∙ ap length text);
        written =
            w.put.laid
            ∙ (ap (λ (n : ℕ). w.text ++ drop n room₀) (let e : 0 + length w.text ≡ length w.text = omega arith in e)
            ∙ ap (λ (t : List ℕ). t ++ drop (length t) room₀) text);
      }

  -- there is room for what is said of the next line
  module _ (more : state.used < length lines) (few : length lines ≤ length room₀ / longest * line_length) where
    pub has_room : state.length + longest ≤ length room
    has_room =
        let whole = (w.whole more).0 in
        let said-so-far = (w.whole more).1 in
        let same = w.same_room in
        omega arith

    abbrev rest : List ℕ
    rest = drop state.used lines

    not_empty : length rest ≡ 0 → ⊥
    not_empty e = let l = length-drop state.used lines in omega (arith, e)

    module _ {next : Announced} {lent' room' : List ℕ} (s : Stops state rest lent room next lent' room') (kept-lent : length lent' ≡ length lent) (kept-room : length room' ≡ length room) where
      abbrev here : Saying
      here = stop_said (standing state lent []) rest

      abbrev far : ℕ
      far = (played state.receiver rest lent).used * line_length

      -- what the stop leaves is the next state
      next_is : stop_said (standing state lent w.text) rest ≡ standing next lent' (w.text ++ here.text)
      unfolding stop_said
      next_is =
          sym λ i. record { receiver = s.kept i; watch = s.watched i; lent = s.left i; text = w.text ++ here.text }

      behind : drop far rest ≡ drop next.used lines
      behind =
          sym (drop_min far rest)
          ∙ (drop-drop (min far (length rest)) state.used lines ∙ ap (λ (k : ℕ). drop k lines) (sym s.used))

      text-short : length here.text ≤ longest
      unfolding stop_said
      text-short =
          let p = played state.receiver rest lent in
          let watched = recording_watched state.watch p.used p.mended p.receiver.«open» p.stopped in
          let counted = page_counted state.watch p.used p.mended p.receiver.«open» p.stopped in
          announced_length watched.word watched.own (omega arith) p.lent

      -- it is some way further
      pub further : state.used < next.used
      further =
          let used = s.used in
          let one = some-used (standing state lent []) rest not_empty in
          let size = length-drop state.used lines in
          omega arith

      pub walks-on : Walks lines lent₀ room₀ start next lent' room'
      walks-on =
          let used = s.used in
          let ends = s.put.ends in
          let size = length-drop state.used lines in
          let one = some-used (standing state lent []) rest not_empty in
          let before = w.whole more in
          let before-whole = before.0 in
          let before-short = before.1 in
          let short = text-short in
          let inside = w.within in
          let same = w.same_room in
          let fits = has_room in
          let put = w.put in
          let length-is = put.ends in
          record {
            text = w.text ++ here.text;
            says =
                ap₂ said (sym next_is) (sym behind)
                ∙ (sym (said-stop (standing state lent w.text) rest not_empty) ∙ w.says);
            put = put_then put (omega arith) s.put;
            within = omega arith;
            whole = λ h. (omega arith, omega arith);
            same_lent = kept-lent ∙ w.same_lent;
            same_room = kept-room ∙ w.same_room;
          }

pub walks_start : (lines lent room : List ℕ) (start : Announced) → start.used ≡ 0 → start.length ≡ 0
    → Walks lines lent room (standing start lent []) start lent room
walks_start lines lent room start u l =
    record {
      text = [];
      says = ap (λ (k : ℕ). said (standing start lent []) (drop k lines)) u;
      put = rw l (put_none room 0);
      within = omega arith;
      whole = λ h. (rw u, omega arith);
      same_lent = refl;
      same_room = refl;
    }

-- ---- one stop

-- the watch of what was recorded is that of what was promised
watched_as : (watch : Watch) (recorded : Recorded) {promised : Playing} {lent : List ℕ} → PlaysAs promised recorded lent
    → recording_watched watch recorded.used recorded.mended recorded.receiver.«open» (played_paper recorded.answer)
    ≡ recording_watched watch promised.used promised.mended promised.receiver.«open» promised.stopped
watched_as watch recorded plays i = recording_watched watch (plays.counted i) (plays.mended i) (plays.kept i).«open» (plays.answered i)

-- the recording played, the watch, and the text put behind what is there
pub stops : (before : Announced) (lines lent room : List ℕ) (recorded : Recorded) (watched : Watched) {lent' room' : List ℕ} {bytes size : ℕ}
    → PlaysAs (played before.receiver lines lent) recorded lent'
    → watched ≡ recording_watched before.watch recorded.used recorded.mended recorded.receiver.«open» (played_paper recorded.answer)
    → Puts (announced watched.word watched.own lent') room before.length room' size
    → bytes ≡ min (recorded.used * line_length) (length lines)
    → Stops before lines lent room (record { receiver = recorded.receiver; watch = watched.watch; used = before.used + bytes; length = size }) lent' room'
unfolding stop_said
stops before lines lent room recorded watched plays watches put far =
    let is = watches ∙ watched_as before.watch recorded plays in
    record {
      kept = plays.kept;
      watched = ap (λ (w : Watched). w.watch) is;
      left = plays.left;
      used = ap (λ (n : ℕ). before.used + n) (far ∙ ap (λ (n : ℕ). min (n * line_length) (length lines)) plays.counted);
      put = as_text put (ap₂ (λ (w : Watched) (l : List ℕ). announced w.word w.own l) is plays.left);
    }
