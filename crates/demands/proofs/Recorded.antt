-- A run as a recording: turn by turn, playing stands where the run stands.
use mathlib.Core.Bool.{Bool, true, false, cond}
use mathlib.Core.List.{List}
use mathlib.Core.Path.{◌≡◌, refl, sym, ap, ap₂, ◌∙◌}
use Prim.Native.Nat.{ℕ, zero, suc, ◌+◌, ◌-◌, ◌*◌, ◌<◌, ◌≤◌}
use native.Mathlib.Nat.{sub-zero}
use native.Mathlib.Omega.{arith}
use lib.ListN.{length, drop, length-drop}
use lib.Seq.{drop-drop}
use Rattle.packet.specs.Lines.{line_length}
use Rattle.receiver.specs.Entries.{Entered, line_entered}
use Rattle.receiver.specs.Mended.{none_mended}
use Rattle.receiver.specs.Recordings.{Playing, goes_on, played, playing, stopped_at}
use Rattle.receiver.specs.declared.Mended.{Mended}
use Rattle.receiver.proofs.Playing.{entry, turn, turn-ends, with_answer}
use Rattle.demands.specs.Recorded.{GoesOn, PlaysTheRun, PlaysToTheEnd, Records, mended_over, played_from}
use Rattle.demands.specs.Runs.{Run, before_line, entering, entry_at}

module _ (run : Run) (recording : List ℕ) (of : Records run recording) where
  -- what is left before line k
  abbrev rest_at : ℕ → List ℕ
  rest_at k = drop (k * line_length) recording

  rest-length : (k : ℕ) → length (rest_at k) ≡ length run.lines * line_length - k * line_length
  rest-length k = length-drop (k * line_length) recording ∙ ap (λ (n : ℕ). n - k * line_length) of.size

  module _ (i : ℕ) where
    -- what is still to be played before line k, of which the lines from line i on are used
    abbrev still : ℕ → ℕ → Playing
    still k used = playing (length (rest_at i) - used) (before_line run k).receiver (rest_at k) (before_line run k).lent used (mended_over run i used)

    module _ (k used : ℕ) (at : k ≡ i + used) (h : k < length run.lines) where
      the-entry : entry (before_line run k).receiver (rest_at k) (before_line run k).lent ≡ entry_at run k
      unfolding entry_at entering
      the-entry = ap (λ (l : List ℕ). line_entered (before_line run k).receiver l (before_line run k).lent) (of.holds k h)

      not_empty : length (rest_at k) ≡ 0 → ⊥
      not_empty e = omega (arith, e, rest-length k, h)

      one_more : length (rest_at i) - used ≡ suc (length (rest_at i) - suc used)
      one_more = omega (arith, rest-length i, at, h)

      the_rest : drop line_length (rest_at k) ≡ rest_at (suc k)
      the_rest =
          let next : k * line_length + line_length ≡ suc k * line_length = omega arith in
          drop-drop line_length (k * line_length) recording ∙ ap (λ (n : ℕ). drop n recording) next

      -- what a turn leads to, by what its line gave
      abbrev turned : List ℕ → ℕ → Bool → Entered → Mended → Playing
      turned rest count on e mended = cond on (playing (length (rest_at i) - suc used) e.receiver rest e.lent count mended) (stopped_at e count mended)

      -- the sums with this line's
      sums : with_answer (mended_over run i used) (entry_at run k).answer ≡ mended_over run i (suc used)
      unfolding mended_over
      sums = ap (λ (n : ℕ). with_answer (mended_over run i used) (entry_at run n).answer) at

      one-turn : (on : Bool) → goes_on (entry_at run k).answer ≡ on
          → still k used ≡ cond on (still (suc k) (suc used)) (stopped_at (entry_at run k) (suc used) (mended_over run i (suc used)))
      unfolding before_line entry_at
      one-turn on g =
          let so = mended_over run i used in
          let next : used + 1 ≡ suc used = omega arith in
          ap (λ (n : ℕ). playing n (before_line run k).receiver (rest_at k) (before_line run k).lent used so) one_more
          ∙ (turn (before_line run k).receiver (rest_at k) (before_line run k).lent used so (length (rest_at i) - suc used) not_empty on
          (ap (λ (e : Entered). goes_on e.answer) the-entry ∙ g)
          ∙ (ap (λ (e : Entered). turned (drop line_length (rest_at k)) (used + 1) on e (with_answer so e.answer)) the-entry
          ∙ (ap (λ (rest : List ℕ). turned rest (used + 1) on (entry_at run k) (with_answer so (entry_at run k).answer)) the_rest
          ∙ ap₂ (λ (count : ℕ) (mended : Mended). turned (rest_at (suc k)) count on (entry_at run k) mended) next sums)))

    -- lines that go on lead from line i to the line after them
    stands : (n : ℕ) → i + n ≤ length run.lines → GoesOn run i n → played_from run recording i ≡ still (i + n) n
    unfolding played mended_over
    stands zero h on =
        let first : i ≡ i + 0 = omega arith in
        ap (λ (n : ℕ). playing n (before_line run i).receiver (rest_at i) (before_line run i).lent 0 none_mended) (sym (sub-zero (length (rest_at i))))
        ∙ ap (λ (k : ℕ). still k 0) first
    stands (suc n) h on =
        let next : suc (i + n) ≡ i + suc n = omega arith in
        stands n (omega (arith, h)) (λ k below. on k (omega (arith, below)))
        ∙ (one-turn (i + n) n refl (omega (arith, h)) true (on n (omega arith)) ∙ ap (λ (k : ℕ). still k (suc n)) next)

pub plays_the_run : PlaysTheRun
plays_the_run run recording of i n h on stop =
    stands run recording of i n (omega (arith, h)) on ∙ one-turn run recording of i (i + n) n refl h false stop

pub plays_to_the_end : PlaysToTheEnd
plays_to_the_end run recording of i n h on =
    stands run recording of i n (omega (arith, h)) on
    ∙ turn-ends (before_line run (i + n)).receiver (rest_at run recording of (i + n)) (before_line run (i + n)).lent n (mended_over run i n)
    (length (rest_at run recording of i) - n)
    (rest-length run recording of (i + n) ∙ omega (arith, h))
