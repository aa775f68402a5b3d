-- Calls, one for each line, give what the run gives; and the lent record's content is free.
use mathlib.Core.Path.{◌≡◌, refl, sym, subst, ◌∙◌}
use mathlib.Core.List.{List}
use Prim.Native.Nat.{ℕ, zero, suc, ◌≤◌, ◌<◌}
use native.Mathlib.Omega.{arith}
use lib.ListN.{length}
use Rattle.receiver.specs.Entries.{Entered, Meets, line_entered}
use Rattle.receiver.specs.declared.Receiver.{Receiver}
use Rattle.receiver.specs.declared.Stepped.{Stepped}
use Rattle.receiver.proofs.Entering.{packet_of_line}
use Rattle.receiver.proofs.Lent.{SameButLent, entered_free, short_stays}
use Rattle.demands.specs.Chains.{Called, Chain, ChainsAreRuns, LentIsFree, by_line, by_packet, handed, is_short, lending}
use Rattle.demands.specs.Runs.{Between, Run, before_line, entering, entry_at, received_at}

-- ---- calls

called_meets : (between : Between) (line : List ℕ) (gave : Stepped) (left : List ℕ) → Called between line gave left → Meets (entering between line) gave left
unfolding entering
called_meets between line gave left (by_line m) = m
called_meets between line gave left (by_packet passes m) =
    subst (λ (e : Entered). Meets e gave left) (packet_of_line between.receiver line between.lent passes) m

module _ (run : Run) (gave : ℕ → Stepped) (left : ℕ → List ℕ) (chain : Chain run gave left) where
  given : (k : ℕ) → handed run gave left k ≡ before_line run k → k < length run.lines → Meets (entry_at run k) (gave k) (left k)
  unfolding entry_at
  given k same h =
      subst (λ (b : Between). Meets (entering b (received_at run.lines k)) (gave k) (left k)) same
      (called_meets (handed run gave left k) (received_at run.lines k) (gave k) (left k) (chain k h))

  -- each call is handed what stands in the run
  handed-is : (k : ℕ) → k ≤ length run.lines → handed run gave left k ≡ before_line run k
  unfolding handed before_line entry_at
  handed-is zero h = refl
  handed-is (suc k) h =
      let meets : Meets (entry_at run k) (gave k) (left k) = given k (handed-is k (omega (arith, h))) h in
      λ i. record { receiver = meets.kept i; lent = meets.left i }

pub chains_are_runs : ChainsAreRuns
chains_are_runs run gave left chain k h = given run gave left chain k (handed-is run gave left chain k (omega (arith, h))) h

-- ---- what the lent record holds

module _ (run : Run) (other : List ℕ) (same : is_short run.lent ≡ is_short other) where
  abbrev Alike : Between → Between → Type 0
  Alike a b = (a.receiver ≡ b.receiver) × (is_short a.lent ≡ is_short b.lent)

  entries-alike : (a b : Between) → Alike a b → (line : List ℕ) → SameButLent (entering a line) (entering b line)
  unfolding entering
  entries-alike a b alike line =
      subst (λ (r : Receiver). SameButLent (line_entered a.receiver line a.lent) (line_entered r line b.lent)) alike.0
      (entered_free a.receiver line a.lent b.lent alike.1)

  alike_at : (k : ℕ) → Alike (before_line run k) (before_line (lending run other) k)
  unfolding before_line entering
  alike_at zero = (refl, same)
  alike_at (suc k) =
      let alike = alike_at k in
      let line = received_at run.lines k in
      let a = before_line run k in
      let b = before_line (lending run other) k in
      ((entries-alike a b alike line).1, short_stays a.receiver line a.lent ∙ (alike.1 ∙ sym (short_stays b.receiver line b.lent)))

pub lent_is_free : LentIsFree
unfolding entry_at
lent_is_free run other same k =
    entries-alike run other same (before_line run k) (before_line (lending run other) k) (alike_at run other same k) (received_at run.lines k)
