-- The walk: its bound is always enough, so that it is what its own equation says; what it passed over; what it found; and where it goes on.
use mathlib.Core.Path.{◌≡◌, refl, sym, ◌∙◌, ap}
use mathlib.Core.Bool.{Bool, true, false, cond}
use mathlib.Core.List.{List, ◌∷◌}
use Prim.Native.Nat.{ℕ, zero, suc, ◌+◌, ◌<◌, ◌≤◌}
use native.Mathlib.Omega.{arith}
use lib.ListN.{length}
use Rattle.laws.proofs.Inverse.{never}
use Rattle.laws.specs.Paper.{Paper}
use Rattle.field.specs.Field.{after_at, Here, the_end, a_unit, refused, here, Start, start}
use Rattle.field.specs.Search.{good_teletext, Ended, Step, ends, goes_on, step_of, step, Walk, onward, walk, walk_from, ended_paper, searched_from, searched}
use Rattle.field.specs.Private.{answered, go_on, step_told}
use Rattle.field.proofs.Units.{Begins, is_unit}

-- ---- a step that goes on

-- a whole unit that the search does not leave at
pub record GoesOn (field : List ℕ) (place after : ℕ) : Type 0 where
  pub stands : here field place ≡ a_unit
  pub not_good : good_teletext field place ≡ false
  pub after_is : after_at field place ≡ after

not_ended : (t : Bool) (end : Ended) (x after : ℕ) → cond t (ends end) (goes_on x) ≡ goes_on after → (t ≡ false) × (x ≡ after)
not_ended true end x after e = absurd (never (cc))
not_ended false end x after e = (refl, cc)

module _ (field : List ℕ) (place : ℕ) where
  goes_of : (h : Here) (after : ℕ) → here field place ≡ h → step_of field place h ≡ goes_on after → GoesOn field place after
  unfolding step_of
  goes_of the_end after h e = absurd (never (cc))
  goes_of (refused number) after h e = absurd (never (cc))
  goes_of a_unit after h e =
      let both = not_ended (good_teletext field place) _ _ _ e in
      record { stands = h; not_good = both.0; after_is = both.1 }

  pub goes_on_law : (after : ℕ) → step field place ≡ goes_on after → GoesOn field place after
  unfolding step
  goes_on_law after e = goes_of (here field place) after refl e

  -- the place after lies further on, and in the field or at its end
  pub further : (after : ℕ) → step field place ≡ goes_on after → (place + 2 ≤ after) × (after ≤ length field)
  further after e =
      let on = goes_on_law after e in
      let fits = (is_unit field place on.stands).whole in
      let is = on.after_is in
      (omega arith, omega arith)

-- ---- the bound is always enough

same_on : (place : ℕ) (s : Step) (f g : ℕ → Walk) → ((after : ℕ) → s ≡ goes_on after → f after ≡ g after) → onward place s f ≡ onward place s g
unfolding onward
same_on place (ends end) f g same = refl
same_on place (goes_on after) f g same =
    ap (λ (w : Walk). record { passed = place ∷ w.passed; ended = w.ended }) (same after refl)

pub enough : (m n : ℕ) (field : List ℕ) (place : ℕ) → place ≤ length field → length field < place + m → length field < place + n
    → walk m field place ≡ walk n field place
unfolding walk
enough zero n field place inside p q = absurd (omega arith)
enough (suc m) zero field place inside p q = absurd (omega arith)
enough (suc m) (suc n) field place inside p q =
    same_on place (step field place) (walk m field) (walk n field)
    (λ after e.
    let far = further field place after e in
    enough m n field after far.1 (omega arith) (omega arith))

-- so a walk is what its place makes of it, with no bound
own : (bound : ℕ) (field : List ℕ) (place : ℕ) → length field ≡ bound → 0 < place → place ≤ length field
    → walk bound field place ≡ onward place (step field place) (walk bound field)
unfolding walk
own zero field place e behind within = absurd (omega arith)
own (suc bound) field place e behind within =
    same_on place (step field place) (walk bound field) (walk (suc bound) field)
    (λ after s.
    let far = further field place after s in
    enough bound (suc bound) field after far.1 (omega arith) (omega arith))

pub walk_on : (field : List ℕ) (place : ℕ) → 0 < place → place ≤ length field → walk_from field place ≡ onward place (step field place) (walk_from field)
unfolding walk_from
walk_on field place behind within = own (length field) field place refl behind within

-- the answer that the walk from a place comes to
abbrev pub answer_from : List ℕ → ℕ → Paper
answer_from field place = ended_paper field (walk_from field place).ended

-- ---- how a walk ends, step by step

module _ (field : List ℕ) (place : ℕ) (begin : Begins field place) where
  ended-on : (onward place (step field place) (walk_from field)).ended ≡ (walk_from field place).ended
  ended-on = ap (λ (w : Walk). w.ended) (sym (walk_on field place begin.behind begin.within))

  pub ends-here : {end : Ended} → step field place ≡ ends end → end ≡ (walk_from field place).ended
  unfolding onward
  ends-here e = ap (λ (s : Step). (onward place s (walk_from field)).ended) (sym e) ∙ ended-on

  -- searching from the place after a unit that is passed over gives what searching from the unit gives
  pub ends-after : {after : ℕ} → step field place ≡ goes_on after → (walk_from field after).ended ≡ (walk_from field place).ended
  unfolding onward
  ends-after e = ap (λ (s : Step). (onward place s (walk_from field)).ended) (sym e) ∙ ended-on

  pub begins-after : {after : ℕ} → step field place ≡ goes_on after → Begins field after
  begins-after {after} e =
      let far = further field place after e in
      record { identified = begin.identified; behind = omega arith; within = far.1 }

-- what a step that was told shows: where it goes on, or the answer that its walk comes to
told_on : (field : List ℕ) (after : ℕ) (s : Step) → go_on after ≡ step_told field s → s ≡ goes_on after
unfolding step_told
told_on field after (ends end) e = absurd (never (cc))
told_on field after (goes_on place) e = cc

pub told_goes : (field : List ℕ) (place after : ℕ) → go_on after ≡ step_told field (step field place) → step field place ≡ goes_on after
told_goes field place after e = told_on field after (step field place) e

told_as : (field : List ℕ) (place : ℕ) (answer : Paper) (s : Step) → Begins field place → step field place ≡ s → answered answer ≡ step_told field s
    → answer ≡ answer_from field place
unfolding step_told
told_as field place answer (ends end) begin s e = let same : answer ≡ ended_paper field end = cc in same ∙ ap (ended_paper field) (ends-here field place begin s)
told_as field place answer (goes_on after) begin s e = absurd (never (cc))

pub told_ends : (field : List ℕ) (place : ℕ) (answer : Paper) → Begins field place → answered answer ≡ step_told field (step field place)
    → answer ≡ answer_from field place
told_ends field place answer begin e = told_as field place answer (step field place) begin refl e

pub search_from : (field : List ℕ) (place : ℕ) {first : Start} → first ≡ start field place → searched_from field first ≡ searched field place
unfolding searched
search_from field place e = ap (searched_from field) e
