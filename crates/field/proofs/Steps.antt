-- One step of a walk, by what stands at its place.
use mathlib.Core.Path.{◌≡◌, refl, sym, ap}
use mathlib.Core.Bool.{true, false}
use mathlib.Core.List.{List, [], ◌∷◌}
use Prim.Native.Nat.{ℕ, ◌+◌, ◌<◌, ◌≤◌}
use native.Mathlib.Omega.{arith}
use lib.ListN.{length, get_or}
use Rattle.laws.proofs.Inverse.{never}
use Rattle.laws.specs.Paper.{Paper, accepted, refused_by}
use Rattle.field.specs.Field.{id_at, after_at, head_length, teletext_id, Here, the_end, a_unit, refused, here}
use Rattle.field.specs.Field.{Start, start_at, nowhere, asked, start, unit_answer, unit_from, unit_at}
use Rattle.field.specs.Search.{goes_on, step_of, step, ended_paper}
use Rattle.field.specs.Private.{answered, go_on, start_told, step_told, line_step}
use Rattle.field.proofs.Units.{counts, is_unit, begins_at}

module _ (field : List ℕ) (place : ℕ) where
  leaves_of : (h : Here) (paper : Paper) → paper ≡ unit_answer field place h → length paper.values < 3 → answered paper ≡ step_told field (step_of field place h)
  unfolding step_of unit_answer step_told ended_paper
  leaves_of the_end paper e few = ap answered e
  leaves_of (refused number) paper e few = ap answered e
  leaves_of a_unit paper e few = absurd (let n = counts e in omega arith)

  -- where no unit stands, the answer is the walk's
  pub leaves : (paper : Paper) → paper ≡ unit_answer field place (here field place) → length paper.values < 3 → answered paper ≡ step_told field (step field place)
  unfolding step
  leaves paper e few = leaves_of (here field place) paper e few

  -- an answer of three values tells of a unit
  pub record Tells (h : Here) (id size after : ℕ) : Type 0 where
    pub stands : h ≡ a_unit
    pub id-is : id ≡ id_at field place
    pub after_is : after ≡ after_at field place

  pub tells : (h : Here) (id size after : ℕ) → accepted (id ∷ size ∷ after ∷ []) ≡ unit_answer field place h → Tells h id size after
  unfolding unit_answer accepted
  tells the_end id size after e = absurd (let n = counts e in omega arith)
  tells (refused number) id size after e = absurd (let n = counts e in omega arith)
  tells a_unit id size after e =
      record {
        stands = refl;
        id-is = ap (λ (p : Paper). get_or p.values 0 0) e;
        after_is = ap (λ (p : Paper). get_or p.values 2 0) e;
      }

  at_unit : here field place ≡ a_unit → step_of field place a_unit ≡ step field place
  unfolding step
  at_unit h = ap (step_of field place) (sym h)

  -- at a unit of another id the walk goes on
  pub other-id : here field place ≡ a_unit → teletext_id (id_at field place) ≡ false → goes_on (after_at field place) ≡ step field place
  unfolding step_of
  other-id h t = rw (← at_unit h) (simp t)

  -- at a unit of a teletext id the line decides
  pub line-decides : here field place ≡ a_unit → teletext_id (id_at field place) ≡ true → line_step field place ≡ step field place
  unfolding step_of line_step
  line-decides h t = rw (← at_unit h) (simp t)

-- ---- from a place asked

-- what a start that was told shows: where it is, or the answer that it comes to
pub told_place : (s : Start) {place : ℕ} → go_on place ≡ start_told s → s ≡ start_at place
unfolding start_told
told_place (start_at first) e = cc
told_place (nowhere number) e = absurd (never (cc))

pub told_refusal : (answer : Start → Paper) → ((number : ℕ) → refused_by number [] ≡ answer (nowhere number)) → (s : Start) {paper : Paper}
    → answered paper ≡ start_told s → paper ≡ answer s
unfolding start_told
told_refusal answer refuses (start_at first) e = absurd (never (cc))
told_refusal answer refuses (nowhere number) e = let same = refuses number in cc

module _ (field : List ℕ) (place id size after : ℕ) where
  unit-on : (first : Start) → start field place ≡ first → unit_from field first ≡ accepted (id ∷ size ∷ after ∷ [])
      → (asked place + head_length ≤ after) × (after ≤ length field)
  unfolding unit_from accepted refused_by
  unit-on (nowhere number) s e = absurd (let n = counts e in omega arith)
  unit-on (start_at first) s e =
      let told = tells field first (here field first) id size after (sym e) in
      let fits = (is_unit field first told.stands).whole in
      let is = told.after_is in
      let from = begins_at field place first s in
      (omega arith, omega arith)

  -- the place after a unit lies two bytes or more further on, and in the field or at its end: who goes from unit to unit comes to the end
  pub unit-further : unit_at field place ≡ accepted (id ∷ size ∷ after ∷ []) → (asked place + head_length ≤ after) × (after ≤ length field)
  unfolding unit_at
  unit-further e = unit-on (start field place) refl e
