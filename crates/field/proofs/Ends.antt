-- What a search passed over, and what it found.
use mathlib.Core.Path.{◌≡◌, refl, sym, ◌∙◌, ap, subst}
use mathlib.Core.Logic.{◌⊎◌, inl, inr, ⊎_elim}
use mathlib.Core.Bool.{Bool, true, false, cond, ◌&&◌}
use mathlib.Core.List.{List, [], ◌∷◌, ◌++◌}
use mathlib.Core.Option.{some}
use Prim.Native.Nat.{ℕ, zero, suc, ◌+◌, ◌<◌, ◌≤◌}
use native.Mathlib.Omega.{arith}
use lib.ListN.{length, get_or}
use Rattle.laws.proofs.Bools.{both_true}
use Rattle.laws.proofs.Inverse.{never}
use Rattle.laws.specs.Paper.{Paper, accepted, refused_by}
use Rattle.coding.specs.Bits.{framing_passes}
use Rattle.field.specs.Field.{id_at, after_at, teletext_id, no_field, Here, the_end, a_unit, refused, here}
use Rattle.field.specs.Field.{Start, start_at, nowhere, asked, start}
use Rattle.field.specs.Search.{parity_at, offset_at, offset_passes, framing_at, packet_place, good_teletext}
use Rattle.field.specs.Search.{Ended, found, no_more, refused_at, Step, ends, goes_on, step_of, step, Walk, onward, walk, walk_from, ended_paper, searched_from, searched}
use Rattle.field.specs.Private.{after_teletext}
use Rattle.field.proofs.Units.{counts, Begins, begins, begins_at, starts, start_refused, is_end, is_unit, teletext_length_law}
use Rattle.field.proofs.Walk.{goes_on_law, further, search_from, answer_from}

-- ---- what was passed over

-- why a unit is passed over: another id, or the offset, or the framing code
abbrev pub Reason : List ℕ → ℕ → Type 0
Reason field place =
    (teletext_id (id_at field place) ≡ false)
    ⊎ ((offset_passes (offset_at field place) ≡ false) ⊎ (framing_passes (framing_at field place) ≡ false))

-- a whole unit, with its reason
pub record PassedOver (field : List ℕ) (place : ℕ) : Type 0 where
  pub stands : here field place ≡ a_unit
  pub whole : after_at field place ≤ length field
  pub reason : Reason field place

-- each of some places
abbrev pub Each : (ℕ → Type 0) → List ℕ → Type 0
Each P [] = Unit {0}
Each P (place ∷ places) = P place × Each P places

one_fails : (a b c : Bool) → (a && (b && c)) ≡ false → (a ≡ false) ⊎ ((b ≡ false) ⊎ (c ≡ false))
one_fails false b c e = inl refl
one_fails true false c e = inr (inl refl)
one_fails true true c e = inr (inr e)

reason_of : (field : List ℕ) (place : ℕ) → good_teletext field place ≡ false → Reason field place
unfolding good_teletext
reason_of field place e = one_fails _ _ _ e

passed_of : (field : List ℕ) (place : ℕ) (s : Step) (rest : ℕ → Walk) → step field place ≡ s
    → ((after : ℕ) → Each (PassedOver field) (rest after).passed) → Each (PassedOver field) (onward place s rest).passed
unfolding onward
passed_of field place (ends end) rest s each = tt
passed_of field place (goes_on after) rest s each =
    let on = goes_on_law field place after s in (
      record {
        stands = on.stands;
        whole = (is_unit field place on.stands).whole;
        reason = reason_of field place on.not_good;
      },
      each after,
    )

passed_in : (bound : ℕ) (field : List ℕ) (place : ℕ) → Each (PassedOver field) (walk bound field place).passed
unfolding walk
passed_in zero field place = tt
passed_in (suc bound) field place = passed_of field place (step field place) (walk bound field) refl (passed_in bound field)

-- every place that a walk passed over held a whole unit, with its reason
pub passed_over : (field : List ℕ) (place : ℕ) → Each (PassedOver field) (walk_from field place).passed
unfolding walk_from
passed_over field place = passed_in (length field) field place

-- ---- where a walk ends

-- from a place, unit by unit over some places, to the last: each place is the one after the unit before it
abbrev pub Chain : List ℕ → ℕ → List ℕ → ℕ → Type 0
Chain field from [] last = from ≡ last
Chain field from (place ∷ places) last = (from ≡ place) × Chain field (after_at field place) places last

-- the walk ends at a place that it came to unit by unit, as that place has it
pub record EndsAt (field : List ℕ) (from : ℕ) (walk_is : Walk) : Type 0 where
  pub last : ℕ
  -- no unit between was left out, and none before `from` was looked at
  pub reached : Chain field from walk_is.passed last
  pub not_before : from ≤ last
  pub within : last ≤ length field
  pub ends_as : step field last ≡ ends walk_is.ended

ends_of : (field : List ℕ) (place : ℕ) (s : Step) (rest : ℕ → Walk) → place ≤ length field → step field place ≡ s
    → ((next : ℕ) → step field place ≡ goes_on next → EndsAt field next (rest next)) → EndsAt field place (onward place s rest)
unfolding onward
ends_of field place (ends end) rest inside s each =
    record { last = place; reached = refl; not_before = omega arith; within = inside; ends_as = s }
ends_of field place (goes_on next) rest inside s each =
    let end = each next s in
    let far = (further field place next s).0 in
    let later = end.not_before in
    record {
      last = end.last;
      reached = (refl, subst (λ (at : ℕ). Chain field at (rest next).passed end.last) (sym (goes_on_law field place next s).after_is) end.reached);
      not_before = omega arith;
      within = end.within;
      ends_as = end.ends_as;
    }

ends_in : (bound : ℕ) (field : List ℕ) (place : ℕ) → place ≤ length field → length field < place + bound → EndsAt field place (walk bound field place)
unfolding walk
ends_in zero field place inside room = absurd (omega arith)
ends_in (suc bound) field place inside room =
    ends_of field place (step field place) (walk bound field) inside refl
    (λ next s.
    let far = further field place next s in
    ends_in bound field next far.1 (omega arith))

pub walk_ends : (field : List ℕ) (place : ℕ) → Begins field place → EndsAt field place (walk_from field place)
unfolding walk_from
walk_ends field place begin =
    let behind = begin.behind in
    ends_in (length field) field place begin.within (omega arith)

-- a search that 14 and 17 do not refuse: where its walk ends, with the answer
pub record SearchEnds (field : List ℕ) (place : ℕ) (answer : Paper) : Type 0 where
  pub identified : no_field field ≡ false
  pub end : EndsAt field (asked place) (walk_from field (asked place))
  pub answer_is : answer_from field (asked place) ≡ answer

module _ (field : List ℕ) (place : ℕ) (answer : Paper) (entered : (number : ℕ) → start field place ≡ nowhere number → refused_by number [] ≡ answer → ⊥) where
  search-on : (first : Start) → start field place ≡ first → searched_from field first ≡ answer → SearchEnds field place answer
  unfolding searched_from
  search-on (nowhere number) s e = absurd (entered number s e)
  search-on (start_at first) s e =
      let is = begins_at field place first s in
      let begin = subst (Begins field) (sym is) (begins field place first s) in
      record { identified = begin.identified; end = walk_ends field (asked place) begin; answer_is = ap (answer_from field) is ∙ e }

  search-ends : searched field place ≡ answer → SearchEnds field place answer
  unfolding searched
  search-ends e = search-on (start field place) refl e

-- ---- by how a walk ended, what stands at the place that it came to

ended_is : {a b : Ended} → ends a ≡ ends b → a ≡ b
ended_is e = cc

module _ (field : List ℕ) (place : ℕ) where
  -- a unit at which the search leaves
  pub record Good (at : ℕ) : Type 0 where
    pub stands : here field place ≡ a_unit
    pub is_good : good_teletext field place ≡ true
    pub at_is : place ≡ at

  good_of : (t : Bool) (x at : ℕ) → cond t (ends (found place)) (goes_on x) ≡ ends (found at) → (t ≡ true) × (place ≡ at)
  good_of true x at e = let same = ended_is e in (refl, cc)
  good_of false x at e = absurd (never (cc))

  never-good : (t : Bool) (x : ℕ) (end : Ended) → cond t (ends (found place)) (goes_on x) ≡ ends end → ((at : ℕ) → found at ≡ end → ⊥) → ⊥
  never-good true x end e other = other place (ended_is e)
  never-good false x end e other = never (cc)

  found_of : (h : Here) (at : ℕ) → here field place ≡ h → step_of field place h ≡ ends (found at) → Good at
  unfolding step_of
  found_of the_end at h e = absurd (let same = ended_is e in never (cc))
  found_of (refused number) at h e = absurd (let same = ended_is e in never (cc))
  found_of a_unit at h e =
      let good = good_of (good_teletext field place) _ at e in
      record { stands = h; is_good = good.0; at_is = good.1 }

  found_here : (at : ℕ) → step field place ≡ ends (found at) → Good at
  unfolding step
  found_here at e = found_of (here field place) at refl e

  refused-of : (h : Here) (number at : ℕ) → step_of field place h ≡ ends (refused_at number at) → (h ≡ refused number) × (place ≡ at)
  unfolding step_of
  refused-of the_end number at e = absurd (let same = ended_is e in never (cc))
  refused-of (refused n) number at e = let same = ended_is e in (cc, cc)
  refused-of a_unit number at e = absurd (never-good (good_teletext field place) _ _ e (λ at e. never (cc)))

  refused-here : (number at : ℕ) → step field place ≡ ends (refused_at number at) → (here field place ≡ refused number) × (place ≡ at)
  unfolding step
  refused-here number at e = refused-of (here field place) number at e

  no_more_of : (h : Here) → step_of field place h ≡ ends no_more → h ≡ the_end
  unfolding step_of
  no_more_of the_end e = refl
  no_more_of (refused number) e = absurd (let same = ended_is e in never (cc))
  no_more_of a_unit e = absurd (never-good (good_teletext field place) _ _ e (λ at e. never (cc)))

  no-more-here : step field place ≡ ends no_more → here field place ≡ the_end
  unfolding step
  no-more-here e = no_more_of (here field place) e

-- ---- what was found

-- a whole teletext unit whose offset and framing code pass, and the answer that it gives
pub record IsFound (field : List ℕ) (place packet parity offset after : ℕ) : Type 0 where
  pub stands : here field place ≡ a_unit
  pub is_good : good_teletext field place ≡ true
  pub packet_is : packet ≡ packet_place place
  pub parity_is : parity ≡ parity_at field place
  pub offset_is : offset ≡ offset_at field place
  pub after_is : after ≡ after_at field place
  -- the unit has 44 bytes, of which the packet is the last, and lies in the field
  pub after_teletext_law : after ≡ after_teletext place
  pub inside : after ≤ length field

pub record FoundFrom (field : List ℕ) (asked-for packet parity offset after : ℕ) : Type 0 where
  pub identified : no_field field ≡ false
  pub end : EndsAt field (asked asked-for) (walk_from field (asked asked-for))
  pub is : IsFound field end.last packet parity offset after

abbrev pub four : ℕ → ℕ → ℕ → ℕ → Paper
four packet parity offset after = accepted (packet ∷ parity ∷ offset ∷ after ∷ [])

teletext_of : (field : List ℕ) (place : ℕ) → good_teletext field place ≡ true → teletext_id (id_at field place) ≡ true
unfolding good_teletext
teletext_of field place e = (both_true _ _ e).0

module _ (field : List ℕ) (packet parity offset after : ℕ) (Known-is : no_field field ≡ false) where
  is_found : (last at : ℕ) → Good field last at → ended_paper field (found at) ≡ four packet parity offset after → IsFound field last packet parity offset after
  unfolding ended_paper accepted
  is_found last at good e =
      let is = is_unit field last good.stands in
      let long = teletext_length_law field last Known-is is (teletext_of field last good.is_good) in
      let there = good.at_is in
      let value : ℕ → Paper → ℕ = λ n paper. get_or paper.values n 0 in
      let q : after ≡ after_at field last = sym (ap (value 3) e) ∙ ap (after_at field) (sym there) in
      let fits = is.whole in
      record {
        stands = good.stands;
        is_good = good.is_good;
        packet_is = sym (ap (value 0) e) ∙ ap packet_place (sym there);
        parity_is = sym (ap (value 1) e) ∙ ap (parity_at field) (sym there);
        offset_is = sym (ap (value 2) e) ∙ ap (offset_at field) (sym there);
        after_is = q;
        after_teletext_law = omega arith;
        inside = omega arith;
      }

  found_as : (last : ℕ) (end : Ended) → step field last ≡ ends end → ended_paper field end ≡ four packet parity offset after
      → IsFound field last packet parity offset after
  unfolding ended_paper accepted refused_by
  found_as last (found at) s e = is_found last at (found_here field last at s) e
  found_as last no_more s e = absurd (let n = counts e in omega arith)
  found_as last (refused_at number at) s e = absurd (let n = counts e in omega arith)

-- what a search found lies in the field, and is the first that it could find
pub found_from : (field : List ℕ) (place packet parity offset after : ℕ) → searched field place ≡ four packet parity offset after
    → FoundFrom field place packet parity offset after
unfolding accepted refused_by
found_from field place packet parity offset after e =
    let at = search-ends field place (four packet parity offset after) (λ number s r. let n = counts r in omega arith) e in
    record {
      identified = at.identified;
      end = at.end;
      is = found_as field packet parity offset after at.identified at.end.last (walk_from field (asked place)).ended at.end.ends_as at.answer_is;
    }

-- ---- what was refused at a unit

pub record RefusedFrom (field : List ℕ) (asked-for number at : ℕ) : Type 0 where
  pub end : EndsAt field (asked asked-for) (walk_from field (asked asked-for))
  pub at_is : end.last ≡ at
  pub refused_is : here field end.last ≡ refused number

refused_as : (field : List ℕ) (last number at : ℕ) (end : Ended) → step field last ≡ ends end → ended_paper field end ≡ refused_by number (at ∷ [])
    → (here field last ≡ refused number) × (last ≡ at)
unfolding ended_paper accepted refused_by
refused_as field last number at (found p) s e = absurd (let n = counts e in omega arith)
refused_as field last number at no_more s e = absurd (let n = counts e in omega arith)
refused_as field last number at (refused_at n p) s e =
    let numbers : some n ≡ some number = ap (λ (paper : Paper). paper.number) e in
    let places : p ≡ at = ap (λ (paper : Paper). get_or paper.values 0 0) e in
    let there = refused-here field last n p s in
    let stands = there.0 in
    let comes = there.1 in
    (cc, cc)

-- a refusal with a place is that of the unit to which the walk came, and its place is counted from the field's start
pub refused_at_law : (field : List ℕ) (place number at : ℕ) → searched field place ≡ refused_by number (at ∷ []) → RefusedFrom field place number at
unfolding refused_by
refused_at_law field place number at e =
    let there = search-ends field place (refused_by number (at ∷ [])) (λ n s r. let m = counts r in omega arith) e in
    let both = refused_as field there.end.last number at (walk_from field (asked place)).ended there.end.ends_as there.answer_is in
    record { end = there.end; at_is = both.1; refused_is = both.0 }

-- ---- no more

pub record NoMoreFrom (field : List ℕ) (asked-for : ℕ) : Type 0 where
  pub end : EndsAt field (asked asked-for) (walk_from field (asked asked-for))
  pub whole_field : end.last ≡ length field

no_more_as : (field : List ℕ) (last : ℕ) (end : Ended) → step field last ≡ ends end → ended_paper field end ≡ accepted [] → last ≡ length field
unfolding ended_paper accepted refused_by
no_more_as field last (found p) s e = absurd (let n = counts e in omega arith)
no_more_as field last no_more s e = is_end field last (no-more-here field last s)
no_more_as field last (refused_at n p) s e = absurd (let m = counts e in omega arith)

-- 14 and 17 are no accepted answers
numbered : (number : ℕ) → refused_by number [] ≡ accepted [] → (14 ≡ number) ⊎ (17 ≡ number) → ⊥
unfolding refused_by accepted
numbered number e refusal =
    let same : some number ≡ some 0 = ap (λ (paper : Paper). paper.number) e in
    let zero_is : number ≡ 0 = cc in
    ⊎_elim (λ is. omega arith) (λ is. omega arith) refusal

-- "no more" is said only where the walk came to the field's end
pub no_more_law : (field : List ℕ) (place : ℕ) → searched field place ≡ accepted [] → NoMoreFrom field place
no_more_law field place e =
    let at = search-ends field place (accepted []) (λ number s r. numbered number r (start_refused field place number s)) e in
    record {
      end = at.end;
      whole_field = no_more_as field at.end.last (walk_from field (asked place)).ended at.end.ends_as at.answer_is;
    }

-- ---- searching again

-- two chains, of which the second starts after the last unit of the first, are one
joined : (field : List ℕ) (from : ℕ) (passed : List ℕ) (middle : ℕ) (later : List ℕ) (last : ℕ)
    → Chain field from passed middle → Chain field (after_at field middle) later last → Chain field from (passed ++ (middle ∷ later)) last
joined field from [] middle later last c d = (c, d)
joined field from (place ∷ places) middle later last c d = (c.0, joined field (after_at field place) places middle later last c.1 d)

module _ (field : List ℕ) (place packet parity offset after : ℕ) (first : FoundFrom field place packet parity offset after) where
  begins-after : Begins field after
  begins-after =
      let far = first.is.after_teletext_law in
      let fits = first.is.inside in
      record { identified = first.identified; behind = omega arith; within = omega arith }

  -- the search from the place after is the walk from that place
  pub search-after : searched field after ≡ answer_from field after
  unfolding searched_from
  search-after = sym (search_from field after (sym (starts field after begins-after)))

  -- where it ends at a unit, that unit lies behind what was found, and the two searches are one chain of units
  pub search-again : (second : EndsAt field after (walk_from field after))
      → (after ≤ second.last)
      × Chain field (asked place) ((walk_from field (asked place)).passed ++ (first.end.last ∷ (walk_from field after).passed)) second.last
  search-again second = (
    second.not_before,
    joined field (asked place) (walk_from field (asked place)).passed first.end.last (walk_from field after).passed second.last first.end.reached
        (subst (λ (at : ℕ). Chain field at (walk_from field after).passed second.last) first.is.after_is second.reached),
  )
