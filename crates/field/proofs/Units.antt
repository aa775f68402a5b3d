-- What stands at a place, by the tests: which case of `here` holds, and what each case shows.
use mathlib.Core.Path.{◌≡◌, refl, ap}
use mathlib.Core.Logic.{◌⊎◌, inl, inr}
use mathlib.Core.Bool.{Bool, true, false, cond, not, ◌&&◌, ◌||◌}
use mathlib.Core.List.{List}
use Prim.Native.Nat.{ℕ, zero, suc, ◌+◌, ◌<◌, ◌≤◌}
use native.Mathlib.Omega.{arith}
use borrow.Author.Tests.{eq-eqb, ne_eqb, lt-ltb, le-ltb, lt-leb, ltb-false, eqb-true, eqb-false, not-false}
use lib.Dec.{eqb}
use lib.ListN.{length}
use Rattle.std.specs.Prelude.{Option, Some, None, Result, Ok, Err}
use Rattle.laws.proofs.Bools.{neither}
use Rattle.laws.proofs.Inverse.{never}
use Rattle.laws.specs.Paper.{Paper}
use Rattle.field.specs.Field.{identifier, low, high, known, no_field, past_field, asked, Start, start_at, nowhere, start}
use Rattle.field.specs.Field.{id_at, length_at, after_at, teletext_id, teletext_length, short, wrong_length, the_end, a_unit, refused, here}
use Rattle.field.specs.Field.{unit_answer, unit_from, unit_at, error_paper, any_unit_paper}
use Rattle.field.specs.declared.WholeUnit.{WholeUnit}
use Rattle.field.specs.declared.FieldError.{FieldError}
use Rattle.field.specs.declared.FieldError.TheVariants.{NoField, PastField, Short, WrongLength}

-- equal answers have as many values
pub counts : {a b : Paper} → a ≡ b → length a.values ≡ length b.values
counts e = ap (λ (answer : Paper). length answer.values) e

module _ (field : List ℕ) (place : ℕ) where
  pub end-here : place ≡ length field → here field place ≡ the_end
  unfolding here
  end-here e = rw (eq-eqb place (length field) e)

  module _ (before : place < length field) where
    inside : eqb place (length field) ≡ false
    inside = ne_eqb place (length field) (λ e. omega arith)

    pub short-here : length field < after_at field place → here field place ≡ refused 15
    unfolding here
    short-here past = simp (inside, lt-ltb (length field) (after_at field place) past)

    module _ (whole : after_at field place ≤ length field) where
      not_short : short field place ≡ false
      unfolding short
      not_short = simp (le-ltb (length field) (after_at field place) whole, lt-leb (length field) (place + 1) (omega arith))

      pub wrong-here : wrong_length (identifier field) (id_at field place) (length_at field place) ≡ true → here field place ≡ refused 16
      unfolding here
      wrong-here w = simp (inside, not_short, w)

      pub unit-here : wrong_length (identifier field) (id_at field place) (length_at field place) ≡ false → here field place ≡ a_unit
      unfolding here
      unit-here w = simp (inside, not_short, w)

-- ---- from a place asked

pub unit_from_law : (field : List ℕ) (place : ℕ) {first : Start} → first ≡ start field place → unit_from field first ≡ unit_at field place
unfolding unit_at
unit_from_law field place e = ap (unit_from field) e

-- a field is entered at a place just where neither 14 nor 17 refuses
entered : (a b : Bool) (m n x first : ℕ) → cond a (nowhere m) (cond b (nowhere n) (start_at x)) ≡ start_at first → (a ≡ false) × (b ≡ false) × (x ≡ first)
entered true b m n x first e = absurd (never (cc))
entered false true m n x first e = absurd (never (cc))
entered false false m n x first e = (refl, refl, cc)

on_start : (field : List ℕ) (place first : ℕ) → start field place ≡ start_at first → (no_field field ≡ false) × (past_field field place ≡ false) × (asked place ≡ first)
unfolding start
on_start field place first e = entered _ _ _ _ _ _ e

not_entered : (a b : Bool) (x number : ℕ) → cond a (nowhere 14) (cond b (nowhere 17) (start_at x)) ≡ nowhere number → (14 ≡ number) ⊎ (17 ≡ number)
not_entered true b x number e = inl (cc)
not_entered false true x number e = inr (cc)
not_entered false false x number e = absurd (never (cc))

-- a field that is not entered is refused by 14 or by 17
pub start_refused : (field : List ℕ) (place number : ℕ) → start field place ≡ nowhere number → (14 ≡ number) ⊎ (17 ≡ number)
unfolding start
start_refused field place number e = not_entered (no_field field) (past_field field place) (asked place) number e

not_empty : (field : List ℕ) → no_field field ≡ false → 0 < length field
unfolding no_field
not_empty field e =
    let positive = eqb-false (length field) 0 (neither (eqb (length field) 0) (not (known (identifier field))) e).0 in
    omega arith

asked_inside : (place bound : ℕ) → 0 < bound → place ≤ bound → (0 < asked place) × (asked place ≤ bound)
unfolding asked
asked_inside zero bound positive inside = (omega arith, omega arith)
asked_inside (suc place) bound positive inside = rw (ne_eqb (suc place) 0 (λ e. omega arith)) (omega arith, omega arith)

-- where a walk starts
pub record Begins (field : List ℕ) (first : ℕ) : Type 0 where
  pub identified : no_field field ≡ false
  pub behind : 0 < first
  pub within : first ≤ length field

begun : (field : List ℕ) (place first : ℕ) → (no_field field ≡ false) × (past_field field place ≡ false) × (asked place ≡ first) → Begins field first
unfolding past_field
begun field place first (Known-is, not_past, e) =
    let there = asked_inside place (length field) (not_empty field Known-is) (ltb-false (length field) place not_past) in
    record { identified = Known-is; behind = omega arith; within = omega arith }

pub begins : (field : List ℕ) (place first : ℕ) → start field place ≡ start_at first → Begins field first
begins field place first e = begun field place first (on_start field place first e)

pub begins_at : (field : List ℕ) (place first : ℕ) → start field place ≡ start_at first → asked place ≡ first
begins_at field place first e = (on_start field place first e).2

pub asked_behind : (place : ℕ) → 0 < place → asked place ≡ place
unfolding asked
asked_behind place behind = rw (ne_eqb place 0 (λ e. omega arith))

not_past_field : (field : List ℕ) (place : ℕ) → place ≤ length field → past_field field place ≡ false
unfolding past_field
not_past_field field place within = le-ltb (length field) place within

-- a place behind the identifier and within the field is its own start
pub starts : (field : List ℕ) (place : ℕ) → Begins field place → start field place ≡ start_at place
unfolding start
starts field place begin =
    rw (begin.identified, not_past_field field place begin.within, asked_behind place begin.behind)

-- ---- what a unit shows

-- a whole unit, with a length that its identifier and id allow
pub record IsUnit (field : List ℕ) (place : ℕ) : Type 0 where
  pub whole : after_at field place ≤ length field
  pub allowed : wrong_length (identifier field) (id_at field place) (length_at field place) ≡ false

here_picks : (e s w : Bool) → cond e the_end (cond s (refused 15) (cond w (refused 16) a_unit)) ≡ a_unit → (s ≡ false) × (w ≡ false)
here_picks true s w q = absurd (never (cc))
here_picks false true w q = absurd (never (cc))
here_picks false false true q = absurd (never (cc))
here_picks false false false q = (refl, refl)

end_picks : (e s w : Bool) → cond e the_end (cond s (refused 15) (cond w (refused 16) a_unit)) ≡ the_end → e ≡ true
end_picks true s w q = refl
end_picks false true w q = absurd (never (cc))
end_picks false false true q = absurd (never (cc))
end_picks false false false q = absurd (never (cc))

pub is_end : (field : List ℕ) (place : ℕ) → here field place ≡ the_end → place ≡ length field
unfolding here
is_end field place e =
    eqb-true place (length field)
    (end_picks (eqb place (length field)) (short field place) (wrong_length (identifier field) (id_at field place) (length_at field place)) e)

not_past : (field : List ℕ) (place : ℕ) → short field place ≡ false → after_at field place ≤ length field
unfolding short
not_past field place e = ltb-false (length field) (after_at field place) (neither _ _ e).0

pub is_unit : (field : List ℕ) (place : ℕ) → here field place ≡ a_unit → IsUnit field place
unfolding here
is_unit field place e =
    let picked = here_picks (eqb place (length field)) (short field place) (wrong_length (identifier field) (id_at field place) (length_at field place)) e in
    record { whole = not_past field place picked.0; allowed = picked.1 }

is_known : (field : List ℕ) → no_field field ≡ false → known (identifier field) ≡ true
unfolding no_field
is_known field e = not-false (known (identifier field)) (neither (eqb (length field) 0) (not (known (identifier field))) e).1

fixed_length : (l h t c e : Bool) → (l || h) ≡ true → t ≡ true → ((l || h && (t || c)) && not e) ≡ false → e ≡ true
fixed_length true h t c e k u w = not-false e w
fixed_length false true true c e k u w = not-false e w
fixed_length false true false c e k u w = absurd (never (cc))
fixed_length false false t c e k u w = absurd (never (cc))

right_length : (byte id size : ℕ) → known byte ≡ true → teletext_id id ≡ true → wrong_length byte id size ≡ false → size ≡ teletext_length
unfolding known wrong_length
right_length byte id size k t w = eqb-true size teletext_length (fixed_length (low byte) (high byte) (teletext_id id) (eqb id 0xC0) (eqb size teletext_length) k t w)

-- a unit of a teletext id has 44 bytes
pub teletext_length_law : (field : List ℕ) (place : ℕ) → no_field field ≡ false → IsUnit field place → teletext_id (id_at field place) ≡ true
    → length_at field place ≡ teletext_length
teletext_length_law field place k u t = right_length (identifier field) (id_at field place) (length_at field place) (is_known field k) t u.allowed

-- ---- every answer about a place is one that `unit_at` has a case for

pub record Answered (answer : Paper) : Type 0 where
  pub case : Result (Option WholeUnit) FieldError
  pub is : answer ≡ any_unit_paper case

at_place : (field : List ℕ) (place : ℕ) (at_end past wrong : Bool)
    → Answered (unit_answer field place (cond at_end the_end (cond past (refused 15) (cond wrong (refused 16) a_unit))))
unfolding unit_answer any_unit_paper error_paper
at_place field place true past wrong = record { case = Ok None; is = refl }
at_place field place false true wrong = record { case = Err (Short place); is = refl }
at_place field place false false true = record { case = Err (WrongLength place); is = refl }
at_place field place false false false = record {
  case = Ok (Some (record { id = id_at field place; length = length_at field place; after = after_at field place }));
  is = refl;
}

from_start : (field : List ℕ) (place : ℕ) (no-field past : Bool) → Answered (unit_from field (cond no-field (nowhere 14) (cond past (nowhere 17) (start_at (asked place)))))
unfolding unit_from here any_unit_paper error_paper
from_start field place true past = record { case = Err NoField; is = refl }
from_start field place false true = record { case = Err PastField; is = refl }
from_start field place false false =
    let first = asked place in
    at_place field first (eqb first (length field)) (short field first) (wrong_length (identifier field) (id_at field first) (length_at field first))

pub answered : (field : List ℕ) (place : ℕ) → Answered (unit_at field place)
unfolding unit_at start
answered field place = from_start field place (no_field field) (past_field field place)
