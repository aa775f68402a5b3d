-- The whole listing: its bound is always enough, so that it is the line of a place and then the listing from where that line goes on. Whoever hands on
-- the line of each place, one after the other, hands on the listing, and comes to its end.
use Rattle.std.specs.Prelude.{Some, None, Result, Ok, Err}
use Rattle.std.specs.Prelude as std
use mathlib.Core.Path.{◌≡◌, refl, sym, ◌∙◌, ap}
use mathlib.Core.Bool.{Bool, true, false, cond}
use mathlib.Core.List.{List, [], ◌++◌, append-nil}
use mathlib.Core.Option.{Option, none, some}
use Prim.Native.Nat.{ℕ, zero, suc, ◌+◌, ◌<◌, ◌≤◌}
use native.Mathlib.Omega.{arith}
use borrow.Author.Tests.{ne_eqb}
use lib.Dec.{ltb}
use lib.ListN.{length, take, drop, length-append}
use lib.Seq.{take-append_seam, drop-append_seam, drop-drop}
use Rattle.laws.proofs.Inverse.{never}
use Rattle.laws.specs.Paper.{Paper, accepted, refused_by}
use Rattle.field.specs.Field.{head_length, asked, unit_at, any_unit_paper, error_paper}
use Rattle.field.specs.declared.FieldError.{FieldError}
use Rattle.field.specs.declared.FieldError.TheVariants.{NoField, PastField, Short, WrongLength}
use Rattle.field.specs.declared.WholeUnit.{WholeUnit}
use Rattle.field.proofs.Steps.{unit-further}
use Rattle.field.proofs.Units.{Answered, answered}
use Rattle.listing.specs.Lines.{Told, last, taken, numbered, told, most, too_long_text, line_at, following, lines, listed_from, listed}
use Rattle.listing.specs.Held.{room, line_of, Held, held, next_paper, listed_paper}
use Rattle.texts.specs.Held.{text_of}
use Rattle.texts.proofs.Held.{held_text, held_used}
use Rattle.listing.specs.declared.Listed.{Listed}

-- ---- a line that goes on

-- the field is not too long, and the place after lies further on, in the field or at its end
pub record Onward (input : List ℕ) (place after : ℕ) : Type 0 where
  pub further : place + head_length ≤ after
  pub within : after ≤ length input

not_before : (place : ℕ) → place ≤ asked place
unfolding asked
not_before zero = omega arith
not_before (suc place) = rw (ne_eqb (suc place) 0 (λ e. omega arith)) (omega arith)

module _ (input : List ℕ) (place after : ℕ) where
  case-onward : (case : Result (std.Option WholeUnit) FieldError) → unit_at input place ≡ any_unit_paper case
      → (told (length input) (asked place) (any_unit_paper case)).next ≡ some after → Onward input place after
  unfolding told numbered taken last any_unit_paper error_paper accepted refused_by
  case-onward (Ok (Some unit)) is e =
      let far = unit-further input place unit.id unit.length unit.after is in
      let same : unit.after ≡ after = cc in
      let here_or_on = not_before place in
      record { further = omega arith; within = omega arith }
  case-onward (Ok None) is e = absurd (never (cc))
  case-onward (Err NoField) is e = absurd (never (cc))
  case-onward (Err PastField) is e = absurd (never (cc))
  case-onward (Err (Short at)) is e = absurd (never (cc))
  case-onward (Err (WrongLength at)) is e = absurd (never (cc))

  by_answer : Answered (unit_at input place) → (told (length input) (asked place) (unit_at input place)).next ≡ some after → Onward input place after
  by_answer a e =
      case-onward a.case a.is (sym (ap (λ (p : Paper). (told (length input) (asked place) p).next) a.is) ∙ e)

  by_length : (long : Bool) → (cond long (last too_long_text) (told (length input) (asked place) (unit_at input place))).next ≡ some after
      → Onward input place after
  unfolding last
  by_length true e = absurd (never (cc))
  by_length false e = by_answer (answered input place) e

  pub onward : (line_at input place).next ≡ some after → Onward input place after
  unfolding line_at
  onward e = by_length (ltb most (length input)) e

-- ---- the bound is always enough

same_on : (text : List ℕ) (next : Option ℕ) (f g : ℕ → List ℕ) → ((after : ℕ) → next ≡ some after → f after ≡ g after)
    → following text next f ≡ following text next g
unfolding following
same_on text none f g same = refl
same_on text (some after) f g same = ap (λ (rest : List ℕ). text ++ rest) (same after refl)

pub enough : (m n : ℕ) (input : List ℕ) (place : ℕ) → place ≤ length input → length input < place + m → length input < place + n
    → lines m input place ≡ lines n input place
unfolding lines
enough zero n input place inside p q = absurd (omega arith)
enough (suc m) zero input place inside p q = absurd (omega arith)
enough (suc m) (suc n) input place inside p q =
    same_on (line_at input place).text (line_at input place).next (lines m input) (lines n input)
    (λ after e.
    let on = onward input place after e in
    let far = on.further in
    enough m n input after on.within (omega arith) (omega arith))

-- so the listing from a place is the line of the place, and the listing from where that line goes on
pub list_on : (input : List ℕ) (place : ℕ) → place ≤ length input
    → listed_from input place ≡ following (line_at input place).text (line_at input place).next (listed_from input)
unfolding listed_from lines
list_on input place inside =
    same_on (line_at input place).text (line_at input place).next (lines (length input) input) (lines (suc (length input)) input)
    (λ after e.
    let on = onward input place after e in
    let far = on.further in
    enough (length input) (suc (length input)) input after on.within (omega arith) (omega arith))

-- ---- handing the listing on, line by line

-- so many bytes of the listing were handed on, and what is left is the listing from a place
pub record Sent (input : List ℕ) (sent place : ℕ) : Type 0 where
  pub inside : place ≤ length input
  pub rest : drop sent (listed input) ≡ listed_from input place
  pub whole : sent + length (listed_from input place) ≡ length (listed input)

pub sent_none : (input : List ℕ) → Sent input 0 0
unfolding listed
sent_none input = record { inside = omega arith; rest = refl; whole = omega arith }

starts_with : (text : List ℕ) (next : Option ℕ) (f : ℕ → List ℕ) → take (length text) (following text next f) ≡ text
unfolding following
starts_with text none f = ap (take (length text)) (sym (append-nil text)) ∙ take-append_seam text []
starts_with text (some after) f = take-append_seam text (f after)

module _ (input : List ℕ) (sent place : ℕ) (so_far : Sent input sent place) where
  next_is : (next : Option ℕ) → (line_at input place).next ≡ next → listed_from input place ≡ following (line_at input place).text next (listed_from input)
  next_is next e =
      list_on input place so_far.inside ∙ ap (λ (n : Option ℕ). following (line_at input place).text n (listed_from input)) e

  -- the line of the place is the part of the listing that comes next
  pub comes-next : take (length (line_at input place).text) (drop sent (listed input)) ≡ (line_at input place).text
  comes-next =
      ap (take (length (line_at input place).text)) (so_far.rest ∙ next_is (line_at input place).next refl)
      ∙ starts_with (line_at input place).text (line_at input place).next (listed_from input)

  pub sent-more : (after : ℕ) → (line_at input place).next ≡ some after → Sent input (sent + length (line_at input place).text) after
  unfolding following
  sent-more after e =
      let text = (line_at input place).text in
      let is : listed_from input place ≡ text ++ listed_from input after = next_is (some after) e in
      let both = ap length is ∙ length-append text (listed_from input after) in
      let all = so_far.whole in
      record {
        inside = (onward input place after e).within;
        rest =
            sym (drop-drop (length text) sent (listed input))
            ∙ (ap (drop (length text)) (so_far.rest ∙ is) ∙ drop-append_seam text (listed_from input after));
        whole = omega arith;
      }

  -- after the last line all of it was handed on
  pub sent-all : (line_at input place).next ≡ none → sent + length (line_at input place).text ≡ length (listed input)
  unfolding following
  sent-all e =
      let is : listed_from input place ≡ (line_at input place).text = next_is none e in
      let both = ap length is in
      let all = so_far.whole in
      omega arith

-- ---- what the answer of `line_at` says of a step

module _ (answer : Listed) (step : Told) (is : listed_paper answer ≡ held step) where
  line-is : answer.line ≡ line_of step.text
  unfolding listed_paper held
  line-is = ap (λ (h : Held). h.line) is

  pub used_is : answer.line.used ≡ length step.text
  used_is = held_used room step.text line-is

  pub text-is : text_of answer.line ≡ step.text
  text-is = held_text room step.text line-is

  pub next-at : {next : std.Option ℕ} → answer.next ≡ next → step.next ≡ next_paper next
  unfolding listed_paper held
  next-at e = sym (ap (λ (h : Held). h.next) is) ∙ ap next_paper e
