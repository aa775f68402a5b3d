-- What closing writes is what the page writer's definition gives for the page that is held: of a lawful receiver with a page open, and a lent record
-- that is long enough, none of 12, 24, 22 and 23 arises.
use mathlib.Core.Path.{◌≡◌, refl, ◌∙◌, ap, sym, subst}
use mathlib.Core.Bool.{Bool, true, false, cond, ◌&&◌}
use mathlib.Core.List.{List}
use mathlib.Core.Logic.{◌⊎◌, inl, inr}
use Prim.Native.Nat.{ℕ, ◌≤◌}
use borrow.Author.Tests.{le-leb}
use lib.Dec.{T, eqb, eqb→eq, leb}
use lib.ListN.{length}
use Rattle.std.specs.Prelude.{None, Result, Ok, Err, ⊤}
use Rattle.laws.proofs.Bools.{both_left, both_right, passed}
use Rattle.laws.proofs.Keeps.{both}
use Rattle.packet.specs.Texts.{text_of}
use Rattle.page.specs.Lawful.{cells_fit, cells_lawful, digits_lawful, header_fits, magazine_fits, page_fits}
use Rattle.page.specs.Records.{record_length}
use Rattle.page.specs.Writing as writing
use Rattle.page.specs.declared.WriteError.{WriteError}
use Rattle.page.specs.declared.WriteError.TheVariants.{ShortRecord, TooLarge, BadDigit, UnlawfulCells}
use Rattle.receiver.specs.Entries.{lawful}
use Rattle.receiver.specs.Effects.{Outcome, closing_word, doubted, effected, header_taken, held, just_closed, lent_after, taken, text_taken, unclosed}
use Rattle.receiver.specs.Selections.{in_range, matches, time_matches, when_in_range}
use Rattle.receiver.specs.declared.Receiver.{Receiver}
use Rattle.receiver.specs.declared.kinds.Effect.{Effect}
use Rattle.receiver.specs.declared.kinds.Effect.TheVariants.{Nothing, Store, Open, Close, Doubt}
use Rattle.receiver.proofs.Closings.{lent-open, none_open}
use Rattle.receiver.proofs.Lawful.{doubted_lawful, open_matches, parts}
use Rattle.receiver.proofs.Outcomes.{by_doubt, by-effects}

-- the writer's three tests, each passed
all_passed : (a b c : Bool) → T a → T b → T c → cond {A = Result ⊤ WriteError} a (cond b (cond c (Ok tt) (Err UnlawfulCells)) (Err BadDigit)) (Err TooLarge) ≡ Ok tt
all_passed true true true ta tb tc = refl
all_passed true true false ta tb tc = absurd tc
all_passed true false c ta tb tc = absurd tb
all_passed false b c ta tb tc = absurd ta

module _ (receiver : Receiver) (is : T (lawful receiver)) (open-now : T receiver.«open») where
  -- the magazine and the digits are the selection's
  in-range : T (leb 1 receiver.selection.magazine && leb receiver.selection.magazine 8)
      × T (leb receiver.selection.tens 9) × T (leb receiver.selection.units 9)
  unfolding in_range
  in-range =
      let magazine = leb 1 receiver.selection.magazine && leb receiver.selection.magazine 8 in
      let tens = leb receiver.selection.tens 9 in
      let units = leb receiver.selection.units 9 in
      let digits = both_left (magazine && tens && units) (when_in_range receiver.selection.when) (parts receiver is).range in
      let upper = both_left (magazine && tens) units digits in
      (both_left magazine tens upper, both_right magazine tens upper, both_right (magazine && tens) units digits)

  digits-lawful : T (digits_lawful receiver.header)
  unfolding digits_lawful matches
  digits-lawful =
      let tens = eqb receiver.header.tens receiver.selection.tens in
      let units = eqb receiver.header.units receiver.selection.units in
      let same = both_left (tens && units) (time_matches receiver.selection.when receiver.header) (open_matches receiver is open-now) in
      both (leb receiver.header.tens 9) (leb receiver.header.units 9)
      (subst (λ (n : ℕ). T (leb n 9)) (sym (eqb→eq receiver.header.tens receiver.selection.tens (both_left tens units same))) in-range.1)
      (subst (λ (n : ℕ). T (leb n 9)) (sym (eqb→eq receiver.header.units receiver.selection.units (both_right tens units same))) in-range.2)

  page_fits_law : T (page_fits (held receiver))
  unfolding page_fits held magazine_fits
  page_fits_law =
      both (magazine_fits receiver.selection.magazine) (header_fits receiver.header && cells_fit receiver.cells) in-range.0
      (both (header_fits receiver.header) (cells_fit receiver.cells) (parts receiver is).fits (parts receiver is).sound.0)

  -- none of 24, 22 and 23
  pub page-written : writing.page_answer (held receiver) ≡ Ok tt
  unfolding writing.page_answer held
  page-written =
      all_passed (page_fits (held receiver)) (digits_lawful receiver.header) (cells_lawful receiver.cells) page_fits_law digits-lawful
      (parts receiver is).sound.1

  module _ (lent : List ℕ) (long : record_length ≤ length lent) where
    -- nor 12
    pub closing-answer : writing.write_answer (held receiver) lent ≡ Ok tt
    unfolding writing.write_answer
    closing-answer =
        ap (λ (b : Bool). cond b (writing.page_answer (held receiver)) (Err ShortRecord)) (le-leb record_length (length lent) long) ∙ page-written

    pub closing-writes-the-page : lent_after receiver lent ≡ writing.written (held receiver) lent
    unfolding writing.written writing.buffer_after
    closing-writes-the-page =
        lent-open receiver lent (passed receiver.«open» open-now)
        ∙ ap (λ (a : Result ⊤ WriteError). writing.buffer_after a (held receiver) lent) (sym closing-answer)

-- a line that closes writes the page that was held, in doubt where the line put it there
module _ (receiver : Receiver) (is : T (lawful receiver)) (packet lent : List ℕ) (long : record_length ≤ length lent) where
  abbrev Wrote : Outcome → Type 0
  Wrote outcome =
      (outcome.lent ≡ writing.written (held receiver) lent)
      ⊎ ((outcome.kind ≡ 4) × (outcome.lent ≡ writing.written (held (doubted receiver)) lent))

  closed-wrote : (closing_word receiver ≡ None → ⊥) → lent_after receiver lent ≡ writing.written (held receiver) lent
  closed-wrote closes = by receiver.«open» refl
    where
      by : (b : Bool) → receiver.«open» ≡ b → lent_after receiver lent ≡ writing.written (held receiver) lent
      by true o = closing-writes-the-page receiver is (subst T (sym o) tt) lent long
      by false o = absurd (closes (none_open receiver o))

  wrote_by : (e : Effect) (bytes : List ℕ) → ((effected receiver e bytes lent).closing ≡ None → ⊥) → Wrote (effected receiver e bytes lent)
  unfolding effected unclosed text_taken header_taken just_closed doubted
  wrote_by Nothing bytes = λ n. absurd (n refl)
  wrote_by (Store row) bytes = λ n. absurd (n refl)
  wrote_by (Open header) bytes = λ n. inl (closed-wrote n)
  wrote_by (Close kind) bytes = λ n. inl (closed-wrote n)
  wrote_by (Doubt could) bytes =
      by_doubt receiver lent (λ (o : Outcome). (o.closing ≡ None → ⊥) → Wrote o) could
      (λ o t n. inr (refl, closing-writes-the-page (doubted receiver) (doubted_lawful receiver is (rw o tt)) (rw o tt) lent long))
      (λ o t n. absurd (n refl))
      (λ o n. absurd (n refl))

  pub closing-line-writes : ((taken receiver packet lent).closing ≡ None → ⊥) → Wrote (taken receiver packet lent)
  closing-line-writes =
      by-effects receiver packet lent (λ (o : Outcome). (o.closing ≡ None → ⊥) → Wrote o) (λ e. wrote_by e (text_of packet).bytes)
