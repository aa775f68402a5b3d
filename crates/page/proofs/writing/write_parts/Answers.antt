use mathlib.Core.Path.{◌≡◌, refl, ◌∙◌, ap, sym}
use mathlib.Core.List.{List, ◌++◌}
use Prim.Native.Nat.{ℕ}
use borrow.Author.Tests.{lt-leb}
use lib.ListN.{drop}
use Rattle.std.specs.Prelude.{Ok, Err}
use Rattle.std.proofs.lemmas.Result.{err_from_is_err_and}
use Rattle.page.specs.Records.{cells_of, head_length, page_of}
use Rattle.page.specs.Writing.{buffer_after, write_answer}
use Rattle.page.specs.declared.Page.{Page}
use Rattle.page.specs.declared.WriteError.{WriteError}
use Rattle.page.specs.declared.WriteError.TheVariants.{ShortRecord, TooLarge, BadDigit, UnlawfulCells}
use Rattle.page.proofs.WriterSteps.{answered, long-answer, record-stored}
use Rattle.page.proofs.writing.write_parts.Goals as goal
use Rattle.page.proofs.writing.write_parts.Goals.{After-page_answer, Start}

-- the page of the parts that are handed in, and what is lent for its record
abbrev page : Start → Page
page c = page_of c.args.magazine c.args.header c.args.clean (cells_of c.args.characters.now c.args.marks.now)

abbrev lent : Start → List ℕ
lent c = c.args.«record».now

-- where what is lent is long enough, the answer is the page's own
module _ (c : After-page_answer) where
  abbrev start : Start
  start = c.before.before.before.before

  own-answer : write_answer (page start) (lent start) ≡ c.page_answer.result
  own-answer = long-answer (page start) (lent start) c.if-record-lt-RECORD_LENGTH.false ∙ sym c.page_answer.ensures

-- a refusal leaves what is lent
nothing_stored : (page : Page) (lent : List ℕ) (error : WriteError) → buffer_after (Err error) page lent ≡ lent
unfolding buffer_after
nothing_stored page lent ShortRecord = refl
nothing_stored page lent TooLarge = refl
nothing_stored page lent BadDigit = refl
nothing_stored page lent UnlawfulCells = refl

pub returns-then-record-lt-RECORD_LENGTH : goal.returns-then-record-lt-RECORD_LENGTH
unfolding write_answer buffer_after
returns-then-record-lt-RECORD_LENGTH c =
    let start = (goal.at.returns-then-record-lt-RECORD_LENGTH c).Start in
    let both = answered (page start) (lent start) (Err ShortRecord) (rw (lt-leb _ _ c.if-record-lt-RECORD_LENGTH.true)) in
    record { result_value = both.0; record_after = both.1 }

pub returns-in_err-page_answer : goal.returns-in_err-page_answer
returns-in_err-page_answer c =
    let asked = (goal.at.returns-in_err-page_answer c).After-page_answer in
    let told = err_from_is_err_and c.from_residual.result c.from_residual.ensures.1 in
    let error = c.in_err-page_answer.field-0.0 in
    let is : c.from_residual.result ≡ Err error = told.1 ∙ ap Err told.2 in
    let both = answered (page (start asked)) (lent (start asked)) (Err error) (own-answer asked ∙ c.in_err-page_answer.was) in
    record { result_value = rw is both.0; record_after = sym (nothing_stored (page (start asked)) (lent (start asked)) error) ∙ both.1 }

pub returns : goal.returns
unfolding buffer_after
returns c =
    let asked = (goal.at.returns c).After-page_answer in
    let head = c.head_bytes.result in
    let both = answered (page (start asked)) (lent (start asked)) (Ok tt) (own-answer asked ∙ c.in_ok-page_answer.was) in
    let last =
    record-stored (page (start asked)) (lent (start asked)) head _ c.store_cells.new.«record» c.head_bytes.ensures
    (ap (λ (xs : List ℕ). xs ++ drop head_length (lent (start asked))) c.copy_from_slice.ensures.after) c.store_cells.ensures in
    record { result_value = both.0; record_after = last ∙ both.1 }
