-- What the reader's steps come to: its answer, and the page beside it.
use mathlib.Core.Path.{◌≡◌, refl, ◌∙◌, ap, subst, sym}
use mathlib.Core.Bool.{Bool, true, false, cond}
use mathlib.Core.List.{List}
use Prim.Native.Nat.{ℕ, ◌≤◌}
use native.Mathlib.Omega.{arith}
use borrow.Author.Tests.{eq-eqb, ne_eqb}
use lib.Dec.{eqb}
use lib.ListN.{length, drop}
use Rattle.std.specs.Prelude.{Result, Ok, Err, ⊤}
use Rattle.laws.proofs.Keeps.{either}
use Rattle.grid.specs.Grid.{rows}
use Rattle.page.specs.Lawful.{cells_lawful, digits_lawful}
use Rattle.page.specs.OldForm.{old_length}
use Rattle.page.specs.Private.{head_from, headed_read}
use Rattle.page.specs.Reading.{filled, filled_page, page_beside, page_given, page_in, page_in_rows, page_read, read_answer, read_answer_for, read_paper, rows_in}
use Rattle.page.specs.Records.{cells_from, code_from, head_length, old_rows, record_length_of, row_code, values_in}
use Rattle.page.specs.declared.Cells.{Cells}
use Rattle.page.specs.declared.Page.{Page}
use Rattle.page.specs.declared.ReadError.{ReadError}
use Rattle.page.specs.declared.ReadError.TheVariants.{WrongLength, WrongRowCode, BadDigit, UnlawfulCells}
use Rattle.page.specs.declared.reading.Head.{Head}
use Rattle.page.proofs.Forms.{cells_in, code_is, head_in, headed, page_is}
use Rattle.page.proofs.AnyRows.{whole_cells}
use Rattle.page.proofs.Filled.{filled-lawful}

-- the answer by four tests, in their order
abbrev by_four : Bool → Bool → Bool → Bool → Result ⊤ ReadError
by_four long code digits lawful = cond long (cond code (cond digits (cond lawful (Ok tt) (Err UnlawfulCells)) (Err BadDigit)) (Err WrongRowCode)) (Err WrongLength)

-- bytes of another length than that of so many rows are refused by 20
pub answer_otherwise : (n : ℕ) (bytes : List ℕ) → (length bytes ≡ record_length_of n → ⊥) → read_answer_for n bytes ≡ Err WrongLength
unfolding read_answer_for
answer_otherwise n bytes h =
    let page = page_in_rows n bytes in
    let code = eqb (code_from (values_in n bytes)) (row_code n) in
    ap (λ (long : Bool). by_four long code (digits_lawful page.header) (cells_lawful page.cells)) (ne_eqb _ _ h)

module _ (bytes : List ℕ) where
  -- what the reader promises of what it gives
  abbrev Right : Result Page ReadError → Type 0
  Right r = (read_paper r ≡ read_paper (read_answer bytes)) × (page_given r ≡ page_read bytes)

  -- a refusal, with all zeros beside it
  pub refused_is : (error : ReadError) → read_answer bytes ≡ Err error → Right (Err error)
  unfolding read_paper page_given page_read page_beside
  refused_is error e = (ap (λ (a : Result ⊤ ReadError). read_paper a) (sym e), ap (λ (a : Result ⊤ ReadError). page_beside a bytes) (sym e))

  taken_is : (page : Page) → read_answer bytes ≡ Ok tt → page_in bytes ≡ page → Right (Ok page)
  unfolding read_paper page_given page_read page_beside
  taken_is page e is =
      (ap (λ (a : Result ⊤ ReadError). read_paper a) (sym e), sym is ∙ ap (λ (a : Result ⊤ ReadError). page_beside a bytes) (sym e))

  -- the rows of its form
  pub rows-old : length bytes ≡ old_length → rows_in bytes ≡ old_rows
  unfolding rows_in
  rows-old e = rw (eq-eqb _ _ e)

  pub rows_new : (length bytes ≡ old_length → ⊥) → rows_in bytes ≡ rows
  unfolding rows_in
  rows_new h = rw (ne_eqb _ _ h)

  pub rows-within : (1 ≤ rows_in bytes) × (rows_in bytes ≤ rows)
  unfolding rows_in
  rows-within = either (λ (n : ℕ). (1 ≤ n) × (n ≤ rows)) (eqb (length bytes) old_length) old_rows rows (omega arith, omega arith) (omega arith, omega arith)

  pub wrong_length_law : (n : ℕ) → n ≡ rows_in bytes → (length bytes ≡ record_length_of n → ⊥) → read_answer bytes ≡ Err WrongLength
  unfolding read_answer
  wrong_length_law n is other = ap (λ (k : ℕ). read_answer_for k bytes) (sym is) ∙ answer_otherwise n bytes other

  module _ (n : ℕ) (is : n ≡ rows_in bytes) (whole : length bytes ≡ record_length_of n) where
    -- what the head and the cells hold, which the code asks
    abbrev head_read : Head
    head_read = head_from (head_in n bytes whole)

    abbrev cells_read : Cells
    cells_read = cells_from (cells_in n bytes whole)

    abbrev code_read : Bool
    code_read = eqb head_read.code (row_code n)

    abbrev digits_read : Bool
    digits_read = digits_lawful head_read.header

    abbrev lawful_read : Bool
    lawful_read = cells_lawful (filled cells_read)

    page-in : page_in bytes ≡ headed head_read (filled cells_read)
    unfolding page_in filled_page
    page-in = ap (λ (k : ℕ). filled_page (page_in_rows k bytes)) (sym is) ∙ ap filled_page (page_is n bytes whole)

    -- the answer by the tests that were asked
    by_tests : (z d l : Bool) → code_read ≡ z → digits_read ≡ d → lawful_read ≡ l → read_answer bytes ≡ by_four true z d l
    unfolding read_answer
    by_tests z d l e f g =
        let within = rows-within in
        let long = eq-eqb (length bytes) (record_length_of n) whole in
        let code = ap (λ (k : ℕ). eqb k (row_code n)) (code_is n bytes whole) ∙ e in
        let digits = ap (λ (page : Page). digits_lawful page.header) (page_is n bytes whole) ∙ f in
        let lawful = ap (λ (page : Page). cells_lawful page.cells) (page_is n bytes whole)
        ∙ (sym (filled-lawful n (omega arith) cells_read (whole_cells n (drop head_length bytes)) (omega arith)) ∙ g) in
        ap (λ (k : ℕ). read_answer_for k bytes) (sym is) ∙ (λ i. by_four (long i) (code i) (digits i) (lawful i))

    pub wrong-code : code_read ≡ false → read_answer bytes ≡ Err WrongRowCode
    wrong-code e = by_tests false digits_read lawful_read e refl refl

    pub bad-digit : code_read ≡ true → digits_read ≡ false → read_answer bytes ≡ Err BadDigit
    bad-digit e f = by_tests true false lawful_read e f refl

    -- and where the head passed, what its cells give
    headed-by : (lawful : Bool) → lawful_read ≡ lawful → code_read ≡ true → digits_read ≡ true
        → Right (cond lawful (Ok (headed head_read (filled cells_read))) (Err UnlawfulCells))
    headed-by true g e f = taken_is (headed head_read (filled cells_read)) (by_tests true true true e f g) page-in
    headed-by false g e f = refused_is UnlawfulCells (by_tests true true false e f g)

    pub headed-is : code_read ≡ true → digits_read ≡ true → {r : Result Page ReadError} → r ≡ headed_read head_read (filled cells_read) → Right r
    headed-is e f is = subst Right (sym is) (headed-by lawful_read refl e f)
