-- There and back, in the new form: reading what was written gives the page back, and writing what was read from a new record gives the same bytes. A record of either form
-- gives a page that the writer takes.
use mathlib.Core.Path.{◌≡◌, ◌∙◌, ap, subst}
use mathlib.Core.List.{List}
use Prim.Native.Nat.{ℕ}
use native.Mathlib.Omega.{arith}
use lib.ListN.{length}
use Rattle.std.specs.Prelude.{Result, Ok, ⊤}
use Rattle.laws.proofs.Fields.{AreBytes}
use Rattle.grid.specs.Grid.{rows}
use Rattle.page.specs.OldForm.{old_length}
use Rattle.page.specs.Reading.{filled_page, page_beside, page_in, page_in_rows, page_read, read_answer, read_answer_for, rows_in}
use Rattle.page.specs.Records.{record_for, record_length, record_length_of, record_of}
use Rattle.page.specs.Writing.{page_answer}
use Rattle.page.specs.declared.Page.{Page}
use Rattle.page.specs.declared.ReadError.{ReadError}
use Rattle.page.proofs.AnyRows.{
  WholeFor,
  in-record-for,
  one-page-for,
  read-whole-for,
  reads-written-for,
  record-back-for,
  record-bytes-for,
  whole-read-for,
  writes-read-for,
}
use Rattle.page.proofs.Filled.{filled_same, filled-whole, filled-written}
use Rattle.page.proofs.Forms.{length-record-for}
use Rattle.page.proofs.ReaderSteps.{rows_new, rows-within}

-- a page of the grid's cells, which every page in the code is
abbrev pub Whole : Page → Type 0
Whole = WholeFor rows

pub length_record : (page : Page) → length (record_of page) ≡ record_length
unfolding record_of
length_record = length-record-for rows

-- bytes of its length are read in the new form
pub new_form : (bytes : List ℕ) → length bytes ≡ record_length → rows_in bytes ≡ rows
new_form bytes e = rows_new bytes (λ old. omega (arith, e, old))

-- ---- a page that is written

module _ (page : Page) (whole : Whole page) (taken : page_answer page ≡ Ok tt) where
  pub record-bytes : AreBytes (record_of page)
  unfolding record_of
  record-bytes = record-bytes-for rows page whole taken

  new-rows : rows_in (record_of page) ≡ rows
  new-rows = new_form (record_of page) (length_record page)

  pub in-record : page_in (record_of page) ≡ page
  unfolding page_in record_of
  in-record =
      ap (λ (n : ℕ). filled_page (page_in_rows n (record_of page))) new-rows ∙ (ap filled_page (in-record-for rows page whole taken) ∙ filled_same page whole)

  pub reads-written : read_answer (record_of page) ≡ Ok tt
  unfolding read_answer record_of
  reads-written = ap (λ (n : ℕ). read_answer_for n (record_of page)) new-rows ∙ reads-written-for rows page whole taken

  -- reading what was written gives the record back
  pub page-read-back : page_read (record_of page) ≡ page
  unfolding page_read page_beside
  page-read-back = ap (λ (answer : Result ⊤ ReadError). page_beside answer (record_of page)) reads-written ∙ in-record

-- ---- a record that is read

module _ (bytes : List ℕ) (taken : read_answer bytes ≡ Ok tt) where
  -- as a record of its form's rows
  pub taken-rows : read_answer_for (rows_in bytes) bytes ≡ Ok tt
  unfolding read_answer
  taken-rows = taken

  pub read_whole : length bytes ≡ record_length_of (rows_in bytes)
  read_whole = read-whole-for (rows_in bytes) bytes taken-rows

  pub whole-read : Whole (page_in bytes)
  unfolding page_in filled_page
  whole-read = filled-whole (rows_in bytes) (rows-within bytes).1 (page_in_rows (rows_in bytes) bytes).cells (whole-read-for (rows_in bytes) bytes taken-rows)

  -- the writer takes what was read
  pub writes-read : page_answer (page_in bytes) ≡ Ok tt
  unfolding page_in
  writes-read =
      filled-written (rows_in bytes) (rows-within bytes).1 (rows-within bytes).0 (page_in_rows (rows_in bytes) bytes) (whole-read-for (rows_in bytes) bytes taken-rows)
      (writes-read-for (rows_in bytes) bytes taken-rows)

  pub page-read : page_read bytes ≡ page_in bytes
  unfolding page_read page_beside
  page-read = ap (λ (answer : Result ⊤ ReadError). page_beside answer bytes) taken

  -- one that is not of the old form is of the new
  pub new-length : (length bytes ≡ old_length → ⊥) → length bytes ≡ record_length
  new-length other = read_whole ∙ ap record_length_of (rows_new bytes other)

  -- ---- of the new form
  module _ (new : length bytes ≡ record_length) where
    pub new-taken : read_answer_for rows bytes ≡ Ok tt
    new-taken = subst (λ (n : ℕ). read_answer_for n bytes ≡ Ok tt) (new_form bytes new) taken-rows

    pub new-page : page_in bytes ≡ page_in_rows rows bytes
    unfolding page_in
    new-page = ap (λ (n : ℕ). filled_page (page_in_rows n bytes)) (new_form bytes new) ∙ filled_same (page_in_rows rows bytes) (whole-read-for rows bytes new-taken)

    -- writing what was read gives the same bytes
    pub record-back : AreBytes bytes → record_of (page_in bytes) ≡ bytes
    unfolding record_of
    record-back are = ap (record_for rows) new-page ∙ record-back-for rows bytes new-taken are

-- no two pages have the same bytes
pub one_page : (page page' : Page) → Whole page → Whole page' → page_answer page ≡ Ok tt → page_answer page' ≡ Ok tt → record_of page ≡ record_of page' → page ≡ page'
unfolding record_of
one_page = one-page-for rows
