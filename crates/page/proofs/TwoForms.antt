-- The two forms of document 02, request 5: what 20 and 21 ask; our reader answers an old record as the old reader did, and fills row 24 with spaces marked never; its old form
-- encoded again is the same bytes; there is no third form; and the old reader refuses every new record by 20.
use mathlib.Core.Path.{◌≡◌, ◌∙◌, ap, sym}
use mathlib.Core.List.{List, []}
use mathlib.Core.Logic.{◌⊎◌, inl, inr}
use Prim.Native.Nat.{ℕ, ◌-◌, ◌<◌}
use native.Mathlib.Decide.{ℕ_discrete}
use native.Mathlib.Omega.{arith}
use borrow.Author.Tests.{ne_eqb}
use lib.ListN.{length, replicate, drop}
use lib.Seq.{drop_at, take_at}
use Rattle.std.specs.Prelude.{Ok}
use Rattle.laws.specs.Paper.{refused_by}
use Rattle.laws.proofs.Fields.{AreBytes}
use Rattle.grid.specs.Grid.{cell_count, columns, rows}
use Rattle.page.specs.Lawful.{never, space}
use Rattle.page.specs.OldForm.{first_rows, old_answer, old_count, old_length, old_page_in, old_record_of}
use Rattle.page.specs.Reading.{filled, filled_page, page_in, page_in_rows, read_answer, read_answer_for, read_paper, rows_in}
use Rattle.page.specs.Records.{cells_of, code_from, old_rows, page_of, record_for, record_length, record_length_of, record_of, row_code, values_in}
use Rattle.page.specs.declared.Page.{Page}
use Rattle.page.proofs.AnyRows.{WholeFor, WrittenFor, code_at_most_1, record-back-for, taken-is-written-for, whole-read-for, written-is-taken-for}
use Rattle.page.proofs.Forms.{code_is, length-record-for}
use Rattle.page.proofs.ReaderSteps.{answer_otherwise, rows_new, rows-old, wrong-code, wrong_length_law}
use Rattle.page.proofs.Trips.{length_record, new_form, new-length, new-taken, record-back}

-- ---- an old page, filled up, and its first rows again

module _ (page : Page) (whole : WholeFor old_rows page) where
  abbrev rest : ℕ
  rest = cell_count - length page.cells.characters

  pub first_rows_here : first_rows (filled_page page) ≡ page
  unfolding first_rows filled_page filled
  first_rows_here =
      let characters = take_at page.cells.characters (replicate rest space) old_count whole.0 in
      let marks = take_at page.cells.marks (replicate rest never) old_count whole.1 in
      λ i. page_of page.magazine page.header page.clean (cells_of (characters i) (marks i))

  -- row 24 is spaces marked never
  one_row : rest ≡ columns
  one_row = omega (arith, whole.0)

  pub row-24 : (drop old_count (filled_page page).cells.characters ≡ replicate columns space) × (drop old_count (filled_page page).cells.marks ≡ replicate columns never)
  unfolding filled_page filled
  row-24 = (
    drop_at page.cells.characters (replicate rest space) old_count whole.0 ∙ ap (λ (k : ℕ). replicate k space) one_row,
    drop_at page.cells.marks (replicate rest never) old_count whole.1 ∙ ap (λ (k : ℕ). replicate k never) one_row,
  )

-- ---- 20 and 21 follow from what the request names

-- 20: neither length
pub refused_20 : (bytes : List ℕ) → (length bytes ≡ old_length → ⊥) → (length bytes ≡ record_length → ⊥) → read_paper (read_answer bytes) ≡ refused_by 20 []
unfolding read_paper
refused_20 bytes old new = ap read_paper (wrong_length_law bytes rows (sym (rows_new bytes old)) new)

-- 21: a row code that is not that of the length, so any above 1 too
module _ (bytes : List ℕ) (n : ℕ) (is : n ≡ rows_in bytes) (whole : length bytes ≡ record_length_of n) where
  pub refused-21 : (code_from (values_in n bytes) ≡ row_code n → ⊥) → read_paper (read_answer bytes) ≡ refused_by 21 []
  unfolding read_paper
  refused-21 other = ap read_paper (wrong-code bytes n is whole (ne_eqb _ _ (λ e. other (code_is n bytes whole ∙ e))))

  pub refused-above-1 : 1 < code_from (values_in n bytes) → read_paper (read_answer bytes) ≡ refused_by 21 []
  refused-above-1 above = refused-21 (λ e. omega (arith, e, code_at_most_1 n))

-- ---- bytes of the old form's length

module _ (bytes : List ℕ) (old : length bytes ≡ old_length) where
  -- the answer is the old reader's
  pub as-old-reader : read_answer bytes ≡ old_answer bytes
  unfolding read_answer old_answer
  as-old-reader = ap (λ (n : ℕ). read_answer_for n bytes) (rows-old bytes old)

  -- and the page is the old reader's, filled up
  pub as-old-page : page_in bytes ≡ filled_page (old_page_in bytes)
  unfolding page_in old_page_in
  as-old-page = ap (λ (n : ℕ). filled_page (page_in_rows n bytes)) (rows-old bytes old)

  module _ (taken : read_answer bytes ≡ Ok tt) where
    old-taken : read_answer_for old_rows bytes ≡ Ok tt
    unfolding old_answer
    old-taken = sym as-old-reader ∙ taken

    old-whole : WholeFor old_rows (old_page_in bytes)
    unfolding old_page_in
    old-whole = whole-read-for old_rows bytes old-taken

    -- an old record gives row 24 as spaces marked never
    pub old-row-24 : (drop old_count (page_in bytes).cells.characters ≡ replicate columns space) × (drop old_count (page_in bytes).cells.marks ≡ replicate columns never)
    old-row-24 =
        let row = row-24 (old_page_in bytes) old-whole in
        (ap (λ (p : Page). drop old_count p.cells.characters) as-old-page ∙ row.0, ap (λ (p : Page). drop old_count p.cells.marks) as-old-page ∙ row.1)

    -- and encoded in the old form again it is the same bytes
    pub old-record-back : AreBytes bytes → old_record_of (page_in bytes) ≡ bytes
    unfolding old_record_of old_page_in
    old-record-back are =
        ap (λ (p : Page). record_for old_rows (first_rows p)) as-old-page
        ∙ (ap (record_for old_rows) (first_rows_here (old_page_in bytes) old-whole) ∙ record-back-for old_rows bytes old-taken are)

    -- but the writer makes a new record of it: only new bytes come back the same
    pub old-not-back : record_of (page_in bytes) ≡ bytes → ⊥
    old-not-back same = omega (arith, old, length_record (page_in bytes), ap length same)

-- ---- no third form

module _ (bytes : List ℕ) (are : AreBytes bytes) (taken : read_answer bytes ≡ Ok tt) where
  -- what the reader takes is its page's record in the new form, or in the old one
  pub no-third-form : (record_of (page_in bytes) ≡ bytes) ⊎ (old_record_of (page_in bytes) ≡ bytes)
  no-third-form = by (ℕ_discrete (length bytes) old_length)
    where
      by : Dec (length bytes ≡ old_length) → (record_of (page_in bytes) ≡ bytes) ⊎ (old_record_of (page_in bytes) ≡ bytes)
      by (yes old) = inr (old-record-back bytes old taken are)
      by (no new) = inl (record-back bytes taken (new-length bytes taken new) are)

  -- that is, of a lawful page of 25 rows, or of one of 24
  pub taken-is-written : WrittenFor rows bytes ⊎ WrittenFor old_rows bytes
  taken-is-written = by (ℕ_discrete (length bytes) old_length)
    where
      by : Dec (length bytes ≡ old_length) → WrittenFor rows bytes ⊎ WrittenFor old_rows bytes
      by (yes old) = inr (taken-is-written-for old_rows bytes are (old-taken bytes old taken))
      by (no new) = inl (taken-is-written-for rows bytes are (new-taken bytes taken (new-length bytes taken new)))

-- and every such record is taken
pub written_is_taken : (bytes : List ℕ) → WrittenFor rows bytes → read_answer bytes ≡ Ok tt
unfolding read_answer
written_is_taken bytes w =
    let long = sym (ap length w.1.2) ∙ length-record-for rows w.0 in
    ap (λ (n : ℕ). read_answer_for n bytes) (new_form bytes long) ∙ written-is-taken-for rows bytes w

pub old_is_taken : (bytes : List ℕ) → WrittenFor old_rows bytes → read_answer bytes ≡ Ok tt
unfolding old_answer
old_is_taken bytes w =
    let long = sym (ap length w.1.2) ∙ length-record-for old_rows w.0 in
    as-old-reader bytes long ∙ written-is-taken-for old_rows bytes w

-- ---- the old reader refuses a new record by 20

pub old_reader_refuses : (page : Page) → read_paper (old_answer (record_of page)) ≡ refused_by 20 []
unfolding old_answer read_paper
old_reader_refuses page =
    ap read_paper (answer_otherwise old_rows (record_of page) (λ e. omega (arith, e, length_record page)))
