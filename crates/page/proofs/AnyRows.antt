-- There and back, for records of any number of rows: a page that is written is read back, and a record that is read is written with the same bytes.
use mathlib.Core.Path.{◌≡◌, refl, ◌∙◌, ap, subst, sym}
use mathlib.Core.Bool.{Bool, true, false, cond, ◌&&◌}
use mathlib.Core.List.{List, [], ◌∷◌, ◌++◌}
use Prim.Native.Nat.{ℕ, ◌+◌, ◌*◌, ◌-◌, ◌≤◌, ◌<◌}
use native.Mathlib.Nat.{zero-lt-suc, mod-lt}
use native.Mathlib.Omega.{arith}
use borrow.Author.Tests.{eq-eqb, eqb-true, leb-true}
use lib.Dec.{T, eqb, leb}
use lib.ListN.{length, get_or, take, drop}
use Rattle.std.specs.Prelude.{Result, Ok, Err, ⊤}
use Rattle.laws.specs.Below.{all_below}
use Rattle.laws.specs.Every.{every}
use Rattle.laws.specs.Fields.{bits_of, bytes_of, fields_bits, fields_of, fits}
use Rattle.laws.proofs.Below.{at, equal_at}
use Rattle.laws.proofs.Bools.{both_true, passed}
use Rattle.laws.proofs.Fields.{
  AreBytes,
  Fit,
  bits_back,
  bits_of_bits,
  bits_of_bytes,
  bytes_are_bytes,
  bytes_of_bits,
  fields_back,
  fields_bits_law,
  fit_append,
  fit_length,
  fit_tested,
  length_bits,
  length_bits_of,
  tested_fit,
}
use Rattle.laws.proofs.Table.{tabulate}
use Rattle.laws.proofs.Tabulated.{tabulated}
use Rattle.grid.specs.Grid.{columns}
use Rattle.packet.specs.Headers.{header_values}
use Rattle.packing.specs.Cells.{cell_fields, cell_values, cell_widths, character_width, mark_width}
use Rattle.packing.proofs.Splits.{length_cell_fields, length_characters, length_marks}
use Rattle.packing.proofs.Values.{cells_there, characters_back, fit_cells, marks_back}
use Rattle.page.specs.Lawful.{cells_fit, cells_lawful, digits_lawful, header_fits, magazine_fits, page_fits}
use Rattle.page.specs.Private.{head_from}
use Rattle.page.specs.Reading.{page_in_rows, read_answer_for}
use Rattle.page.specs.Records.{
  cells_from,
  cells_of,
  code_from,
  head_length,
  head_values,
  head_widths,
  header_widths,
  magazine_from,
  magazine_value,
  old_rows,
  page_from,
  record_for,
  record_length_of,
  record_widths_of,
  row_code,
  values_in,
  values_of,
}
use Rattle.page.specs.Writing.{page_answer}
use Rattle.page.specs.declared.Cells.{Cells}
use Rattle.page.specs.declared.Page.{Page}
use Rattle.page.specs.declared.ReadError.{ReadError}
use Rattle.page.specs.declared.ReadError.TheVariants as read
use Rattle.page.specs.declared.WriteError.{WriteError}
use Rattle.page.specs.declared.WriteError.TheVariants.{TooLarge, BadDigit, UnlawfulCells}
use Rattle.page.proofs.Forms.{
  cells_fit_here,
  cells_in,
  code_is,
  head_fields_fit,
  head_count,
  head_in,
  headed,
  length_back,
  length_front,
  length_head_fields,
  length-record-for,
  page_is,
  total-record,
  values-split,
}

-- cells of so many rows, and a page of them
abbrev pub CellsFor : ℕ → Cells → Type 0
CellsFor n cells = (length cells.characters ≡ n * columns) × (length cells.marks ≡ n * columns)

abbrev pub WholeFor : ℕ → Page → Type 0
WholeFor n page = CellsFor n page.cells

-- as are read from any bytes
pub whole_cells : (n : ℕ) (bytes : List ℕ) → CellsFor n (cells_from (cell_fields (n * columns) bytes))
unfolding cells_from
whole_cells n bytes =
    let values = cell_fields (n * columns) bytes in
    let long = length_cell_fields (n * columns) bytes in
    (length_characters (n * columns) values long, length_marks (n * columns) values long)

-- ---- the parts, there and back

magazine_there : (value : ℕ) → value < 8 → magazine_value (magazine_from value) ≡ value
unfolding all_below magazine_value magazine_from
magazine_there value h = equal_at 8 (λ k. magazine_value (magazine_from k)) (λ k. k) tt value h

magazine_back : (magazine : ℕ) → 1 ≤ magazine → magazine ≤ 8 → magazine_from (magazine_value magazine) ≡ magazine
unfolding all_below magazine_value magazine_from
magazine_back magazine low high =
    let same : (magazine - 1) + 1 ≡ magazine = omega arith in
    subst (λ (m : ℕ). magazine_from (magazine_value m) ≡ m) same
    (equal_at 8 (λ k. magazine_from (magazine_value (k + 1))) (λ k. k + 1) tt (magazine - 1) (omega arith))

clean_there : (value : ℕ) → value < 2 → cond (eqb value 1) 1 0 ≡ value
unfolding all_below
clean_there value h = equal_at 2 (λ k. cond (eqb k 1) 1 0) (λ k. k) tt value h

clean_back : (clean : Bool) → eqb (cond clean 1 0) 1 ≡ clean
clean_back true = refl
clean_back false = refl

-- ---- what an answer shows

module _ (page : Page) (taken : page_answer page ≡ Ok tt) where
  by_answer : (f d l : Bool) → ◌≡◌ {A = Result ⊤ WriteError} (cond f (cond d (cond l (Ok tt) (Err UnlawfulCells)) (Err BadDigit)) (Err TooLarge)) (Ok tt) → (f ≡ true) × (d ≡ true) × (l ≡ true)
  by_answer true true true e = (refl, refl, refl)
  by_answer true true false e = absurd (cc)
  by_answer true false l e = absurd (cc)
  by_answer false d l e = absurd (cc)

  pub shown : (page_fits page ≡ true) × (digits_lawful page.header ≡ true) × (cells_lawful page.cells ≡ true)
  unfolding page_answer
  shown = by_answer (page_fits page) (digits_lawful page.header) (cells_lawful page.cells) taken

by_read : (w z d l : Bool)
    → ◌≡◌ {A = Result ⊤ ReadError} (cond w (cond z (cond d (cond l (Ok tt) (Err read.UnlawfulCells)) (Err read.BadDigit)) (Err read.WrongRowCode)) (Err read.WrongLength)) (Ok tt)
    → (w ≡ true) × (z ≡ true) × (d ≡ true) × (l ≡ true)
by_read true true true true e = (refl, refl, refl, refl)
by_read true true true false e = absurd (cc)
by_read true true false l e = absurd (cc)
by_read true false d l e = absurd (cc)
by_read false z d l e = absurd (cc)

clean_fits : (clean : Bool) → cond clean 1 0 < 2
clean_fits true = omega arith
clean_fits false = omega arith

-- a row code is 0 or 1, and fits its bits
one_or_none_law : (old : Bool) → cond old 0 1 ≤ 1
one_or_none_law true = omega arith
one_or_none_law false = omega arith

pub code_at_most_1 : (n : ℕ) → row_code n ≤ 1
code_at_most_1 n = one_or_none_law (eqb n old_rows)

code_fits : (n : ℕ) → row_code n < 16
code_fits n = omega (arith, code_at_most_1 n)

magazine_fits_law : (value : ℕ) → value < 8 → magazine_fits (magazine_from value) ≡ true
unfolding all_below magazine_fits magazine_from
magazine_fits_law value h =
    let test = at 8 (λ k. magazine_fits (magazine_from k)) tt value h in passed (magazine_fits (magazine_from value)) test

module _ (n : ℕ) where
  -- ---- a page that is written

  module _ (page : Page) (whole : WholeFor n page) (taken : page_answer page ≡ Ok tt) where
    abbrev head : List ℕ
    head = head_values page.magazine page.header page.clean (row_code n)

    abbrev cells : List ℕ
    cells = cell_values page.cells.marks page.cells.characters

    pub parts : (magazine_fits page.magazine ≡ true) × (header_fits page.header ≡ true) × (cells_fit page.cells ≡ true)
    unfolding page_fits
    parts =
        let one = both_true (magazine_fits page.magazine) (header_fits page.header && cells_fit page.cells) (shown page taken).0 in
        let two = both_true (header_fits page.header) (cells_fit page.cells) one.1 in
        (one.0, two.0, two.1)

    pub magazine-in : (1 ≤ page.magazine) × (page.magazine ≤ 8)
    unfolding magazine_fits
    magazine-in =
        let ends = both_true (leb 1 page.magazine) (leb page.magazine 8) parts.0 in
        (leb-true 1 page.magazine ends.0, leb-true page.magazine 8 ends.1)

    pub fit-header : Fit header_widths (header_values page.header)
    unfolding header_fits
    fit-header = fit_tested header_widths (header_values page.header) (subst T (sym parts.1) tt)

    fit-head : Fit head_widths head
    unfolding head_values magazine_value
    fit-head = (
      mod-lt page.magazine (zero-lt-suc 7),
      fit_append header_widths (header_values page.header) (1 ∷ 4 ∷ []) (cond page.clean 1 0 ∷ row_code n ∷ []) fit-header (clean_fits page.clean, (code_fits n, tt)),
    )

    -- none of its values is too large
    fit-values : Fit (record_widths_of n) (values_of n page)
    unfolding record_widths_of values_of cells_fit
    fit-values =
        let fit = both_true (every (fits mark_width) page.cells.marks) (every (fits character_width) page.cells.characters) parts.2 in
        fit_append head_widths head (cell_widths (n * columns)) cells fit-head
        (fit_cells (n * columns) page.cells.marks page.cells.characters whole.1 whole.0 (subst T (sym fit.0) tt) (subst T (sym fit.1) tt))

    bits-whole : length (fields_bits (record_widths_of n) (values_of n page)) ≡ 8 * record_length_of n
    bits-whole = length_bits (record_widths_of n) (values_of n page) (fit_length (record_widths_of n) (values_of n page) fit-values) ∙ total-record n

    pub record-bytes-for : AreBytes (record_for n page)
    unfolding record_for
    record-bytes-for =
        bytes_are_bytes (record_length_of n) (fields_bits (record_widths_of n) (values_of n page)) (fields_bits_law (record_widths_of n) (values_of n page)) bits-whole

    -- its values are read back
    values-back : values_in n (record_for n page) ≡ values_of n page
    unfolding values_in record_for
    values-back =
        ap (fields_of (record_widths_of n))
        (bits_of_bytes (record_length_of n) (fields_bits (record_widths_of n) (values_of n page)) (fields_bits_law (record_widths_of n) (values_of n page)) bits-whole)
        ∙ fields_back (record_widths_of n) (values_of n page) fit-values

    page_back_law : page_from (values_of n page) ≡ page
    unfolding values_of head_values header_values page_from
    page_back_law =
        let same = whole.1 ∙ sym whole.0 in
        λ i. record {
          magazine = magazine_back page.magazine magazine-in.0 magazine-in.1 i;
          header = page.header;
          clean = clean_back page.clean i;
          cells = cells_of (characters_back page.cells.marks page.cells.characters same i)
              (marks_back page.cells.marks page.cells.characters same i);
        }

    -- and so is the page
    pub in-record-for : page_in_rows n (record_for n page) ≡ page
    unfolding page_in_rows
    in-record-for = ap page_from values-back ∙ page_back_law

    code-back : eqb (code_from (values_in n (record_for n page))) (row_code n) ≡ true
    unfolding code_from values_of head_values header_values
    code-back = eq-eqb _ _ (ap code_from values-back)

    pub reads-written-for : read_answer_for n (record_for n page) ≡ Ok tt
    unfolding read_answer_for
    reads-written-for =
        let long = eq-eqb (length (record_for n page)) (record_length_of n) (length-record-for n page) in
        let digits = ap (λ (p : Page). digits_lawful p.header) in-record-for ∙ (shown page taken).1 in
        let lawful = ap (λ (p : Page). cells_lawful p.cells) in-record-for ∙ (shown page taken).2 in
        λ i. cond (long i) (cond (code-back i) (cond (digits i) (cond (lawful i) (Ok tt) (Err read.UnlawfulCells)) (Err read.BadDigit)) (Err read.WrongRowCode)) (Err read.WrongLength)

  -- ---- a record that is read

  -- the values of the page of a head's values and the cells'
  values-there : (head cells : List ℕ) → length head ≡ head_count → Fit head_widths head → (head_from head).code ≡ row_code n → length cells ≡ 2 * (n * columns)
      → values_of n (headed (head_from head) (cells_from cells)) ≡ head ++ cells
  unfolding values_of head_values header_values head_from cells_from
  values-there head cells e fit z l =
      let ten = tabulated head_count head e in
      let each : Fit head_widths (tabulate (λ k. get_or head k 0) 0 head_count) = subst (Fit head_widths) ten fit in
      (λ i.
      magazine_there (get_or head 0 0) each.0 i ∷ get_or head 1 0 ∷ get_or head 2 0 ∷ get_or head 3 0 ∷ get_or head 4 0 ∷ get_or head 5 0 ∷ get_or head 6 0 ∷ get_or head 7 0
      ∷ clean_there (get_or head 8 0) each.1.1.1.1.1.1.1.1.0 i ∷ sym z i ∷ cells_there (n * columns) cells l i)
      ∙ ap (λ (xs : List ℕ). xs ++ cells) (sym ten)

  head-fits : (head : List ℕ) → length head ≡ head_count → Fit head_widths head
      → (magazine_fits (head_from head).magazine ≡ true) × (header_fits (head_from head).header ≡ true)
  unfolding head_from header_fits header_values
  head-fits head e fit =
      let each : Fit head_widths (tabulate (λ k. get_or head k 0) 0 head_count) = subst (Fit head_widths) (tabulated head_count head e) fit in
      let digits = each.1 in
      let times = digits.1.1 in (
        magazine_fits_law (get_or head 0 0) each.0,
        tested_fit header_widths (tabulate (λ k. get_or head k 0) 1 (length header_widths))
            (digits.0, (digits.1.0, (times.0, (times.1.0, (times.1.1.0, (times.1.1.1.0, (times.1.1.1.1.0, tt))))))),
      )

  module _ (bytes : List ℕ) (taken : read_answer_for n bytes ≡ Ok tt) where
    abbrev Lawful : Type 0
    Lawful =
        (eqb (length bytes) (record_length_of n) ≡ true) × (eqb (code_from (values_in n bytes)) (row_code n) ≡ true)
        × (digits_lawful (page_in_rows n bytes).header ≡ true) × (cells_lawful (page_in_rows n bytes).cells ≡ true)

    read-shown : Lawful
    unfolding read_answer_for
    read-shown =
        by_read (eqb (length bytes) (record_length_of n)) (eqb (code_from (values_in n bytes)) (row_code n)) (digits_lawful (page_in_rows n bytes).header)
        (cells_lawful (page_in_rows n bytes).cells) taken

    pub read-whole-for : length bytes ≡ record_length_of n
    read-whole-for = eqb-true (length bytes) (record_length_of n) read-shown.0

    abbrev in_head : List ℕ
    in_head = head_in n bytes read-whole-for

    abbrev in_cells : List ℕ
    in_cells = cells_in n bytes read-whole-for

    page_of_law : page_in_rows n bytes ≡ headed (head_from in_head) (cells_from in_cells)
    page_of_law = page_is n bytes read-whole-for

    length-cells : length in_cells ≡ 2 * (n * columns)
    length-cells = length_cell_fields (n * columns) (drop head_length bytes)

    head-fit : Fit head_widths in_head
    head-fit = head_fields_fit (take head_length bytes) (length_front n bytes read-whole-for)

    length-in-head : length in_head ≡ head_count
    length-in-head = length_head_fields (take head_length bytes)

    values-of : values_of n (page_in_rows n bytes) ≡ values_in n bytes
    values-of =
        let code = sym (code_is n bytes read-whole-for) ∙ eqb-true (code_from (values_in n bytes)) (row_code n) read-shown.1 in
        ap (values_of n) page_of_law ∙ (values-there in_head in_cells length-in-head head-fit code length-cells ∙ sym (values-split n bytes read-whole-for))

    pub whole-read-for : WholeFor n (page_in_rows n bytes)
    whole-read-for = (
      ap (λ (p : Page). length p.cells.characters) page_of_law ∙ (whole_cells n (drop head_length bytes)).0,
      ap (λ (p : Page). length p.cells.marks) page_of_law ∙ (whole_cells n (drop head_length bytes)).1,
    )

    fits_read : page_fits (page_in_rows n bytes) ≡ true
    unfolding page_fits
    fits_read =
        let fit = head-fits in_head length-in-head head-fit in
        let m = ap (λ (p : Page). magazine_fits p.magazine) page_of_law ∙ fit.0 in
        let h = ap (λ (p : Page). header_fits p.header) page_of_law ∙ fit.1 in
        let c = ap (λ (p : Page). cells_fit p.cells) page_of_law ∙ cells_fit_here n (drop head_length bytes) (length_back n bytes read-whole-for) in
        λ i. m i && (h i && c i)

    -- the writer takes what was read
    pub writes-read-for : page_answer (page_in_rows n bytes) ≡ Ok tt
    unfolding page_answer
    writes-read-for =
        let digits = read-shown.2 in
        let lawful = read-shown.3 in
        λ i. cond (fits_read i) (cond (digits i) (cond (lawful i) (Ok tt) (Err UnlawfulCells)) (Err BadDigit)) (Err TooLarge)

    -- and writing it gives the same bytes
    pub record-back-for : AreBytes bytes → record_for n (page_in_rows n bytes) ≡ bytes
    unfolding record_for values_in
    record-back-for are =
        let whole = length_bits_of bytes ∙ (ap (λ (k : ℕ). 8 * k) read-whole-for ∙ sym (total-record n)) in
        ap (λ (values : List ℕ). bytes_of (record_length_of n) (fields_bits (record_widths_of n) values)) values-of
        ∙ (ap (bytes_of (record_length_of n)) (bits_back (record_widths_of n) (bits_of bytes) (bits_of_bits bytes) whole)
        ∙ (ap (λ (k : ℕ). bytes_of k (bits_of bytes)) (sym read-whole-for) ∙ bytes_of_bits bytes are))

  -- ---- the reader takes exactly what the writer writes

  -- bytes that the writer writes for some page
  abbrev pub WrittenFor : List ℕ → Type 0
  WrittenFor bytes = (page : Page) × (WholeFor n page × (page_answer page ≡ Ok tt) × (record_for n page ≡ bytes))

  pub taken-is-written-for : (bytes : List ℕ) → AreBytes bytes → read_answer_for n bytes ≡ Ok tt → WrittenFor bytes
  taken-is-written-for bytes are taken =
      (page_in_rows n bytes, (whole-read-for bytes taken, writes-read-for bytes taken, record-back-for bytes taken are))

  pub written-is-taken-for : (bytes : List ℕ) → WrittenFor bytes → read_answer_for n bytes ≡ Ok tt
  written-is-taken-for bytes w =
      ap (read_answer_for n) (sym w.1.2) ∙ reads-written-for w.0 w.1.0 w.1.1

  -- and no two pages have the same bytes
  pub one-page-for : (page page' : Page) → WholeFor n page → WholeFor n page' → page_answer page ≡ Ok tt → page_answer page' ≡ Ok tt
      → record_for n page ≡ record_for n page' → page ≡ page'
  one-page-for page page' w w' a a' e = sym (in-record-for page w a) ∙ (ap (page_in_rows n) e ∙ in-record-for page' w' a')
