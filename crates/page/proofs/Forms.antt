-- A record of any number of rows is its head, and then its cells: written and read.
use mathlib.Core.Path.{◌≡◌, refl, ◌∙◌, ap, sym}
use mathlib.Core.Bool.{Bool, true}
use mathlib.Core.List.{List, ◌++◌}
use Prim.Native.Nat.{ℕ, ◌+◌, ◌*◌}
use native.Mathlib.Omega.{arith}
use lib.ListN.{length, length-drop, take, drop, take-append-drop}
use lib.Seq.{length-take-le}
use Rattle.laws.specs.Fields.{bits_of, bytes_of, fields_bits, fields_of, total}
use Rattle.laws.proofs.Fields.{
  Fit,
  bits_of_append,
  bits_of_bits,
  bits_of_bytes_append,
  bytes_append,
  fields_fit,
  fields_of_append,
  length_bits,
  length_bits_of,
  length_bytes,
  length_fields,
  total_append,
}
use Rattle.laws.proofs.Tabulated.{tabulated}
use Rattle.grid.specs.Grid.{columns}
use Rattle.packet.specs.declared.Header.{Header}
use Rattle.packing.specs.Cells.{cell_bytes, cell_fields, cell_values, cell_widths}
use Rattle.packing.proofs.Splits.{total_widths}
use Rattle.packing.proofs.Values.{fit_characters, fit_marks}
use Rattle.page.specs.Lawful.{cells_fit}
use Rattle.page.specs.Private.{head_bytes, head_fields, head_from}
use Rattle.page.specs.Reading.{page_in_rows}
use Rattle.page.specs.Records.{
  cells_from,
  code_from,
  head_length,
  head_values,
  head_widths,
  page_from,
  page_of,
  record_for,
  record_length_of,
  record_widths_of,
  row_code,
  row_length,
  values_in,
  values_of,
}
use Rattle.page.specs.declared.Cells.{Cells}
use Rattle.page.specs.declared.Page.{Page}
use Rattle.page.specs.declared.reading.Head.{Head}

-- ---- the head

-- how many values a head has
abbrev pub head_count : ℕ
head_count = length head_widths

pub length_head : (magazine : ℕ) (header : Header) (clean : Bool) (code : ℕ) → length (head_bytes magazine header clean code) ≡ head_length
unfolding head_bytes
length_head magazine header clean code = length_bytes head_length (fields_bits head_widths (head_values magazine header clean code))

pub length_head_fields : (bytes : List ℕ) → length (head_fields bytes) ≡ head_count
unfolding head_fields
length_head_fields bytes = length_fields head_widths (bits_of bytes)

-- no value of a head that is read is too large for its bits
pub head_fields_fit : (bytes : List ℕ) → length bytes ≡ head_length → Fit head_widths (head_fields bytes)
unfolding head_fields total
head_fields_fit bytes l =
    fields_fit head_widths (bits_of bytes) (bits_of_bits bytes) (length_bits_of bytes ∙ ap (λ (k : ℕ). 8 * k) l)

-- a page of its head and its cells
abbrev pub headed : Head → Cells → Page
headed head cells = page_of head.magazine head.header head.clean cells

page_split : (head cells : List ℕ) → length head ≡ head_count → page_from (head ++ cells) ≡ headed (head_from head) (cells_from cells)
unfolding page_from head_from
page_split head cells e =
    ap (λ (xs : List ℕ). page_from (xs ++ cells)) (tabulated head_count head e)
    ∙ ap (λ (xs : List ℕ). headed (head_from xs) (cells_from cells)) (sym (tabulated head_count head e))

code_split : (head cells : List ℕ) → length head ≡ head_count → code_from (head ++ cells) ≡ (head_from head).code
unfolding code_from head_from
code_split head cells e =
    ap (λ (xs : List ℕ). code_from (xs ++ cells)) (tabulated head_count head e) ∙ ap (λ (xs : List ℕ). (head_from xs).code) (sym (tabulated head_count head e))

-- ---- so many rows

module _ (n : ℕ) where
  pub total-record : total (record_widths_of n) ≡ 8 * record_length_of n
  unfolding record_widths_of total
  total-record =
      total_append head_widths (cell_widths (n * columns)) ∙ (ap (λ (k : ℕ). total head_widths + k) (total_widths (n * columns)) ∙ omega arith)

  pub length-record-for : (page : Page) → length (record_for n page) ≡ record_length_of n
  unfolding record_for
  length-record-for page = length_bytes (record_length_of n) (fields_bits (record_widths_of n) (values_of n page))

  -- written
  pub record-split : (page : Page) → record_for n page
      ≡ head_bytes page.magazine page.header page.clean (row_code n) ++ cell_bytes (n * columns) (n * row_length) page.cells.marks page.cells.characters
  unfolding record_for head_bytes cell_bytes total
  record-split page =
      let head = head_values page.magazine page.header page.clean (row_code n) in
      let cells = cell_values page.cells.marks page.cells.characters in
      ap (bytes_of (record_length_of n)) (bits_of_append head_widths head (cell_widths (n * columns)) cells refl)
      ∙ bytes_append head_length (n * row_length) (fields_bits head_widths head) (fields_bits (cell_widths (n * columns)) cells) (length_bits head_widths head refl)

  -- no cell that is read is too large for its bits
  pub cells_fit_here : (bytes : List ℕ) → length bytes ≡ n * row_length → cells_fit (cells_from (cell_fields (n * columns) bytes)) ≡ true
  unfolding cells_fit cells_from cell_fields
  cells_fit_here bytes l =
      let fit : Fit (cell_widths (n * columns)) (cell_fields (n * columns) bytes) =
      fields_fit (cell_widths (n * columns)) (bits_of bytes) (bits_of_bits bytes)
      (length_bits_of bytes ∙ (ap (λ (k : ℕ). 8 * k) l ∙ (omega (arith, total_widths (n * columns))))) in
      rw (fit_marks (n * columns) (cell_fields (n * columns) bytes) fit, fit_characters (n * columns) (cell_fields (n * columns) bytes) fit)

  -- read
  module _ (bytes : List ℕ) (whole : length bytes ≡ record_length_of n) where
    abbrev pub head_in : List ℕ
    head_in = head_fields (take head_length bytes)

    abbrev pub cells_in : List ℕ
    cells_in = cell_fields (n * columns) (drop head_length bytes)

    pub length_front : length (take head_length bytes) ≡ head_length
    length_front = length-take-le head_length bytes (omega arith)

    pub length_back : length (drop head_length bytes) ≡ n * row_length
    length_back = length-drop head_length bytes ∙ omega arith

    pub values-split : values_in n bytes ≡ head_in ++ cells_in
    unfolding values_in record_widths_of head_fields cell_fields total
    values-split =
        ap (λ (xs : List ℕ). fields_of (head_widths ++ cell_widths (n * columns)) (bits_of xs)) (sym (take-append-drop head_length bytes))
        ∙ (ap (fields_of (head_widths ++ cell_widths (n * columns))) (bits_of_bytes_append (take head_length bytes) (drop head_length bytes))
        ∙ fields_of_append head_widths (cell_widths (n * columns)) (bits_of (take head_length bytes)) (bits_of (drop head_length bytes))
        (length_bits_of (take head_length bytes) ∙ ap (λ (k : ℕ). 8 * k) length_front))

    pub page_is : page_in_rows n bytes ≡ headed (head_from head_in) (cells_from cells_in)
    unfolding page_in_rows
    page_is = ap page_from values-split ∙ page_split head_in cells_in (length_head_fields (take head_length bytes))

    pub code_is : code_from (values_in n bytes) ≡ (head_from head_in).code
    code_is = ap code_from values-split ∙ code_split head_in cells_in (length_head_fields (take head_length bytes))
