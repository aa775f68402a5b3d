use mathlib.Core.Path.{◌≡◌, ◌∙◌, ap, sym}
use mathlib.Core.Bool.{Bool, true}
use mathlib.Core.List.{List}
use Prim.Native.Nat.{ℕ, ◌*◌, ◌≤◌}
use native.Mathlib.Omega.{arith}
use borrow.Author.Tests.{eq-eqb, ne_eqb}
use lib.Dec.{eqb}
use lib.ListN.{length, drop}
use Rattle.laws.specs.Digits.{binary}
use Rattle.laws.specs.Fields.{bits_of, digits, fields_of}
use Rattle.grid.specs.Grid.{columns, rows}
use Rattle.packing.specs.Cells.{cell_fields}
use Rattle.page.specs.Lawful.{digits_lawful}
use Rattle.page.specs.Private.{head_from, headed_read}
use Rattle.page.specs.Reading.{filled, rows_in}
use Rattle.page.specs.Records.{cells_from, head_length, head_widths, record_length_of, row_code}
use Rattle.page.specs.declared.ReadError.TheVariants.{WrongLength, WrongRowCode, BadDigit}
use Rattle.page.specs.declared.reading.Head.{Head}
use Rattle.page.proofs.Forms.{head_in}
use Rattle.page.proofs.Heads.{values_of_word}
use Rattle.page.proofs.ReaderSteps.{bad-digit, headed-is, refused_is, rows-within, wrong-code, wrong_length_law}
use Rattle.page.proofs.reading.read_record.Goals as goal
use Rattle.page.proofs.reading.read_record.Goals.{After-head_in-head}

-- what the length shows
within : (bytes : List ℕ) (n : ℕ) → n ≡ rows_in bytes → (1 ≤ n) × (n ≤ rows)
within bytes n is = (omega (arith, is, (rows-within bytes).0), omega (arith, is, (rows-within bytes).1))

-- what the head holds
module _ (c : After-head_in-head) where
  whole : length c.args.«record».now ≡ record_length_of c.rows_in-count.result
  whole = c.if-record-count.false

  abbrev head_read : Head
  head_read = head_from (head_in c.rows_in-count.result c.args.«record».now whole)

  head : c.head_in-head.result ≡ head_read
  head =
      let word = c.word_of.ensures ∙ ap (λ (xs : List ℕ). binary (bits_of xs)) c.eight_at.ensures in
      let rows = within c.args.«record».now c.rows_in-count.result c.rows_in-count.ensures in
      c.head_in-head.ensures
      ∙ (ap (λ (k : ℕ). head_from (fields_of head_widths (digits 64 k))) word
      ∙ ap head_from (values_of_word c.args.«record».now (omega (arith, whole, rows.0))))

-- the row code that was read is that of so many rows
code_is : (told read : Head) (code n : ℕ) → told ≡ read → told.code ≡ code → code ≡ row_code n → eqb read.code (row_code n) ≡ true
code_is told read code n same is row = eq-eqb _ _ (ap (λ (k : Head). k.code) (sym same) ∙ (is ∙ row))

-- the digits that were asked are those that were read
digits_are : (told read : Head) (answer : Bool) → told ≡ read → answer ≡ digits_lawful told.header → answer ≡ digits_lawful read.header
digits_are told read answer same is = is ∙ ap (λ (h : Head). digits_lawful h.header) same

pub overflow_mul-count : goal.overflow_mul-count
overflow_mul-count c = record { fits = omega (arith, (within _ _ c.rows_in-count.ensures).1) }

pub overflow_add-count : goal.overflow_add-count
overflow_add-count c = record { fits = omega (arith, (within _ _ c.rows_in-count.ensures).1) }

pub returns-then-record-count : goal.returns-then-record-count
returns-then-record-count c =
    let bytes = c.args.«record».now in
    let right = refused_is bytes WrongLength (wrong_length_law bytes c.rows_in-count.result c.rows_in-count.ensures c.if-record-count.true) in
    record { answer = right.0; beside = right.1 }

pub eight_at-requires : goal.eight_at-requires
eight_at-requires c = omega (arith, c.if-record-count.false, (within _ _ c.rows_in-count.ensures).0)

pub returns-then-head-row_code : goal.returns-then-head-row_code
returns-then-head-row_code c =
    let h = (goal.at.returns-then-head-row_code c).After-head_in-head in
    let bytes = c.args.«record».now in
    let n = c.rows_in-count.result in
    let other = ne_eqb _ _ (λ e. c.if-head-row_code.true (ap (λ (k : Head). k.code) (head h) ∙ (e ∙ sym c.row_code.ensures))) in
    let right = refused_is bytes WrongRowCode (wrong-code bytes n c.rows_in-count.ensures (whole h) other) in
    record { answer = right.0; beside = right.1 }

pub returns-then-not-digits_lawful : goal.returns-then-not-digits_lawful
returns-then-not-digits_lawful c =
    let h = (goal.at.returns-then-not-digits_lawful c).After-head_in-head in
    let bytes = c.args.«record».now in
    let n = c.rows_in-count.result in
    let digits = sym (digits_are _ _ _ (head h) c.digits_lawful.ensures) ∙ c.if-not-digits_lawful.true in
    let code = code_is _ _ _ n (head h) c.if-head-row_code.false c.row_code.ensures in
    let right = refused_is bytes BadDigit (bad-digit bytes n c.rows_in-count.ensures (whole h) code digits) in
    record { answer = right.0; beside = right.1 }

pub with_cells-requires : goal.with_cells-requires
with_cells-requires c = (c.if-record-count.false, (within _ _ c.rows_in-count.ensures).1)

pub returns : goal.returns
returns c =
    let h = (goal.at.returns c).After-head_in-head in
    let bytes = c.args.«record».now in
    let n = c.rows_in-count.result in
    let lawful = sym (digits_are _ _ _ (head h) c.digits_lawful.ensures) ∙ c.if-not-digits_lawful.false in
    let code = code_is _ _ _ n (head h) c.if-head-row_code.false c.row_code.ensures in
    let cells = filled (cells_from (cell_fields (n * columns) (drop head_length bytes))) in
    let right =
    headed-is bytes n c.rows_in-count.ensures (whole h) code lawful
    (c.with_cells.ensures ∙ ap (λ (k : Head). headed_read k cells) (head h)) in
    record { answer = right.0; beside = right.1 }
