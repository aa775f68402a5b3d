-- The output and what is said of the letters, by the reader's answer.
use mathlib.Core.Path.{◌≡◌, refl, sym, ◌∙◌, ap}
use mathlib.Core.Bool.{Bool, true, false, cond}
use mathlib.Core.List.{List, []}
use mathlib.Core.Option.{Option, some}
use Prim.Native.Nat.{ℕ, ◌+◌, ◌≤◌}
use native.Mathlib.Omega.{arith}
use lib.ListN.{length}
use Rattle.std.specs.Prelude.{Result, Err}
use Rattle.laws.specs.Paper.{Paper, refused_by}
use Rattle.laws.specs.Text.{refused_text}
use Rattle.letters.specs.Said.{stand_in_size, stand_in_text}
use Rattle.letters.specs.Sets.{stands_in}
use Rattle.page.specs.Reading.{page_read, read_answer, read_number, read_paper}
use Rattle.page.specs.declared.Page.{Page}
use Rattle.page.specs.declared.ReadError.{ReadError}
use Rattle.page.specs.declared.ReadError.TheVariants.{WrongLength, WrongRowCode, BadDigit, UnlawfulCells}
use Rattle.printing.specs.Letters.{utf8_page_text}
use Rattle.printer_utf8.specs.Output.{complaint, complaint_of, english_line, number_of, output, output_of, written}

-- never more than a line
pub english_length : (english : Bool) (control : ℕ) → length (cond english (english_line control) []) ≤ stand_in_size + 1
unfolding stand_in_text
english_length true control = omega arith
english_length false control = omega arith

-- a page that was read
module _ (input : List ℕ) (read : number_of input ≡ some 0) where
  abbrev page : Page
  page = page_read input

  pub page-output : utf8_page_text page.header.control page.cells.characters ≡ output input
  unfolding output output_of
  page-output = ap (λ (number : Option ℕ). output_of number (page_read input)) (sym read)

  pub page-complaint : cond (stands_in page.header.control) (english_line page.header.control) [] ≡ complaint input
  unfolding complaint complaint_of
  page-complaint = ap (λ (number : Option ℕ). complaint_of number (page_read input).header.control) (sym read)

-- all of it, by what the reader gives
module _ (input : List ℕ) (given : Result Page ReadError) (is : read_paper given ≡ read_paper (read_answer input)) where
  pub number_in : number_of input ≡ (read_paper given).number
  unfolding number_of
  number_in = ap (λ (paper : Paper). paper.number) (sym is)

  output_in : output_of (read_paper given).number (page_read input) ≡ output input
  unfolding output
  output_in = ap (λ (number : Option ℕ). output_of number (page_read input)) (sym number_in)

  written_in : length (complaint_of (read_paper given).number (page_read input).header.control) + length (output_of (read_paper given).number (page_read input)) ≡ written input
  unfolding written complaint
  written_in =
      let complaints = ap (λ (number : Option ℕ). complaint_of number (page_read input).header.control) (sym number_in) in
      λ i. length (complaints i) + length (output_in i)

-- a refusal's line is the output, and all that is written
module _ (input : List ℕ) (error : ReadError) (is : read_paper {A = Page} (Err error) ≡ read_paper (read_answer input)) where
  pub refusal_out : refused_text (read_number error) ≡ output input
  unfolding output_of read_number read_paper refused_by
  refusal_out = sym (line error) ∙ output_in input (Err error) is
    where
      line : (error : ReadError) → output_of (some (read_number error)) (page_read input) ≡ refused_text (read_number error)
      line WrongLength = refl
      line WrongRowCode = refl
      line BadDigit = refl
      line UnlawfulCells = refl

  pub refusal_written : length (refused_text (read_number error)) ≡ written input
  unfolding output_of complaint_of read_number read_paper refused_by
  refusal_written = sym (line error) ∙ written_in input (Err error) is
    where
      line : (error : ReadError) → length (complaint_of (some (read_number error)) (page_read input).header.control) + length (output_of (some (read_number error)) (page_read input))
          ≡ length (refused_text (read_number error))
      line WrongLength = refl
      line WrongRowCode = refl
      line BadDigit = refl
      line UnlawfulCells = refl
