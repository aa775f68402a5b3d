-- The output, by what the reader gives.
use mathlib.Core.Path.{◌≡◌, refl, sym, ◌∙◌, ap}
use mathlib.Core.Bool.{true}
use mathlib.Core.List.{List}
use mathlib.Core.Option.{Option, none, some}
use Prim.Native.Nat.{ℕ}
use native.Mathlib.Omega.{arith}
use Rattle.std.specs.Prelude.{Result, Ok, Err}
use Rattle.laws.specs.Paper.{Paper, accepted, refused_by}
use Rattle.laws.specs.Text.{refused_text}
use Rattle.display.specs.Pages.{display_answer_paper, is_page}
use Rattle.display.specs.declared.NotAPage.{NotAPage}
use Rattle.page.specs.Reading.{read_answer, read_number, read_paper, page_given, page_read}
use Rattle.page.specs.declared.Page.{Page}
use Rattle.page.specs.declared.ReadError.{ReadError}
use Rattle.page.specs.declared.ReadError.TheVariants.{WrongLength, WrongRowCode, BadDigit, UnlawfulCells}
use Rattle.printing.specs.Pages.{bytes_beside, page_paper, page_text, printed_page}
use Rattle.printing.specs.Printed.{Printed}
use Rattle.printing.proofs.Shown.{page_shown}
use Rattle.printing.proofs.Read as read
use Rattle.printer.specs.Output.{output_of, output}

module _ (input : List ℕ) where
  -- a page that was read is never refused by 25, and its text is the output
  module _ (page : Page) (is : read_paper (Ok page) ≡ read_paper (read_answer input)) (same : page_given (Ok page) ≡ page_read input) where
    text_out : page_text page.cells.characters ≡ output input
    unfolding output output_of read_paper accepted page_given
    text_out = ap (λ (p : Page). page_text p.cells.characters) same ∙ ap (λ (p : Paper). output_of p.number (page_read input).cells.characters) is

    shown : is_page page.cells.characters ≡ true
    unfolding page_given
    shown = ap (λ (p : Page). is_page p.cells.characters) same ∙ read.page_shown input

    pub printed_out : (answer : Result (List ℕ) NotAPage) → page_paper answer ≡ printed_page page.cells.characters → answer ≡ Ok (output input)
    unfolding page_paper display_answer_paper bytes_beside accepted refused_by
    printed_out (Ok text) told = ap Ok (ap (λ (p : Printed). p.bytes) (told ∙ page_shown page.cells.characters shown) ∙ text_out)
    printed_out (Err refusal) told = absurd (omega (arith, ap (λ (p : Printed). number_in p.answer.number) (told ∙ page_shown page.cells.characters shown)))
      where
        number_in : Option ℕ → ℕ
        number_in none = 0
        number_in (some number) = number

  -- a refusal's line is the output
  pub refusal_out : (error : ReadError) → read_paper {A = Page} (Err error) ≡ read_paper (read_answer input) → refused_text (read_number error) ≡ output input
  unfolding output output_of read_number read_paper refused_by
  refusal_out error is = sym (line error) ∙ ap (λ (p : Paper). output_of p.number (page_read input).cells.characters) is
    where
      line : (error : ReadError) → output_of (some (read_number error)) (page_read input).cells.characters ≡ refused_text (read_number error)
      line WrongLength = refl
      line WrongRowCode = refl
      line BadDigit = refl
      line UnlawfulCells = refl
