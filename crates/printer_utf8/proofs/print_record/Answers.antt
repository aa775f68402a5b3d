-- `printer_utf8::print_record` meets its contract: by what the reader gives, the page or one line.
use mathlib.Core.Path.{◌≡◌, sym, ◌∙◌, ap}
use lib.ListN.{length}
use Rattle.std.specs.Prelude.{Result, Ok, Err}
use Rattle.laws.specs.Paper.{accepted}
use Rattle.laws.specs.Text.{refused_text}
use Rattle.page.specs.Reading.{page_given, read_answer, read_paper}
use Rattle.page.specs.declared.Page.{Page}
use Rattle.page.specs.declared.ReadError.{ReadError}
use Rattle.printer_utf8.specs.Output.{output}
use Rattle.printer_utf8.proofs.Parts.{number_in, refusal_out, refusal_written}
use Rattle.printer_utf8.proofs.print_record.Goals as goal
use Rattle.printer_utf8.proofs.print_record.Goals.{After-refused_text}
use Rattle.printer_utf8.proofs.print_record.Given.{Over}

-- a refusal, and its line
module _ (g : Over) (c : After-refused_text g) where
  refused : read_paper {A = Page} (Err c.in-Err.error) ≡ read_paper (read_answer c.args.«record».now)
  refused = ap (λ (r : Result Page ReadError). read_paper r) (sym c.in-Err.is) ∙ c.read_record.ensures.answer

  line-out : c.refused_text.result ≡ output c.args.«record».now
  line-out = c.refused_text.ensures ∙ (ap refused_text c.number.ensures ∙ refusal_out _ _ refused)

pub print_page-requires : goal.print_page-requires
unfolding page_given read_paper accepted
print_page-requires g c =
    let is = ap (λ (r : Result Page ReadError). read_paper r) (sym c.in-Ok.is) ∙ c.read_record.ensures.answer in
    (ap page_given (sym c.in-Ok.is) ∙ c.read_record.ensures.beside, number_in _ (Ok c.in-Ok.page) is)

pub print-requires : goal.print-requires
print-requires g c = line-out g (goal.at.print-requires g c).After-refused_text

pub returns-in-Err : goal.returns-in-Err
returns-in-Err g c =
    let known = (goal.at.returns-in-Err g c).After-refused_text in
    c.print.ensures ∙ (ap length (c.refused_text.ensures ∙ ap refused_text c.number.ensures) ∙ refusal_written _ _ (refused g known))
