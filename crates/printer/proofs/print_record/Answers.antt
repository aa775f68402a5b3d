-- `printer::print_record` meets its contract: by what the reader gives, the page or one line.
use mathlib.Core.Path.{◌≡◌, sym, ◌∙◌, ap}
use lib.ListN.{length}
use Rattle.std.specs.Prelude.{Result, Ok, is_ok}
use Rattle.laws.specs.Text.{refused_text}
use Rattle.page.specs.Reading.{page_given, read_paper}
use Rattle.page.specs.declared.Page.{Page}
use Rattle.page.specs.declared.ReadError.{ReadError}
use Rattle.printer.specs.Output.{output}
use Rattle.printer.proofs.Parts.{printed_out, refusal_out}
use Rattle.printer.proofs.print_record.Goals as goal
use Rattle.printer.proofs.print_record.Goals.{After-printed_page, After-refused_text}
use Rattle.printer.proofs.print_record.Given.{Over}

-- what is in an answer is one thing
in_both : {A E : Type 0} {answer : Result A E} {a b : A} → answer ≡ Ok a → answer ≡ Ok b → a ≡ b
in_both e f = cc

-- the page that was read, as the output
page-out : (g : Over) (c : After-printed_page g) → c.printed_page.result ≡ Ok (output c.args.«record».now)
page-out g c =
    printed_out _ c.in-Ok.page (ap (λ (r : Result Page ReadError). read_paper r) (sym c.in-Ok.is) ∙ c.read_record.ensures.answer)
    (ap page_given (sym c.in-Ok.is) ∙ c.read_record.ensures.beside) c.printed_page.result c.printed_page.ensures.result_value

-- and a refusal
line-out : (g : Over) (c : After-refused_text g) → c.refused_text.result ≡ output c.args.«record».now
line-out g c =
    c.refused_text.ensures
    ∙ (ap refused_text c.number.ensures ∙ refusal_out _ _ (ap (λ (r : Result Page ReadError). read_paper r) (sym c.in-Err.is) ∙ c.read_record.ensures.answer))

pub unwrap-text-requires : goal.unwrap-text-requires
unwrap-text-requires g c = ap is_ok (page-out g c)

pub print-requires : goal.print-requires
print-requires g c = in_both c.unwrap-text.ensures (page-out g (goal.at.print-requires g c).After-printed_page)

pub print-requires-in-Err : goal.print-requires-in-Err
print-requires-in-Err g c = line-out g (goal.at.print-requires-in-Err g c).After-refused_text

pub returns-in-Ok : goal.returns-in-Ok
returns-in-Ok g c = c.print.ensures ∙ ap length (in_both c.unwrap-text.ensures (page-out g (goal.at.returns-in-Ok g c).After-printed_page))

pub returns-in-Err : goal.returns-in-Err
returns-in-Err g c = c.print-in-Err.ensures ∙ ap length (line-out g (goal.at.returns-in-Err g c).After-refused_text)
