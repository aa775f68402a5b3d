-- `printing::printed_page` meets its contract: by the display's answer, the lines of its cells, or zeros.
use mathlib.Core.Path.{sym, ◌∙◌, ap}
use Rattle.display.specs.Pages.{displayed_paper}
use Rattle.printing.proofs.Shown.{text-refused, text-shown}
use Rattle.printing.proofs.printed_page.Goals as goal

pub returns-in-Ok-clause-result_value : goal.returns-in-Ok-clause-result_value
returns-in-Ok-clause-result_value c =
    text-shown _ c.in-Ok.cells (sym (ap displayed_paper c.in-Ok.is) ∙ c.page_of.ensures) c.text_of.ensures

pub returns-in-Err-clause-result_value : goal.returns-in-Err-clause-result_value
returns-in-Err-clause-result_value c =
    text-refused _ (sym (ap displayed_paper c.in-Err.is) ∙ c.page_of.ensures)
