-- `printing::utf8_page` meets its contract: by the printed page's answer, its letters, or zeros.
use mathlib.Core.Path.{sym, ◌∙◌, ap}
use Rattle.printing.specs.Pages.{page_paper}
use Rattle.printing.proofs.Shown.{letters-refused, letters-shown}
use Rattle.printing.proofs.utf8.utf8_page.Goals as goal

pub returns-in-Ok-clause-result_value : goal.returns-in-Ok-clause-result_value
returns-in-Ok-clause-result_value c =
    letters-shown _ _ c.in-Ok.text (sym (ap page_paper c.in-Ok.is) ∙ c.printed_page.ensures.result_value) c.spelled_page.ensures.value

pub returns-in-Err-clause-result_value : goal.returns-in-Err-clause-result_value
returns-in-Err-clause-result_value c =
    letters-refused _ _ (sym (ap page_paper c.in-Err.is) ∙ c.printed_page.ensures.result_value)
