-- `printing::utf8_or_zeros` meets its contract: its text is the paper's.
use Rattle.std.proofs.Common.{◌≡◌, refl, ◌∙◌, ap}
use Rattle.std.specs.Prelude.{Result, Ok, Err, replicate}
use Rattle.std.specs.Result.{result_unwrap_or}
use Rattle.display.specs.declared.NotAPage.{NotAPage}
use Rattle.printing.specs.Letters.{utf8_page_size, utf8_paper}
use Rattle.printing.specs.declared.Utf8Page.{Utf8Page}
use Rattle.printing.proofs.utf8.utf8_or_zeros.Goals as goal

bytes_or : (printed : Result Utf8Page NotAPage) (zeros : Utf8Page) → zeros.text.bytes ≡ replicate utf8_page_size 0
    → (result_unwrap_or printed zeros).text.bytes ≡ (utf8_paper printed).bytes
unfolding utf8_paper
bytes_or (Ok page) zeros e = refl
bytes_or (Err refusal) zeros e = e

pub returns-clause-bytes_value : goal.returns-clause-bytes_value
returns-clause-bytes_value c = ap (λ (page : Utf8Page). page.text.bytes) c.unwrap_or.ensures ∙ bytes_or c.args.printed _ refl
