-- `printing::page_or_zeros` meets its contract.
use Rattle.std.proofs.Common.{◌≡◌, refl, ◌∙◌, ℕ, List}
use Rattle.std.specs.Prelude.{Result, Ok, Err, replicate}
use Rattle.std.specs.Result.{result_unwrap_or}
use Rattle.display.specs.declared.NotAPage.{NotAPage}
use Rattle.printing.specs.Pages.{bytes_beside, page_size}
use Rattle.printing.proofs.page_or_zeros.Goals as goal

text_or : (printed : Result (List ℕ) NotAPage) → result_unwrap_or printed (replicate page_size 0) ≡ bytes_beside printed
unfolding bytes_beside
text_or (Ok text) = refl
text_or (Err refusal) = refl

pub returns : goal.returns
unfolding bytes_beside
returns c = c.unwrap_or.ensures ∙ text_or c.args.printed
