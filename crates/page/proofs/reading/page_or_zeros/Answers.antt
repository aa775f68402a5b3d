-- `page::page_or_zeros` meets its contract.
use Rattle.std.proofs.Common.{◌∙◌}
use Rattle.page.specs.Reading.{page_given, zero_page}
use Rattle.page.proofs.Papers.{given_or}
use Rattle.page.proofs.reading.page_or_zeros.Goals as goal

pub returns : goal.returns
unfolding zero_page page_given
returns c = c.unwrap_or.ensures ∙ given_or c.args.read
