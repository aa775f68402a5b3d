-- `announcing::page_in` meets its contract.
use Rattle.std.proofs.Common.{◌∙◌, ap}
use Rattle.page.specs.Reading.{page_read}
use Rattle.page.proofs.Papers.{given_or}
use Rattle.announcing.proofs.page_in.Goals as goal

pub returns : goal.returns
unfolding page_read
returns c = c.unwrap_or.ensures ∙ (given_or c.read_record.result ∙ (c.read_record.ensures.beside ∙ ap page_read c.first_bytes.ensures))
