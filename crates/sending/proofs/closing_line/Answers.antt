-- `sending::closing_line` meets its contract.
use mathlib.Core.Path.{ap, ◌∙◌}
use Rattle.packet.specs.Writing.{data_line, header_packet}
use Rattle.sending.specs.Closing.{closing_line, of_no_page}
use Rattle.sending.proofs.closing_line.Goals as goal

pub returns : goal.returns
unfolding closing_line
returns c =
    let row-found = c in
    let page = row-found.args.page in
    let header_is = c.of_no_page-closing.ensures ∙ ap of_no_page c.with_c4.ensures in
    c.data_line.ensures
    ∙ ap data_line (c.header_packet.ensures ∙ (λ i. header_packet page.magazine (header_is i) (row-found.row_in-text.ensures i)))
