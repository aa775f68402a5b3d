-- `sending::store_if` meets its contract: the row's line, made and stored, or nothing.
use mathlib.Core.Path.{ap, ◌∙◌}
use mathlib.Core.List.{List}
use Rattle.packet.specs.Writing.{data_line, row_packet}
use Rattle.sending.specs.Private.{line_stored}
use Rattle.sending.specs.Sending.{row_line}
use Rattle.sending.proofs.store_if.Goals as goal

pub returns-clause-room_after : goal.returns-clause-room_after
unfolding row_line
returns-clause-room_after c =
    let args = c.args in
    let line = c.data_line.ensures ∙ ap data_line (c.row_packet.ensures ∙ ap (row_packet args.page.now.magazine args.row) c.row_in-text.ensures) in
    rw c.if-not-wanted.false (c.store_line.ensures ∙ ap (λ (l : List _). line_stored l args.count args.room.now) line)
