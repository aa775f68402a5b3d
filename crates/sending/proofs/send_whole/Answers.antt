-- `sending::send_whole` meets its contract: 30, or the header's line and then the rows'.
use mathlib.Core.Path.{ap, ◌∙◌}
use mathlib.Core.List.{List}
use native.Mathlib.Omega.{arith}
use borrow.Author.Rules.{rules}
use Rattle.packet.specs.Writing.{data_line, header_packet}
use Rattle.sending.specs.Private.{line_stored}
use Rattle.sending.specs.Sending.{chosen_rows, header_line, line_count}
use Rattle.sending.proofs.Next.{few_chosen}
use Rattle.sending.proofs.Whole.{all-sent, refused-short, rows_fit}
use Rattle.sending.proofs.send_whole.Goals as goal

pub overflow_mul-count : goal.overflow_mul-count
unfolding line_count chosen_rows
overflow_mul-count c = omega (arith, c.line_count-count.ensures, few_chosen 1 c.args.wanted)

pub returns-then-room-count : goal.returns-then-room-count
returns-then-room-count c =
    let both = refused-short c.args.page.now c.args.wanted c.args.room.now c.line_count-count.result c.line_count-count.ensures c.if-room-count.true in
    record { value = both.0; room_after = both.1 }

pub store_line-requires : goal.store_line-requires
unfolding line_count
store_line-requires c = omega (arith, c.if-room-count.false, c.line_count-count.ensures)

pub store_rows-requires : goal.store_rows-requires
store_rows-requires c = (
  search rules,
  rows_fit c.args.page.now c.args.wanted c.args.room.now c.line_count-count.result c.line_count-count.ensures c.if-room-count.false
      c.data_line.result _ (search rules) c.store_line.ensures,
)

pub returns : goal.returns
unfolding header_line
returns c =
    let page = c.args.page.now in
    let line =
    c.data_line.ensures
    ∙ ap data_line (c.header_packet.ensures ∙ (λ i. header_packet page.magazine (c.with_c4.ensures i) (c.row_in-characters.ensures i))) in
    let both =
    all-sent page c.args.wanted c.args.room.now c.line_count-count.result c.line_count-count.ensures (search rules) c.if-room-count.false _ _
    (c.store_line.ensures ∙ ap (λ (l : List _). line_stored l 0 c.args.room.now) line) c.store_rows.ensures in
    record { value = both.0; room_after = both.1 }
