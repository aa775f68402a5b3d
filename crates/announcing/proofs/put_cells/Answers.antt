-- `announcing::put_cells` meets its contract: the rows left out, and what was sent this time.
use Rattle.std.proofs.Common.{◌≡◌, ℕ, List, ◌++◌, length, Err, sym, ◌∙◌, ap, arith}
use Rattle.texts.proofs.Putting.{as_text, put_then, same_room}
use Rattle.printing.specs.Letters.{printed_utf8, utf8_page_text, utf8_paper}
use Rattle.printing.proofs.Back.{utf8_most}
use Rattle.printing.proofs.Shown.{utf8-is, utf8-told}
use Rattle.announcing.specs.Told.{cells_text, fresh_characters, left_out_text}
use Rattle.announcing.proofs.Lengths.{left_out_length}
use Rattle.announcing.proofs.put_cells.Goals as goal
use Rattle.announcing.proofs.put_cells.Goals.{After-as_bytes}

text-is : (c : After-as_bytes) → c.as_bytes.result.now ≡ utf8_page_text c.args.control (fresh_characters c.args.cells.now)
text-is c =
    c.as_bytes.ensures
    ∙ utf8-is c.args.control (fresh_characters c.args.cells.now) c.in-Ok.page
    (ap utf8_paper (sym c.in-Ok.is) ∙ (c.utf8_page.ensures.result_value ∙ ap (printed_utf8 c.args.control) c.fresh_characters.ensures))

pub put-requires : goal.put-requires
put-requires c =
    let cells = c.args.cells.now in
    let left_out = c.put_left_out-rows.ensures in
    let room = c.requires.0 in
    let rows = left_out_length cells.marks in
    let same = same_room left_out (omega arith) in
    let ends = left_out.ends in
    let size = ap length (text-is c) in
    let most = utf8_most c.args.control (fresh_characters cells) c.requires.1.shown in
    omega arith

pub unreachable-requires : goal.unreachable-requires
unreachable-requires c =
    let codes = fresh_characters c.args.cells.now in
    let told = utf8-told c.args.control codes (Err c.in-Err.field-0)
    (ap utf8_paper (sym c.in-Err.is) ∙ (c.utf8_page.ensures.result_value ∙ ap (printed_utf8 c.args.control) c.fresh_characters.ensures)) in
    let shown = c.requires.1.shown in
    cc (told, shown)

pub returns : goal.returns
unfolding cells_text
returns c =
    let left_out = c.put_left_out-rows.ensures in
    let room = c.requires.0 in
    let rows = left_out_length c.args.cells.now.marks in
    as_text (put_then left_out (omega arith) c.put.ensures)
    (ap (λ (text : List ℕ). left_out_text c.args.cells.now.marks ++ text) (text-is (goal.at.returns c).After-as_bytes))
