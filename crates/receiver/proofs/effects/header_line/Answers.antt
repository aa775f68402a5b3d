use mathlib.Core.Path.{refl, ap, ◌∙◌}
use mathlib.Core.List.{List}
use Prim.Native.Nat.{ℕ}
use lib.ListN.{length}
use Rattle.receiver.specs.Cells.{how_many, row_found, stored}
use Rattle.receiver.specs.Effects.{closed, header_taken, opened, row_stored}
use Rattle.receiver.proofs.Doing.{header_joined, ready_lawful, row_missing}
use Rattle.receiver.proofs.Marks.{low_marks}
use Rattle.receiver.proofs.Undoubted.{length_text}
use Rattle.receiver.proofs.effects.header_line.Goals as goal

pub open_cells-requires : goal.open_cells-requires
open_cells-requires c = low_marks c.args.receiver.now (ready_lawful c.requires)

pub returns : goal.returns
unfolding header_taken
returns c =
    let receiver = c.args.receiver.now in
    let text = c.unwrap_or-text.result in
    let read = c.unwrap_or-text.ensures ∙ c.text_of.ensures.1 in
    let row = c.store_row-count in
    let whole = ap length read ∙ length_text c.args.packet.now in
    let missing = row_missing 0 text whole _ row.ensures.0 _ c.is_missing-receiver.ensures in
    let cells = row.ensures.1 ∙ ap (stored 0 text) c.open_cells.ensures in
    record {
      kept =
          header_joined receiver (ready_lawful c.requires) c.args.header text _ _ missing cells
          ∙ ap (row_stored (opened (closed receiver) c.args.header) 0) read;
      kind = refl;
      count = row.ensures.0 ∙ ap (λ (bytes : List ℕ). how_many (row_found 0 bytes)) read;
      word = c.close-closing.ensures.0;
      left = c.close-closing.ensures.1;
    }
