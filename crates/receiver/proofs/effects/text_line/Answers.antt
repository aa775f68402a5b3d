use mathlib.Core.Path.{refl, ap, ◌∙◌}
use mathlib.Core.List.{List}
use Prim.Native.Nat.{ℕ}
use lib.ListN.{length}
use Rattle.receiver.specs.Cells.{how_many, row_found}
use Rattle.receiver.specs.Effects.{row_stored, text_taken}
use Rattle.receiver.proofs.Doing.{row-joined, row_missing}
use Rattle.receiver.proofs.Undoubted.{length_text}
use Rattle.receiver.proofs.effects.text_line.Goals as goal

pub returns : goal.returns
unfolding text_taken
returns c =
    let receiver = c.args.receiver.now in
    let row = c.args.row in
    let text = c.unwrap_or-text.result in
    let read = c.unwrap_or-text.ensures ∙ c.text_of.ensures.1 in
    let stored = c.store_row-count in
    let whole = ap length read ∙ length_text c.args.packet.now in
    let missing = row_missing row text whole _ stored.ensures.0 _ c.is_missing.ensures in
    record {
      kept = row-joined receiver row text _ _ missing stored.ensures.1 ∙ ap (row_stored receiver row) read;
      kind = refl;
      count = stored.ensures.0 ∙ ap (λ (bytes : List ℕ). how_many (row_found row bytes)) read;
      word = refl;
      left = refl;
    }
