use mathlib.Core.Path.{◌≡◌, ◌∙◌}
use native.Mathlib.Omega.{arith}
use borrow.Author.Rules.{rules}
use lib.ListN.{length}
use Rattle.std.proofs.lemmas.Slice.{put_mid-paste}
use Rattle.packing.specs.Cells.{cell_bytes, group_bytes, group_cells, nine_from}
use Rattle.page.specs.Private.{group_count}
use Rattle.page.specs.Records.{head_length}
use Rattle.page.proofs.Storing.{all-stored, group-stored}
use Rattle.page.proofs.writing.store_cells.Goals as goal
use Rattle.page.proofs.writing.store_cells.Goals.{After-packed-nine}

-- the first eight bytes are eight
eight-first : (c : After-packed-nine) → length c.packed-nine.result.first ≡ group_cells
eight-first c = search rules

pub loop-group-preserved : goal.loop-group-preserved
loop-group-preserved c =
    let packed = (goal.at.loop-group-preserved c).After-packed-nine in
    let args = c.args in
    let loop = c.loop-group in
    let nine =
    c.packed-nine.ensures
    ∙ (λ i. nine_from (cell_bytes group_cells group_bytes (c.eight_at-some_marks.ensures i) (c.eight_at-some_characters.ensures i))) in
    group-stored group_count head_length args.marks.now args.characters.now (search rules) (search rules) loop.group (search rules) args.«record».now (search rules)
    loop.«record» _ c.packed-nine.result loop.auto.«record» (eight-first packed) nine loop.invariant
    (put_mid-paste _ _ _ _ _ group_cells c.copy_from_slice.ensures.after (omega arith) (omega (arith, eight-first packed)))

pub returns : goal.returns
returns c =
    let args = c.args in
    let loop = c.loop-group in
    all-stored group_count head_length args.marks.now args.characters.now (search rules) (search rules) loop.group (omega arith) args.«record».now loop.«record»
    loop.invariant
