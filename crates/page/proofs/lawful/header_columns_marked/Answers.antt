use Rattle.std.proofs.Common.{rules, ◌≢◌, take, slice_index}
use Rattle.std.specs.Prelude.{SomeIndex, IsTrue, ◌↔◌}
use Rattle.std.proofs.iter.runs.Made.{chains}
use Rattle.packet.specs.Texts.{header_column}
use Rattle.page.proofs.Checks.{marked_by}
use Rattle.page.proofs.lawful.header_columns_marked.Goals as goal

pub returns : goal.returns
returns c =
    let columns = take header_column c.args.marks.now in
    let some : IsTrue c.any.result ↔ SomeIndex columns (λ k. slice_index columns k ≢ 0) = search (rules, chains) in
    marked_by columns c.any.result some
