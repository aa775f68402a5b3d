use Rattle.coding.specs.Heard.{heard}
use mathlib.Core.Path.{refl, sym, subst}
use native.Mathlib.Omega.{arith}
use borrow.Author.Rules.{rules}
use Rattle.coding.proofs.Heard.{heard_law}
use Rattle.receiver.proofs.Laying.{one_most}
use Rattle.receiver.proofs.Rows.{first_small}
use Rattle.receiver.proofs.Storing.{Storing, storing-counts, storing-ends, storing-more, storing-starts}
use Rattle.receiver.proofs.cells.store_row.Goals as goal

pub loop-column-init : goal.loop-column-init
loop-column-init c =
    let args = c.args in
    let first = c.first_column-column.ensures in (
      omega (arith, first, first_small args.row),
      refl,
      search rules,
      search rules,
      subst (Storing args.row _ _ _ _ _ 0) (sym first) (storing-starts args.row _ _ _),
    )

pub overflow_add-written_so_far : goal.overflow_add-written_so_far
overflow_add-written_so_far c =
    let found = c.character_of-found.result in
    omega (arith, c.loop-column.invariant.4.few, c.written-written_so_far.ensures, one_most (heard found))

pub loop-column-preserved : goal.loop-column-preserved
loop-column-preserved c =
    let args = c.args in
    let inv = c.loop-column.invariant in
    let told = heard_law _ _ c.character_of-found.ensures in
    let character = c.kept_character.ensures in
    let mark = c.kept_mark.ensures in (
      search rules,
      inv.1,
      inv.2,
      inv.3,
      storing-more args.row args.bytes _ _ (sym inv.3) inv.4 c.loop-column-test.true _ told _ _ _ character mark c.written-written_so_far.ensures,
    )

pub returns : goal.returns
returns c =
    let args = c.args in
    let inv = c.loop-column.invariant in
    let whole = sym inv.3 in
    let ended = c.loop-column-test.false in
    (storing-counts args.row args.bytes _ _ whole inv.4 ended inv.0, storing-ends args.row args.bytes _ _ whole inv.4 ended inv.0)
