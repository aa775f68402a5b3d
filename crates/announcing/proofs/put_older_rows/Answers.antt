-- `announcing::put_older_rows` meets its contract. The loop's invariant: the numbers of the rows so far are there.
use mathlib.Core.Path.{◌≡◌, sym, ◌∙◌, ap}
use mathlib.Core.Bool.{cond}
use mathlib.Core.List.{List, [], ◌++◌}
use Prim.Native.Nat.{ℕ, ◌+◌, ◌*◌, ◌-◌}
use native.Mathlib.Numerals.{add-one}
use native.Mathlib.Omega.{arith}
use borrow.Author.Rules.{rules}
use lib.ListN.{take, drop}
use Rattle.grid.specs.Grid.{columns, rows}
use Rattle.announcing.specs.Told.{older_rows, one_older, row_number}
use Rattle.announcing.proofs.Lengths.{older_length}
use Rattle.texts.proofs.Putting.{as_text, put_none, put_then}
use Rattle.announcing.proofs.put_older_rows.Goals as goal

one_row_more : (marks : List ℕ) (row : ℕ) {size : ℕ} → size ≡ columns
    → older_rows row marks ++ cond (one_older (take size (drop (columns * row) marks))) (row_number row) [] ≡ older_rows (row + 1) marks
unfolding older_rows
one_row_more marks row e =
    ap (λ (n : ℕ). older_rows row marks ++ cond (one_older (take n (drop (columns * row) marks))) (row_number row) []) e
    ∙ ap (λ (n : ℕ). older_rows n marks) (sym (add-one row))

pub loop-row-init : goal.loop-row-init
unfolding older_rows
loop-row-init c = put_none c.args.room.now c.args.at

pub put_if_older-end-requires : goal.put_if_older-end-requires
put_if_older-end-requires c =
    let ends = c.loop-row.invariant.ends in
    let short = older_length c.loop-row.row c.args.marks.now in
    (omega arith, search rules)

pub loop-row-preserved : goal.loop-row-preserved
loop-row-preserved c =
    let marks = c.args.marks.now in
    let row = c.loop-row.row in
    let part : columns * row + columns - columns * row ≡ columns = omega arith in
    let short = older_length row marks in
    as_text (put_then c.loop-row.invariant (omega arith) c.put_if_older-end.ensures) (one_row_more marks row part)

pub returns : goal.returns
returns c =
    let all : c.loop-row.row ≡ rows = omega arith in
    as_text c.loop-row.invariant (ap (λ (row : ℕ). older_rows row c.args.marks.now) all)
