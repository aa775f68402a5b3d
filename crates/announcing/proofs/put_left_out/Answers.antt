-- `announcing::put_left_out` meets its contract: the words, the rows' numbers and a line feed; or nothing.
use mathlib.Core.Path.{sym, ◌∙◌, ap}
use mathlib.Core.Bool.{Bool, cond}
use mathlib.Core.List.{[], ◌++◌, append_assoc}
use Prim.Native.Nat.{◌+◌, ◌≤◌}
use native.Mathlib.Omega.{arith}
use lib.ListN.{length, length-append}
use Rattle.laws.specs.Text.{line_feed}
use Rattle.grid.specs.Grid.{rows}
use Rattle.texts.specs.Put.{Puts}
use Rattle.announcing.specs.Told.{left_out_text, left_out_words, older_rows}
use Rattle.announcing.proofs.Lengths.{older_length}
use Rattle.texts.proofs.Putting.{as_text, put_none, put_then, same_room}
use Rattle.announcing.proofs.put_left_out.Goals as goal
use Rattle.announcing.proofs.put_left_out.Goals.{After-put_older_rows-numbers}

-- the words and the numbers are put, and there is room for the line feed
numbered : (c : After-put_older_rows-numbers)
    → Puts (left_out_words ++ older_rows rows c.args.marks.now) c.args.room.now c.args.at c.put_older_rows-numbers.new.room
    c.put_older_rows-numbers.result
numbered c =
    let room = c.requires.0 in
    put_then c.put-words.ensures (omega arith) c.put_older_rows-numbers.ensures

numbers_fit : (c : After-put_older_rows-numbers) → c.args.at + length (left_out_words ++ older_rows rows c.args.marks.now) + 1 ≤ length c.args.room.now
numbers_fit c =
    let room = c.requires.0 in
    let short = older_length rows c.args.marks.now in
    let both = length-append left_out_words (older_rows rows c.args.marks.now) in
    omega arith

pub put-requires : goal.put-requires
put-requires c =
    let fits = numbers_fit (goal.at.put-requires c).After-put_older_rows-numbers in
    let same = same_room (numbered (goal.at.put-requires c).After-put_older_rows-numbers) (omega arith) in
    let ends = (numbered (goal.at.put-requires c).After-put_older_rows-numbers).ends in
    omega arith

pub returns-then-one_older : goal.returns-then-one_older
unfolding left_out_text
returns-then-one_older c =
    let marks = c.args.marks.now in
    let fits = numbers_fit (goal.at.returns-then-one_older c).After-put_older_rows-numbers in
    as_text (put_then (numbered (goal.at.returns-then-one_older c).After-put_older_rows-numbers) (omega arith) c.put.ensures)
    (append_assoc left_out_words (older_rows rows marks) line_feed
    ∙ ap (λ (b : Bool). cond b (left_out_words ++ (older_rows rows marks ++ line_feed)) []) (sym c.if-one_older.true ∙ c.one_older.ensures))

pub returns : goal.returns
unfolding left_out_text
returns c =
    let marks = c.args.marks.now in
    as_text (put_none c.args.room.now c.args.at)
    (ap (λ (b : Bool). cond b (left_out_words ++ (older_rows rows marks ++ line_feed)) []) (sym c.if-one_older.false ∙ c.one_older.ensures))
