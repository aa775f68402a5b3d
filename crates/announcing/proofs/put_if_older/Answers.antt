-- `announcing::put_if_older` meets its contract: by whether a mark of the row is older.
use mathlib.Core.Path.{sym, ◌∙◌, ap}
use mathlib.Core.Bool.{Bool, cond}
use mathlib.Core.List.{[]}
use Rattle.announcing.specs.Told.{row_number}
use Rattle.texts.proofs.Putting.{as_text, put_none}
use Rattle.announcing.proofs.put_if_older.Goals as goal

pub returns-then-one_older : goal.returns-then-one_older
returns-then-one_older c =
    as_text c.put_row_number.ensures
    (ap (λ (b : Bool). cond b (row_number c.args.row) []) (sym c.if-one_older.true ∙ c.one_older.ensures))

pub returns : goal.returns
returns c =
    as_text (put_none c.args.room.now c.args.at)
    (ap (λ (b : Bool). cond b (row_number c.args.row) []) (sym c.if-one_older.false ∙ c.one_older.ensures))
