use Rattle.texts.specs.Put.{Puts}
use Rattle.announcing.specs.Told.{older_rows}
use Rattle.announcing.proofs.put_older_rows.Given as goal

abbrev pub invariant-loop-row : goal.invariant-loop-row
invariant-loop-row l = Puts (older_rows l.row l.marks) l.initial.room l.at l.room l.end
