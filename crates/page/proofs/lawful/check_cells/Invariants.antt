use mathlib.Core.Path.{◌≡◌}
use mathlib.Core.Bool.{not, ◌&&◌}
use lib.ListN.{drop}
use Rattle.laws.specs.Every.{every_pair}
use Rattle.page.specs.Lawful.{cell_lawful, cells_fit, cells_lawful}
use Rattle.page.specs.Records.{cells_of}
use Rattle.page.proofs.Checks.{large, wrong}
use Rattle.page.proofs.lawful.check_cells.Given as goal

abbrev pub invariant-loop-at : goal.invariant-loop-at
invariant-loop-at l =
    ((not (large l.character_bits l.highest) && cells_fit (cells_of (drop l.at l.characters) (drop l.at l.marks))) ≡ cells_fit (cells_of l.characters l.marks))
    × ((not (wrong l.unlawful l.highest) && every_pair cell_lawful (drop l.at l.marks) (drop l.at l.characters)) ≡ cells_lawful (cells_of l.characters l.marks))
