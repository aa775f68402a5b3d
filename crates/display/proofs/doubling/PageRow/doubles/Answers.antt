-- `display::PageRow::doubles` meets its contract: asked by what is known of the row, and then by the row's codes.
use mathlib.Core.Path.{◌≡◌, ◌∙◌, ap}
use Prim.Native.Nat.{ℕ, ◌-◌}
use native.Mathlib.Omega.{arith}
use lib.ListN.{take, drop}
use Rattle.grid.specs.Grid.{columns}
use Rattle.display.specs.Pages.{has_double}
use Rattle.display.proofs.Choice.{not_asked, asked}
use Rattle.display.proofs.doubling.PageRow.doubles.Goals as goal

pub returns-then-self : goal.returns-then-self
returns-then-self c = not_asked c.args.self.below c.args.self.counts _ c.if-self.true

pub returns : goal.returns
returns c =
    let row = c.args.self in
    let long = c.requires.0 in
    let part : row.end - (row.end - columns) ≡ columns = omega arith in
    c.has_double.ensures
    ∙ (ap (λ (n : ℕ). has_double (take n (drop (row.end - columns) c.args.codes.now))) part ∙ asked row.below row.counts _ c.if-self.false)
