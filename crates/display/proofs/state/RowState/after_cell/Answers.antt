-- `display::RowState::after_cell` meets its contract: what is chosen without a branch is the definition's choice, field by field.
use Rattle.display.proofs.Choice.{set_on, set_off, switched}
use Rattle.display.proofs.Codes.{control-gives}
use Rattle.display.specs.Display.{after_cell}
use Rattle.display.proofs.state.RowState.after_cell.Goals as goal

pub returns : goal.returns
unfolding after_cell
returns c =
    let state = c.args.self in
    simp (
      c.choose-2.ensures,
      c.blank.ensures,
      c.choose.ensures,
      control-gives state c.args.code c.requires,
      switched state.mosaics,
      set_on state.flash,
      set_off state.conceal,
      set_on state.double,
      set_off state.hold,
    )
