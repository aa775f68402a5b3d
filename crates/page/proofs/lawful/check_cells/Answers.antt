use mathlib.Core.Path.{◌≡◌, refl, ◌∙◌, ap, sym}
use mathlib.Core.Bool.{Bool, not}
use native.Mathlib.Omega.{arith}
use Rattle.page.specs.Lawful.{cells_fit, cells_lawful, cells_paper}
use Rattle.page.specs.Records.{cells_of}
use Rattle.page.specs.declared.Cells.{Cells}
use Rattle.page.proofs.Checks.{answer-large, answer-lawful, answer-unlawful, fit-last, fit-more, large, lawful_first, lawful-last, lawful-more, wrong}
use Rattle.page.proofs.lawful.check_cells.Goals as goal
use Rattle.page.proofs.lawful.check_cells.Goals.{After-loop-at}

-- after the loop: the flags are the answers
module _ (c : After-loop-at) where
  cells : Cells
  cells = cells_of c.args.characters.now c.args.marks.now

  too_large : Bool
  too_large = large c.loop-at.character_bits c.loop-at.highest

  fit : cells_fit cells ≡ not too_large
  unfolding cells too_large
  fit = fit-last _ _ c.loop-at.at (omega arith) (omega arith) too_large _ c.loop-at.invariant.0

  lawful : cells_lawful cells ≡ not (wrong c.loop-at.unlawful c.loop-at.highest)
  unfolding cells
  lawful = lawful-last _ _ c.loop-at.at (omega arith) (omega arith) (wrong c.loop-at.unlawful c.loop-at.highest) _ c.loop-at.invariant.1

pub loop-at-init : goal.loop-at-init
loop-at-init c = (refl, lawful_first c.args.characters.now c.args.marks.now _ c.header_columns_marked-unlawful.ensures)

pub loop-at-preserved : goal.loop-at-preserved
loop-at-preserved c =
    let here = c.loop-at in
    let higher = c.max-highest.ensures in (
      sym (fit-more c.args.characters.now c.args.marks.now here.at (omega arith) (omega arith) here.character_bits here.highest _ higher) ∙ here.invariant.0,
      sym (lawful-more c.args.characters.now c.args.marks.now here.at (omega arith) (omega arith) here.unlawful here.highest _ higher) ∙ here.invariant.1,
    )

pub returns-then-character_bits-highest : goal.returns-then-character_bits-highest
unfolding cells too_large
returns-then-character_bits-highest c =
    let loop = (goal.at.returns-then-character_bits-highest c).After-loop-at in
    ap cells_paper (sym (answer-large (cells loop) (fit loop ∙ ap not c.if-character_bits-highest.true)))

pub returns-then-unlawful-highest : goal.returns-then-unlawful-highest
unfolding cells too_large
returns-then-unlawful-highest c =
    let loop = (goal.at.returns-then-unlawful-highest c).After-loop-at in
    let fits = fit loop ∙ ap not c.if-character_bits-highest.false in
    ap cells_paper (sym (answer-unlawful (cells loop) fits (lawful loop ∙ ap not c.if-unlawful-highest.true)))

pub returns : goal.returns
unfolding cells too_large
returns c =
    let loop = (goal.at.returns c).After-loop-at in
    let fits = fit loop ∙ ap not c.if-character_bits-highest.false in
    ap cells_paper (sym (answer-lawful (cells loop) fits (lawful loop ∙ ap not c.if-unlawful-highest.false)))
