use mathlib.Core.Path.{◌≡◌, refl, ◌∙◌, ap, sym}
use mathlib.Core.Bool.{Bool, ◌&&◌}
use lib.Dec.{leb}
use Rattle.std.proofs.Common.{rules}
use Rattle.std.specs.Prelude.{MatchResult, Result, Ok, Err, ⊤}
use Rattle.page.specs.Lawful.{digits_lawful, header_fits, magazine_fits}
use Rattle.page.specs.Private.{parts_answer}
use Rattle.page.specs.Records.{cells_of}
use Rattle.page.specs.declared.CellsError.{CellsError}
use Rattle.page.specs.declared.CellsError.TheVariants.{TooLarge}
use Rattle.page.specs.declared.WriteError.{WriteError}
use Rattle.page.specs.declared.WriteError.TheVariants as write
use Rattle.page.proofs.Papers.{check_is}
use Rattle.page.proofs.Answers.{answer_by, bad_by, by-check, large-head, lawful_by}
use Rattle.page.proofs.writing.page_answer.Goals as goal
use Rattle.page.proofs.writing.page_answer.Goals.{After-check_cells-checked, After-header_fits}

-- what was asked of the magazine and the header
head-asked : (c : After-header_fits)
    → ((leb 1 c.args.magazine && leb c.args.magazine 8) && c.header_fits.result) ≡ (magazine_fits c.args.magazine && header_fits c.args.header)
unfolding magazine_fits
head-asked c = ap (λ (b : Bool). (leb 1 c.args.magazine && leb c.args.magazine 8) && b) c.header_fits.ensures

-- the page's answer goes by the check of its cells and of its digits
module _ (c : After-check_cells-checked) where
  abbrev answer : Result ⊤ WriteError
  answer = parts_answer c.args.magazine c.args.header (cells_of c.args.characters.now c.args.marks.now)

  by-cells : {check : Result ⊤ CellsError} → c.check_cells-checked.result ≡ check → {digits : Bool} → digits ≡ digits_lawful c.args.header → answer_by check digits ≡ answer
  by-cells e d =
      let fits = sym (head-asked c.before.before) ∙ c.if-not-fits.false in
      sym (by-check _ _ _ fits (sym e ∙ check_is _ _ c.check_cells-checked.ensures) d)

pub returns-then-not-fits : goal.returns-then-not-fits
returns-then-not-fits c =
    sym (large-head _ _ _ (sym (head-asked (goal.at.returns-then-not-fits c).After-header_fits) ∙ c.if-not-fits.true))

pub returns-then-eq : goal.returns-then-eq
returns-then-eq c =
    let is : c.check_cells-checked.result ≡ Err TooLarge = search rules in
    by-cells (goal.at.returns-then-eq c).After-check_cells-checked is refl

pub returns-then-not-digits_lawful : goal.returns-then-not-digits_lawful
returns-then-not-digits_lawful c =
    let other : c.check_cells-checked.result ≡ Err TooLarge → ⊥ = search rules in
    sym (bad_by _ other) ∙ by-cells (goal.at.returns-then-not-digits_lawful c).After-check_cells-checked refl c.if-not-digits_lawful.ensures

pub returns : goal.returns
returns c =
    let other : c.check_cells-checked.result ≡ Err TooLarge → ⊥ = search rules in
    let told : MatchResult c.check_cells-checked.result (λ x. c.map_err.result ≡ Ok x) (λ e. c.map_err.result ≡ Err write.UnlawfulCells) = search rules in
    lawful_by _ other _ told ∙ by-cells (goal.at.returns c).After-check_cells-checked refl c.if-not-digits_lawful.ensures
