-- `field::entry` meets its contract: at each return the tests that led there say which case of `start` holds.
use mathlib.Core.Path.{sym, ◌∙◌}
use borrow.Author.Tests.{eq-eqb, ne_eqb, lt-ltb, le-ltb}
use Rattle.field.specs.Field.{error_paper, start}
use Rattle.field.specs.Private.{entry_told, start_told}
use Rattle.field.proofs.entry.Goals as goal

pub returns-then-field-eq0 : goal.returns-then-field-eq0
unfolding start entry_told start_told error_paper
returns-then-field-eq0 c = simp (eq-eqb _ _ c.if-field-eq0.true)

pub returns-then-not-is_known : goal.returns-then-not-is_known
unfolding start entry_told start_told error_paper
returns-then-not-is_known c =
    simp (
      ne_eqb _ _ c.if-field-eq0.false,
      sym c.is_known.ensures ∙ c.if-not-is_known.true,
    )

pub returns-then-place-field : goal.returns-then-place-field
unfolding start entry_told start_told error_paper
returns-then-place-field c =
    simp (
      ne_eqb _ _ c.if-field-eq0.false,
      sym c.is_known.ensures ∙ c.if-not-is_known.false,
      lt-ltb _ _ c.if-place-field.true,
    )

pub returns-then-place-eq0 : goal.returns-then-place-eq0
unfolding start entry_told start_told error_paper
returns-then-place-eq0 c =
    simp (
      ne_eqb _ _ c.if-field-eq0.false,
      sym c.is_known.ensures ∙ c.if-not-is_known.false,
      le-ltb _ _ c.if-place-field.false,
      eq-eqb _ _ c.if-place-eq0.true,
    )

pub returns : goal.returns
unfolding start entry_told start_told error_paper
returns c =
    simp (
      ne_eqb _ _ c.if-field-eq0.false,
      sym c.is_known.ensures ∙ c.if-not-is_known.false,
      le-ltb _ _ c.if-place-field.false,
      ne_eqb _ _ c.if-place-eq0.false,
    )
