-- `choosing::span_of` meets its contract: by how many hyphens the part has, and by what rows stand before the first and behind it.
use mathlib.Core.Path.{◌≡◌, sym, ◌∙◌, ap}
use Prim.Native.Nat.{ℕ, ◌<◌, ◌≤◌}
use native.Mathlib.Omega.{arith}
use borrow.Author.Tests.{le-leb, lt-leb}
use lib.ListN.{length}
use Rattle.std.specs.Prelude.{Some, None}
use Rattle.choosing.specs.Chosen.{span_from, span_of}
use Rattle.choosing.proofs.Spans.{no-first, none_last, row-alone, two-rows}
use Rattle.choosing.proofs.span_of.Goals as goal
use Rattle.choosing.proofs.span_of.Goals.{In_ok-last}

rising : (first last : ℕ) → first ≤ last → span_from (Some first) (Some last) ≡ Some (record { first = first; last = last })
unfolding span_from
rising first last h = rw (le-leb first last h)

falling : (first last : ℕ) → last < first → span_from (Some first) (Some last) ≡ None
unfolding span_from
falling first last h = rw (lt-leb first last h)

pub returns-in_err-first : goal.returns-in_err-first
returns-in_err-first c =
    c.from_residual.ensures ∙ sym (no-first _ c.length_before-size.ensures.0 (sym c.in_err-first.ensures))

pub returns-then-size-part : goal.returns-then-size-part
returns-then-size-part c =
    let first = sym c.in_ok-first.ensures in
    sym (row-alone _ c.length_before-size.ensures.0 c.if-size-part.true ∙ ap (λ row. span_from row row) first ∙ rising _ _ (omega arith))

-- two rows, by what was read of each
two : (c : In_ok-last) → span_of c.args.part.now ≡ span_from (Some c.in_ok-first.first) (Some c.in_ok-last.last)
two c =
    let size = c.length_before-size.ensures in
    let more : c.length_before-size.result < length c.args.part.now = omega (arith, size.1, c.if-size-part.false) in
    two-rows _ size.0 more ∙ (λ i. span_from (sym c.in_ok-first.ensures i) (sym c.in_ok-last.ensures i))

pub returns-in_err-last : goal.returns-in_err-last
returns-in_err-last c =
    let size = c.length_before-size.ensures in
    let more : c.length_before-size.result < length c.args.part.now = omega (arith, size.1, c.if-size-part.false) in
    c.from_residual-in_err-last.ensures
    ∙ sym (two-rows _ size.0 more ∙ (ap (span_from _) (sym c.in_err-last.ensures) ∙ none_last _))

pub returns-then-first-last : goal.returns-then-first-last
returns-then-first-last c =
    sym (two (goal.at.returns-then-first-last c).In_ok-last ∙ rising _ _ c.if-first-last.true)

pub returns-else-first-last : goal.returns-else-first-last
returns-else-first-last c =
    sym (two (goal.at.returns-else-first-last c).In_ok-last ∙ falling _ _ c.if-first-last.false)
