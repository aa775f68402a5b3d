-- `choosing::rows_asked` meets its contract. The loop's invariant: the rows gathered so far, joined with the spans that are left, are what the
-- argument says. The measure is what is left of the argument.
use mathlib.Core.Bool.{Bool}
use mathlib.Core.List.{List, ◌∷◌}
use mathlib.Core.Path.{◌≡◌, sym, ◌∙◌, ap}
use Prim.Native.Nat.{ℕ}
use borrow.Author.Rules.{rules}
use lib.ListN.{take}
use Rattle.std.specs.Prelude.{Option}
use Rattle.choosing.specs.Chosen.{span_of, spans_in}
use Rattle.choosing.specs.declared.Span.{Span}
use Rattle.choosing.proofs.Rows.{Gathered, gathered_none, one_more, says_none, says-rows}
use Rattle.choosing.proofs.Spans.{first-span, last-span, some-span}
use Rattle.choosing.proofs.rows_asked.Goals as goal

-- `size` bytes of the rest are a part, which was read: it is the first of those that are left
first_read : (argument rest : List ℕ) (size : ℕ) {spans : List (Option Span)} {wanted : List Bool} {read : Option Span}
    → Gathered argument wanted (spans_in rest) → spans_in rest ≡ span_of (take size rest) ∷ spans → read ≡ span_of (take size rest)
    → Gathered argument wanted (read ∷ spans)
first_read argument rest size {spans} so_far e read = rw (e ∙ ap (λ (span : Option Span). span ∷ spans) (sym read)) at so_far

pub loop-span-init : goal.loop-span-init
loop-span-init c = (search rules, gathered_none _)

pub returns-in_err-span : goal.returns-in_err-span
returns-in_err-span c =
    let first = some-span c.loop-span.rest.now c.length_before-size.ensures.0 in
    rw c.from_residual.ensures (says_none _ (first_read _ _ _ c.loop-span.invariant.1 first c.in_err-span.ensures))

pub returns-then-size-rest : goal.returns-then-size-rest
returns-then-size-rest c =
    let last = last-span c.loop-span.rest.now c.length_before-size.ensures.0 c.if-size-rest.true in
    says-rows _ (one_more _ (first_read _ _ _ c.loop-span.invariant.1 last c.in_ok-span.ensures) c.with_span-joined.ensures)

pub loop-span-preserved : goal.loop-span-preserved
loop-span-preserved c =
    let first = first-span c.loop-span.rest.now c.length_before-size.ensures.0 (search rules) in
    (search rules, one_more _ (first_read _ _ _ c.loop-span.invariant.1 first c.in_ok-span.ensures) c.with_span-joined.ensures)
