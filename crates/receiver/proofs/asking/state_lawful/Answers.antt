use mathlib.Core.Path.{◌≡◌, refl, sym, ◌∙◌}
use mathlib.Core.Bool.{◌&&◌, and-true}
use Prim.Native.Nat.{ℕ, zero, suc}
use native.Mathlib.Omega.{arith}
use borrow.Author.Tests.{ne_eqb}
use lib.Dec.{eqb}
use Rattle.packet.specs.declared.Header.{Header}
use Rattle.receiver.specs.Entries.{is_zero, state_lawful, state_of}
use Rattle.receiver.proofs.asking.state_lawful.Goals as goal

turned : (n : ℕ) → eqb n 0 ≡ eqb 0 n
turned zero = refl
turned (suc n) = ne_eqb (suc n) 0 (λ e. omega arith) ∙ sym (ne_eqb 0 (suc n) (λ e. omega arith))

-- a header is zero where its numbers are
zero_is : (h : Header)
    → (eqb h.tens 0
    && (eqb h.units 0 && (eqb h.hours_tens 0 && (eqb h.hours_units 0 && (eqb h.minutes_tens 0 && (eqb h.minutes_units 0 && eqb h.control 0))))))
    ≡ is_zero h
unfolding is_zero
zero_is h =
    rw (
      turned h.tens,
      turned h.units,
      turned h.hours_tens,
      turned h.hours_units,
      turned h.minutes_tens,
      turned h.minutes_units,
      turned h.control,
      and-true,
    )

pub returns-then-receiver : goal.returns-then-receiver
unfolding state_lawful state_of
returns-then-receiver c = rw (c.if-receiver.true, c.is_selected.ensures)

pub returns : goal.returns
unfolding state_lawful state_of
returns c = rw (c.if-receiver.false, c.eq.ensures, zero_is c.args.receiver.now.header)
