-- A header with C4 set: it clears the page, and C5 to C14, number and time are as they were.
use mathlib.Core.Path.{◌≡◌, refl, sym, ap, ◌∙◌}
use mathlib.Core.Bool.{true}
use Prim.Native.Nat.{◌+◌, ◌*◌, ◌/◌, ◌%◌}
use native.Mathlib.Omega.{arith}
use borrow.Author.Tests.{eq-eqb}
use Rattle.laws.specs.Fields.{digits}
use Rattle.laws.proofs.Digits.{digits_above}
use Rattle.packet.specs.Headers.{control_bit}
use Rattle.packet.specs.Writing.{c4_weight}
use Rattle.packet.specs.declared.Header.{Header}
use Rattle.receiver.specs.Effects.{clears}
use Rattle.sending.specs.Sending.{with_c4}
use Rattle.returning.specs.Returned.{c5_to_c14, number_and_time}

pub c4_set : (header : Header) → control_bit (with_c4 header) 4 ≡ 1
unfolding control_bit with_c4
c4_set header = omega arith

pub sets_c4 : (header : Header) → clears (with_c4 header) ≡ true
unfolding clears
sets_c4 header = eq-eqb (control_bit (with_c4 header) 4) 1 (c4_set header)

-- they are the digits below C4
pub later_kept : (header : Header) → c5_to_c14 (with_c4 header) ≡ c5_to_c14 header
unfolding c5_to_c14 with_c4 digits
later_kept header =
    let whole : header.control / c4_weight * c4_weight + header.control % c4_weight ≡ header.control = omega arith in
    digits_above 10 1 (header.control % c4_weight)
    ∙ (sym (digits_above 10 (header.control / c4_weight) (header.control % c4_weight)) ∙ ap (digits 10) whole)

pub numbers_kept : (header : Header) → number_and_time (with_c4 header) ≡ number_and_time header
unfolding number_and_time with_c4
numbers_kept header = refl
