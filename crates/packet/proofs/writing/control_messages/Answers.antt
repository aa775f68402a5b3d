-- `packet::control_messages` meets its contract: four control bits the other way round are what each of them is among eleven.
use mathlib.Core.Path.{◌≡◌, refl, ◌∙◌}
use Prim.Native.Nat.{ℕ, ◌+◌, ◌*◌, ◌/◌, ◌%◌, ◌<◌}
use native.Mathlib.Omega.{arith}
use Rattle.laws.specs.Below.{all_below}
use Rattle.laws.specs.Digits.{binary, weight}
use Rattle.laws.proofs.Below.{equal_at}
use Rattle.laws.proofs.Tabulated.{cons_is}
use Rattle.packet.specs.Headers.{control_bit, lowest_first}
use Rattle.packet.specs.Writing.{control_messages}
use Rattle.packet.proofs.writing.control_messages.Goals as goal

-- four bits the other way round, lowest weight first
four : (x : ℕ) → x < 16 → binary (lowest_first x) ≡ x / 8 % 2 + 2 * (x / 4 % 2) + 4 * (x / 2 % 2) + 8 * (x / 1 % 2)
unfolding all_below binary lowest_first weight
four x h = equal_at 16 (λ x. binary (lowest_first x)) (λ x. x / 8 % 2 + 2 * (x / 4 % 2) + 4 * (x / 2 % 2) + 8 * (x / 1 % 2)) tt x h

-- which bits of the number they are
module _ (n : ℕ) where
  c7 : n / 16 % 16 / 8 % 2 ≡ n / 128 % 2
  c7 = omega arith

  c8 : n / 16 % 16 / 4 % 2 ≡ n / 64 % 2
  c8 = omega arith

  c9 : n / 16 % 16 / 2 % 2 ≡ n / 32 % 2
  c9 = omega arith

  c10 : n / 16 % 16 / 1 % 2 ≡ n / 16 % 2
  c10 = omega arith

  c11 : n % 16 / 8 % 2 ≡ n / 8 % 2
  c11 = omega arith

  c12 : n % 16 / 4 % 2 ≡ n / 4 % 2
  c12 = omega arith

  c13 : n % 16 / 2 % 2 ≡ n / 2 % 2
  c13 = omega arith

  c14 : n % 16 / 1 % 2 ≡ n / 1 % 2
  c14 = omega arith

pub overflow_cast-c7_to_c10 : goal.overflow_cast-c7_to_c10
unfolding binary lowest_first weight
overflow_cast-c7_to_c10 c = omega arith

pub overflow_cast-c11_to_c14 : goal.overflow_cast-c11_to_c14
unfolding binary lowest_first weight
overflow_cast-c11_to_c14 c = omega arith

pub returns : goal.returns
unfolding control_messages control_bit
returns c =
    let n = c.args.header.control in
    let upper = c.reversed-c7_to_c10.ensures ∙ (four (n / 16 % 16) (omega arith) ∙ (λ i. c7 n i + 2 * c8 n i + 4 * c9 n i + 8 * c10 n i)) in
    let lower = c.reversed-c11_to_c14.ensures ∙ (four (n % 16) (omega arith) ∙ (λ i. c11 n i + 2 * c12 n i + 4 * c13 n i + 8 * c14 n i)) in
    cons_is refl (cons_is refl (cons_is refl (cons_is refl (cons_is refl (cons_is refl (cons_is upper (cons_is lower refl)))))))
