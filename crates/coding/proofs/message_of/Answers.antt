-- `coding::message_of` meets its contract, by one test over the 256 bytes: what the code tells, by what its parts promise, is what the definition says.
use mathlib.Core.Path.{◌≡◌, refl, ap, ◌∙◌}
use mathlib.Core.Bool.{cond}
use Prim.Native.Nat.{ℕ, zero, suc, ◌+◌, ◌<◌}
use native.Mathlib.Nat.{le_of_suc-le-suc, not-suc-le-zero}
use native.Mathlib.Omega.{arith}
use borrow.Author.Rules.{rules}
use borrow.Author.Tests.{eq-eqb, ne_eqb}
use lib.Bits.{bit_xor}
use lib.Count.{count_trailing_zeros, trailing_le}
use lib.Dec.{eqb}
use Rattle.laws.specs.Digits.{weight}
use Rattle.coding.specs.Hamming.{decoded, decoded_paper, message_bits, tests_of, wrong_bit}
use Rattle.coding.specs.declared.Decoded.{Decoded}
use Rattle.coding.specs.declared.Decoded.TheVariants.{Exact, Corrected, Refused}
use Rattle.coding.specs.declared.Tests.{Tests}
use Rattle.coding.proofs.message_of.Goals as goal

-- ---- two rules that tell the same of every number below a bound, which the checker computes

abbrev Alike : {A : Type 0} → (ℕ → A) → (ℕ → A) → ℕ → Type 0
Alike f g zero = Unit {0}
Alike f g (suc n) = (f 0 ≡ g 0) × Alike (λ k. f (suc k)) (λ k. g (suc k)) n

itself : {A : Type 0} (f : ℕ → A) (n : ℕ) → Alike f f n
itself f zero = tt
itself f (suc n) = (refl, itself (λ k. f (suc k)) n)

at : {A : Type 0} (f g : ℕ → A) (n : ℕ) → Alike f g n → (k : ℕ) → k < n → f k ≡ g k
at f g zero all k h = absurd (not-suc-le-zero h)
at f g (suc n) all zero h = all.0
at f g (suc n) all (suc k) h = at (λ m. f (suc m)) (λ m. g (suc m)) n all.1 k (le_of_suc-le-suc h)

-- ---- what the code tells

abbrev bit_left : Tests → ℕ
bit_left tests = weight (wrong_bit tests.a tests.b tests.c)

-- the bit that is left where A, B and C all hold
abbrev b7 : ℕ
b7 = 0x40

abbrev told : Tests → ℕ → Decoded
told tests byte =
    cond tests.d (cond (eqb (bit_left tests) b7) (Exact (message_bits byte)) Refused)
    (Corrected (message_bits (bit_xor byte (bit_left tests))) (count_trailing_zeros 8 (bit_left tests) + 1))

right : (byte : ℕ) → byte < 256 → told (tests_of byte) byte ≡ decoded byte
unfolding decoded count_trailing_zeros
right = at (λ byte. told (tests_of byte) byte) decoded 256 (itself decoded 256)

by_told : (byte : ℕ) → byte < 256 → (answer : Decoded) → answer ≡ told (tests_of byte) byte → decoded_paper answer ≡ decoded_paper (decoded byte)
by_told byte h answer e = ap decoded_paper (e ∙ right byte h)

-- ---- the code

pub returns-then-wrong-ne-B7 : goal.returns-then-wrong-ne-B7
returns-then-wrong-ne-B7 c =
    by_told _ (search rules) Refused
    (rw (← c.tests_of-a.ensures, c.if-d.true, ← c.wrong_bit-wrong.ensures, ne_eqb _ _ c.if-wrong-ne-B7.true))

pub returns-then-d : goal.returns-then-d
returns-then-d c =
    by_told _ (search rules) (Exact _)
    (rw (← c.tests_of-a.ensures, c.if-d.true, ← c.wrong_bit-wrong.ensures, eq-eqb _ _ c.if-wrong-ne-B7.false, c.message_bits.ensures))

pub overflow_cast-position : goal.overflow_cast-position
overflow_cast-position c = record { fits = omega (arith, trailing_le 8 c.wrong_bit-wrong.result) }

pub overflow_add-position : goal.overflow_add-position
overflow_add-position c = record { fits = omega (arith, trailing_le 8 c.wrong_bit-wrong.result) }

pub returns : goal.returns
returns c =
    by_told _ (search rules) (Corrected _ _)
    (rw (← c.tests_of-a.ensures, c.if-d.false, ← c.wrong_bit-wrong.ensures, c.message_bits-message.ensures))
