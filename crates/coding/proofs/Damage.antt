-- What damage does to one byte: a sent Hamming byte with at most one wrong bit, or two, and a sent character byte with an odd number of wrong bits.
use mathlib.Core.Path.{◌≡◌, refl, ap, ◌∙◌, subst}
use mathlib.Core.Logic.{◌⊎◌}
use mathlib.Core.Bool.{not, ◌&&◌, ◌||◌}
use mathlib.Core.Option.{none, some}
use Prim.Native.Nat.{ℕ, zero, suc, ◌+◌, ◌*◌, ◌/◌, ◌%◌, ◌≤◌, ◌<◌, min}
use native.Mathlib.Nat.{mod-lt}
use native.Mathlib.Omega.{arith}
use borrow.Author.Tests.{eq-eqb, ne_eqb}
use lib.Arith.{bin_ind}
use lib.Bits.{bit_and, bit_xor, differ, and_step, xor_step, xor_add_and, and_le_l, and_le_r}
use lib.Count.{ones, ones_step, ones_cat}
use lib.Dec.{T, eqb, eqb→eq, lit<}
use Rattle.laws.specs.Below.{all_below}
use Rattle.laws.specs.Digits.{weight}
use Rattle.laws.proofs.Below.{at, equal_at}
use Rattle.laws.proofs.Bools.{both_right, passed, where_asked}
use Rattle.coding.specs.Bits.{odd, distance}
use Rattle.coding.specs.Characters.{character}
use Rattle.coding.specs.Hamming.{sent_message, tests_of, exact, corrected, holds, over, message_bits, message}
use Rattle.coding.proofs.Hamming.{bits_small, mends, never-another}

-- ---- counts of ones

ones_bit : (n : ℕ) → n < 2 → ones n ≡ n
unfolding ones
ones_bit zero h = refl
ones_bit (suc zero) h = refl
ones_bit (suc (suc n)) h = absurd (omega arith)

-- a digit below a number
ones_digit : (high low : ℕ) → low < 2 → ones (high * 2 + low) ≡ ones high + low
ones_digit high low h = ones_cat 1 high low h ∙ ap (λ (n : ℕ). ones high + n) (ones_bit low h)

-- two digits: their difference and their carry
digits_add : (x y : ℕ) → x < 2 → y < 2 → (differ x y + 2 * min x y ≡ x + y) × (differ x y < 2) × (min x y < 2)
digits_add zero zero hx hy = (refl, lit< tt, lit< tt)
digits_add zero (suc zero) hx hy = (refl, lit< tt, lit< tt)
digits_add zero (suc (suc y)) hx hy = absurd (omega arith)
digits_add (suc zero) zero hx hy = (refl, lit< tt, lit< tt)
digits_add (suc zero) (suc zero) hx hy = (refl, lit< tt, lit< tt)
digits_add (suc zero) (suc (suc y)) hx hy = absurd (omega arith)
digits_add (suc (suc x)) y hx hy = absurd (omega arith)

-- the bits in which two numbers differ, and those that both have
pub ones_xor : (a b : ℕ) → ones (bit_xor a b) + 2 * ones (bit_and a b) ≡ ones a + ones b
ones_xor = bin_ind (λ (n : ℕ). (b : ℕ) → ones (bit_xor n b) + 2 * ones (bit_and n b) ≡ ones n + ones b) none_left step
  where
    none_left : (b : ℕ) → ones (bit_xor 0 b) + 2 * ones (bit_and 0 b) ≡ ones 0 + ones b
    none_left b = omega (arith, ones_bit 0 (lit< tt))

    step : (n : ℕ) → ((b : ℕ) → ones (bit_xor (n / 2) b) + 2 * ones (bit_and (n / 2) b) ≡ ones (n / 2) + ones b) → (b : ℕ)
        → ones (bit_xor n b) + 2 * ones (bit_and n b) ≡ ones n + ones b
    step n ih b =
        let d = digits_add (n % 2) (b % 2) (mod-lt n (lit< tt)) (mod-lt b (lit< tt)) in
        let apart = ap ones (xor_step n b) ∙ ones_digit (bit_xor (n / 2) (b / 2)) (differ (n % 2) (b % 2)) d.1 in
        let both = ap ones (and_step n b) ∙ ones_digit (bit_and (n / 2) (b / 2)) (min (n % 2) (b % 2)) d.2 in
        omega (arith, ih (b / 2), d.0, apart, both, ones_step n, ones_step b)

pub no_ones : (n : ℕ) → ones n ≡ 0 → n ≡ 0
no_ones = bin_ind (λ (n : ℕ). ones n ≡ 0 → n ≡ 0) (λ e. refl) step
  where
    step : (n : ℕ) → (ones (n / 2) ≡ 0 → n / 2 ≡ 0) → ones n ≡ 0 → n ≡ 0
    step n ih e =
        let rest : ones (n / 2) ≡ 0 = omega (arith, ones_step n) in
        omega (arith, ones_step n, ih rest)

pub same_byte : (a b : ℕ) → distance a b ≡ 0 → a ≡ b
unfolding distance
same_byte a b e = omega (arith, no_ones (bit_xor a b) e, xor_add_and a b, and_le_l a b, and_le_r a b)

-- ---- a Hamming byte

-- an exact byte is that of its message bits
exact_each : T (all_below 256 (λ byte. not (exact (tests_of byte)) || eqb (sent_message (message_bits byte)) byte))
unfolding all_below exact tests_of sent_message message_bits
exact_each = tt

pub exact_sent : (byte : ℕ) → byte < 256 → T (exact (tests_of byte)) → sent_message (message_bits byte) ≡ byte
exact_sent byte h t =
    eqb→eq (sent_message (message_bits byte)) byte
    (where_asked (exact (tests_of byte)) (eqb (sent_message (message_bits byte)) byte)
    (at 256 (λ b. not (exact (tests_of b)) || eqb (sent_message (message_bits b)) b) exact_each byte h) t)

-- test D of a byte counts all its ones
counts_all : (byte : ℕ) → byte < 256 → (tests_of byte).d ≡ odd (ones byte)
unfolding all_below tests_of holds over weight
counts_all byte h = ap (λ (n : ℕ). odd (ones n)) (equal_at 256 (λ b. bit_and b 0xFF) (λ b. b) tt byte h)

-- ---- a character byte

pub character_odd : (byte : ℕ) → T (odd (ones byte)) → character byte ≡ some (byte % 128)
unfolding character
character_odd byte t = rw (passed (odd (ones byte)) t)

pub character_even : (byte : ℕ) → ones byte % 2 ≡ 0 → character byte ≡ none
unfolding character
character_even byte e = rw (ne_eqb (ones byte % 2) 1 (λ d. omega arith))

-- ---- s is sent, and r received

module _ (s r : ℕ) (s-is : s < 256) (r-is : r < 256) where
  -- at most one bit off: the message sent
  pub hamming-one : T (exact (tests_of s)) → distance r s ≤ 1 → message r ≡ some (message_bits s)
  hamming-one t h = mends (message_bits s) r (bits_small s) r-is (rw (exact_sent s s-is t) h)

  -- at most two: that, or a refusal
  pub hamming-two : T (exact (tests_of s)) → distance r s ≤ 2 → (message r ≡ some (message_bits s)) ⊎ (message r ≡ none)
  hamming-two t h = never-another (message_bits s) r (bits_small s) r-is (rw (exact_sent s s-is t) h)

  -- and at most one bit off it is corrected just where it is off
  pub hamming-off : T (exact (tests_of s)) → distance r s ≤ 1 → corrected (tests_of r) ≡ not (eqb (distance r s) 0)
  unfolding exact corrected odd distance
  hamming-off t h = ap not (counts_all r r-is ∙ by-distance (ones (bit_xor r s)) refl h)
    where
      sent-odd : ones s % 2 ≡ 1
      sent-odd = eqb→eq (ones s % 2) 1 (subst T (counts_all s s-is) (both_right ((tests_of s).a && (tests_of s).b && (tests_of s).c) (tests_of s).d t))

      by-distance : (far : ℕ) → ones (bit_xor r s) ≡ far → far ≤ 1 → eqb (ones r % 2) 1 ≡ eqb far 0
      by-distance zero e near = eq-eqb (ones r % 2) 1 (omega (arith, ones_xor r s, sent-odd))
      by-distance (suc zero) e near = ne_eqb (ones r % 2) 1 (λ odd. omega (arith, ones_xor r s, sent-odd))
      by-distance (suc (suc far)) e near = absurd (omega arith)

  -- a character byte as it was sent
  pub character-kept : T (odd (ones s)) → distance r s ≡ 0 → character r ≡ some (s % 128)
  character-kept t e = ap character (same_byte r s e) ∙ character_odd s t

  -- an odd number of bits off: refused
  pub character-spoiled : T (odd (ones s)) → T (odd (distance r s)) → character r ≡ none
  unfolding odd distance
  character-spoiled t e =
      character_even r (omega (arith, ones_xor r s, eqb→eq (ones s % 2) 1 t, eqb→eq (ones (bit_xor r s) % 2) 1 e))
