-- Which bytes are corrected, and how many of some bytes: a byte that is decoded as corrected, with its position, is just one whose test D fails; turning a byte
-- changes nothing about it; an exact byte is not one.
use mathlib.Core.Path.{◌≡◌, refl, sym, ap, ap₂, ◌∙◌}
use mathlib.Core.Bool.{Bool, true, false, cond, not, ◌&&◌}
use mathlib.Core.List.{List, [], ◌∷◌, ◌++◌}
use Prim.Native.Nat.{ℕ, ◌+◌, ◌≤◌, ◌<◌}
use native.Mathlib.Nat.{add_assoc, zero-add}
use native.Mathlib.Omega.{arith}
use lib.Bits.{bit_and}
use lib.Count.{ones}
use lib.Dec.{T, lit≤}
use lib.ListN.{length}
use Rattle.laws.specs.Below.{all_below}
use Rattle.laws.specs.Digits.{weight}
use Rattle.laws.specs.Every.{every}
use Rattle.laws.proofs.Below.{equal_at}
use Rattle.laws.proofs.Bools.{both_left, both_right}
use Rattle.laws.proofs.Keeps.{either}
use Rattle.coding.specs.Bits.{odd, turned_byte}
use Rattle.coding.specs.Hamming.{corrected, decoded, exact, holds, how_many_corrected, judged, over, tests_of}
use Rattle.coding.specs.declared.Decoded.{Decoded}
use Rattle.coding.specs.declared.Decoded.TheVariants.{Exact, Corrected, Refused}
use Rattle.coding.specs.declared.Tests.{Tests}

-- ---- one byte

abbrev pub is_corrected : Decoded → Bool
is_corrected (Exact m) = false
is_corrected (Corrected m position) = true
is_corrected Refused = false

-- all four tests hold, and so D does
pub exact_uncorrected : (tests : Tests) → T (exact tests) → corrected tests ≡ false
unfolding exact corrected
exact_uncorrected tests t = d-holds tests.d (both_right (tests.a && tests.b && tests.c) tests.d t)
  where
    d-holds : (d : Bool) → T d → not d ≡ false
    d-holds true t = refl
    d-holds false t = absurd t

by_tests : (e c : Bool) (x y position : ℕ) → (T e → c ≡ false) → is_corrected (cond e (Exact x) (cond c (Corrected y position) Refused)) ≡ c
by_tests true c x y position f = sym (f tt)
by_tests false true x y position f = refl
by_tests false false x y position f = refl

-- what `message_of` answers as corrected is what the tests call so
pub decoded_corrected : (byte : ℕ) → is_corrected (decoded byte) ≡ corrected (tests_of byte)
unfolding decoded judged
decoded_corrected byte = by_tests (exact (tests_of byte)) (corrected (tests_of byte)) _ _ _ (exact_uncorrected (tests_of byte))

-- turning moves bits and changes none, and D counts them all
pub corrected_turned : (byte : ℕ) → byte < 256 → corrected (tests_of (turned_byte byte)) ≡ corrected (tests_of byte)
unfolding all_below corrected tests_of holds over weight turned_byte ones
corrected_turned byte h =
    ap (λ (count : ℕ). not (odd count)) (equal_at 256 (λ b. ones (bit_and (turned_byte b) 0xFF)) (λ b. ones (bit_and b 0xFF)) tt byte h)

-- ---- how many

one_at_most : (b : Bool) → cond b 1 0 ≤ 1
one_at_most b = either (λ (n : ℕ). n ≤ 1) b 1 0 (lit≤ tt) (lit≤ tt)

pub corrected_at_most : (bytes : List ℕ) → how_many_corrected bytes ≤ length bytes
unfolding how_many_corrected
corrected_at_most [] = omega arith
corrected_at_most (byte ∷ others) = omega (arith, one_at_most (corrected (tests_of byte)), corrected_at_most others)

pub corrected_append : (a b : List ℕ) → how_many_corrected (a ++ b) ≡ how_many_corrected a + how_many_corrected b
unfolding how_many_corrected
corrected_append [] b = sym (zero-add (how_many_corrected b))
corrected_append (byte ∷ others) b =
    let this : ℕ = cond (corrected (tests_of byte)) 1 0 in
    ap (λ (n : ℕ). this + n) (corrected_append others b) ∙ sym (add_assoc this (how_many_corrected others) (how_many_corrected b))

pub none_corrected : (bytes : List ℕ) → T (every (λ byte. exact (tests_of byte)) bytes) → how_many_corrected bytes ≡ 0
unfolding how_many_corrected every
none_corrected [] t = refl
none_corrected (byte ∷ others) t =
    let this = both_left (exact (tests_of byte)) (every (λ b. exact (tests_of b)) others) t in
    let rest = both_right (exact (tests_of byte)) (every (λ b. exact (tests_of b)) others) t in
    ap₂ (λ (c : Bool) (n : ℕ). cond c 1 0 + n) (exact_uncorrected (tests_of byte) this) (none_corrected others rest)
