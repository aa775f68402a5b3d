-- What the rule of Hamming bytes gives: it inverts the sixteen sent bytes, mends one wrong bit and names it, refuses two, and of the 256 bytes 16 are
-- exact, 128 corrected and 112 refused.
use mathlib.Core.Path.{◌≡◌, refl, ap₂}
use mathlib.Core.Logic.{◌⊎◌, inl, inr}
use mathlib.Core.Bool.{Bool, true, false, ◌&&◌}
use mathlib.Core.Option.{Option, none, some}
use Prim.Native.Nat.{ℕ, zero, suc, ◌≤◌, ◌<◌}
use native.Mathlib.Omega.{arith}
use lib.Bits.{bit_xor}
use lib.Dec.{T, eqb, eqb→eq, lit≤}
use Rattle.laws.specs.Below.{all_below, count_below}
use Rattle.laws.proofs.Below.{at}
use Rattle.laws.proofs.Bools.{both_left, both_right}
use Rattle.laws.proofs.Found.{is, is_it, is_none, is_none_law}
use Rattle.laws.proofs.Keeps.{either}
use Rattle.laws.specs.Digits.{bit, weight}
use Rattle.coding.specs.Bits.{distance}
use Rattle.coding.specs.Hamming.{sent_message, tests_of, wrong_bit, exact, corrected, mended, judged, decoded, message_bits, message_in, message}
use Rattle.coding.specs.declared.Decoded.{Decoded}
use Rattle.coding.specs.declared.Decoded.TheVariants.{Exact, Corrected, Refused}

-- ---- a message is below 16, and a position one of 1 to 8

abbrev pub Small : Option ℕ → Type 0
Small none = Unit {0}
Small (some m) = m < 16

abbrev pub Ranged : Decoded → Type 0
Ranged (Exact m) = m < 16
Ranged (Corrected m position) = (m < 16) × (1 ≤ position) × (position ≤ 8)
Ranged Refused = Unit {0}

pub bits_small : (byte : ℕ) → message_bits byte < 16
unfolding message_bits bit weight
bits_small byte = omega arith

wrong_in : (a b c : Bool) → (1 ≤ wrong_bit a b c) × (wrong_bit a b c ≤ 8)
unfolding wrong_bit
wrong_in true true true = (lit≤ tt, lit≤ tt)
wrong_in false true true = (lit≤ tt, lit≤ tt)
wrong_in true false true = (lit≤ tt, lit≤ tt)
wrong_in false false true = (lit≤ tt, lit≤ tt)
wrong_in true true false = (lit≤ tt, lit≤ tt)
wrong_in false true false = (lit≤ tt, lit≤ tt)
wrong_in true false false = (lit≤ tt, lit≤ tt)
wrong_in false false false = (lit≤ tt, lit≤ tt)

pub ranged : (byte : ℕ) → Ranged (decoded byte)
unfolding decoded judged
ranged byte =
    let tests = tests_of byte in
    let position = wrong_bit tests.a tests.b tests.c in
    either Ranged (exact tests) (Exact (message_bits byte)) _ (bits_small byte)
    (either Ranged (corrected tests) (Corrected (message_bits (mended tests byte)) position) Refused
    (let place = wrong_in tests.a tests.b tests.c in (bits_small (mended tests byte), place.0, place.1)) tt)

small_in : (d : Decoded) → Ranged d → Small (message_in d)
unfolding message_in
small_in (Exact m) r = r
small_in (Corrected m position) r = r.0
small_in Refused r = tt

pub small : (byte : ℕ) → Small (message byte)
unfolding message
small byte = small_in (decoded byte) (ranged byte)

-- ---- what is sent and what is received: one test over all messages and bytes

-- what a byte so many bits off the byte of m must be read as; past two bits nothing is said
abbrev right : ℕ → Option ℕ → ℕ → Bool
right m got zero = is m got
right m got (suc zero) = is m got
right m got (suc (suc zero)) = is_none got
right m got (suc (suc (suc far))) = true

abbrev right_at : ℕ → ℕ → Option ℕ → Bool
right_at byte m got = right m got (distance byte (sent_message m))

all_right : T (all_below 256 (λ byte. all_below 16 (λ m. right_at byte m (message byte))))
unfolding all_below distance sent_message message
all_right = tt

-- at most one bit off: m
one_off : (m : ℕ) (got : Option ℕ) (far : ℕ) → T (right m got far) → far ≤ 1 → got ≡ some m
one_off m got zero t h = is_it m got t
one_off m got (suc zero) t h = is_it m got t
one_off m got (suc (suc far)) t h = absurd (omega arith)

-- two bits off: refused
two_off : (m : ℕ) (got : Option ℕ) (far : ℕ) → T (right m got far) → far ≡ 2 → got ≡ none
two_off m got zero t h = absurd (omega arith)
two_off m got (suc zero) t h = absurd (omega arith)
two_off m got (suc (suc zero)) t h = is_none_law got t
two_off m got (suc (suc (suc far))) t h = absurd (omega arith)

-- at most two bits off: m or refused, and never another message
some_off : (m : ℕ) (got : Option ℕ) (far : ℕ) → T (right m got far) → far ≤ 2 → (got ≡ some m) ⊎ (got ≡ none)
some_off m got zero t h = inl (is_it m got t)
some_off m got (suc zero) t h = inl (is_it m got t)
some_off m got (suc (suc zero)) t h = inr (is_none_law got t)
some_off m got (suc (suc (suc far))) t h = absurd (omega arith)

module _ (m byte : ℕ) (m-is : m < 16) (byte-is : byte < 256) where
  tried : T (right_at byte m (message byte))
  tried =
      at 16 (λ n. right_at byte n (message byte))
      (at 256 (λ b. all_below 16 (λ n. right_at b n (message b))) all_right byte byte-is)
      m m-is

  pub mends : distance byte (sent_message m) ≤ 1 → message byte ≡ some m
  mends = one_off m (message byte) (distance byte (sent_message m)) tried

  pub detects : distance byte (sent_message m) ≡ 2 → message byte ≡ none
  detects = two_off m (message byte) (distance byte (sent_message m)) tried

  pub never-another : distance byte (sent_message m) ≤ 2 → (message byte ≡ some m) ⊎ (message byte ≡ none)
  never-another = some_off m (message byte) (distance byte (sent_message m)) tried

-- ---- the wrong bit

-- a message's byte with one bit wrong is corrected, to that message, and the bit is named
abbrev mends_at : ℕ → ℕ → Decoded → Bool
mends_at m position (Exact value) = false
mends_at m position (Corrected value place) = eqb value m && eqb place position
mends_at m position Refused = false

-- the byte of m with the bit after b(n) wrong
abbrev wrong_after : ℕ → ℕ → ℕ
wrong_after m n = bit_xor (sent_message m) (weight (suc n))

all_named : T (all_below 16 (λ m. all_below 8 (λ n. mends_at m (suc n) (decoded (wrong_after m n)))))
unfolding all_below sent_message decoded weight
all_named = tt

mends_at_law : (m position : ℕ) (got : Decoded) → T (mends_at m position got) → got ≡ Corrected m position
mends_at_law m position (Exact value) t = absurd t
mends_at_law m position (Corrected value place) t =
    ap₂ Corrected (eqb→eq value m (both_left (eqb value m) (eqb place position) t))
    (eqb→eq place position (both_right (eqb value m) (eqb place position) t))
mends_at_law m position Refused t = absurd t

-- for all sixteen messages and all eight positions
pub wrong_bit_named : (m position : ℕ) → m < 16 → 1 ≤ position → position ≤ 8 → decoded (bit_xor (sent_message m) (weight position)) ≡ Corrected m position
wrong_bit_named m zero h low high = absurd (omega arith)
wrong_bit_named m (suc n) h low high =
    mends_at_law m (suc n) (decoded (wrong_after m n))
    (at 8 (λ k. mends_at m (suc k) (decoded (wrong_after m k)))
    (at 16 (λ k. all_below 8 (λ n. mends_at k (suc n) (decoded (wrong_after k n)))) all_named m h) n (omega arith))

inverts_each : T (all_below 16 (λ m. is m (message (sent_message m))))
unfolding all_below sent_message message
inverts_each = tt

pub inverts : (m : ℕ) → m < 16 → message (sent_message m) ≡ some m
inverts m h = is_it m (message (sent_message m)) (at 16 (λ n. is n (message (sent_message n))) inverts_each m h)

-- ---- of 256 bytes

pub exact_bytes : count_below 256 (λ byte. exact (tests_of byte)) ≡ 16
unfolding count_below exact tests_of
exact_bytes = refl

pub corrected_bytes : count_below 256 (λ byte. corrected (tests_of byte)) ≡ 128
unfolding count_below corrected tests_of
corrected_bytes = refl

pub refused_bytes : count_below 256 (λ byte. is_none (message byte)) ≡ 112
unfolding count_below message
refused_bytes = refl
