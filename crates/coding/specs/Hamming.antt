-- Document 01, "Hamming bytes". From b1 up a byte holds P1 M1 P2 M2 P3 M3 P4 M4.
use Rattle.std.specs.Prelude as code
use Rattle.std.specs.Prelude.{Bool, true, false, not, cond, ◌&&◌, List, [], ◌∷◌, ℕ, ◌+◌, ◌*◌, get_or}
use Rattle.std.proofs.Math.Option.{Option, none, some}
use Rattle.std.specs.Int.Bits.{bit_and, bit_xor}
use Rattle.std.specs.Int.Count.{ones}
use Rattle.laws.specs.Paper.{Paper, accepted, unnumbered}
use Rattle.laws.specs.Digits.{weight, bit}
use Rattle.coding.specs.Bits.{odd}
use Rattle.coding.specs.declared.Decoded.{Decoded}
use Rattle.coding.specs.declared.Decoded.TheVariants.{Exact, Corrected, Refused}
use Rattle.coding.specs.declared.Tests.{Tests}

-- messages 0 to 15 are sent as
unfoldable pub sent_bytes : List ℕ
sent_bytes =
    0x15 ∷ 0x02 ∷ 0x49 ∷ 0x5E ∷ 0x64 ∷ 0x73 ∷ 0x38 ∷ 0x2F
    ∷ 0xD0 ∷ 0xC7 ∷ 0x8C ∷ 0x9B ∷ 0xA1 ∷ 0xB6 ∷ 0xFD ∷ 0xEA ∷ []

-- the byte as which a message is sent
unfoldable pub sent_message : ℕ → ℕ
unfolding sent_bytes
sent_message message = get_or sent_bytes message 0

-- the mask of some bits
unfoldable pub over : List ℕ → ℕ
unfolding weight
over [] = 0
over (n ∷ ns) = weight n + over ns

-- a test over some bits holds: their count of ones is odd
unfoldable pub holds : List ℕ → ℕ → Bool
unfolding over odd ones
holds bits byte = odd (ones (bit_and byte (over bits)))

-- the tests A, B, C and D, each true where it holds
unfoldable pub tests_of : ℕ → Tests
unfolding holds
tests_of byte =
    record {
      a = holds (1 ∷ 2 ∷ 6 ∷ 8 ∷ []) byte;
      b = holds (2 ∷ 3 ∷ 4 ∷ 8 ∷ []) byte;
      c = holds (2 ∷ 4 ∷ 5 ∷ 6 ∷ []) byte;
      d = holds (1 ∷ 2 ∷ 3 ∷ 4 ∷ 5 ∷ 6 ∷ 7 ∷ 8 ∷ []) byte;
    }

-- where D fails, which bit is wrong, by A, B and C: the bit over which just those that fail are taken
unfoldable pub wrong_bit : Bool → Bool → Bool → ℕ
wrong_bit true true true = 7
wrong_bit false true true = 1
wrong_bit true false true = 3
wrong_bit false false true = 8
wrong_bit true true false = 5
wrong_bit false true false = 6
wrong_bit true false false = 4
wrong_bit false false false = 2

-- M1 to M4, lowest weight first
unfoldable pub message_bits : ℕ → ℕ
unfolding bit
message_bits byte = bit byte 2 + 2 * bit byte 4 + 4 * bit byte 6 + 8 * bit byte 8

-- all four tests hold
unfoldable pub exact : Tests → Bool
exact tests = tests.a && tests.b && tests.c && tests.d

-- D fails: one wrong bit, corrected
unfoldable pub corrected : Tests → Bool
corrected tests = not tests.d

-- the byte with its wrong bit complemented
unfoldable pub mended : Tests → ℕ → ℕ
unfolding wrong_bit weight
mended tests byte = bit_xor byte (weight (wrong_bit tests.a tests.b tests.c))

-- what a byte is by its tests: exact, with its message; corrected, with its message and the position of its wrong bit, 1 to 8; or refused, where D holds
-- and another fails
unfoldable pub judged : Tests → ℕ → Decoded
unfolding exact corrected mended message_bits wrong_bit
judged tests byte =
    cond (exact tests) (Exact (message_bits byte))
    (cond (corrected tests) (Corrected (message_bits (mended tests byte)) (wrong_bit tests.a tests.b tests.c)) Refused)

unfoldable pub decoded : ℕ → Decoded
unfolding judged tests_of
decoded byte = judged (tests_of byte) byte

-- the message of a byte, or none where it is refused
unfoldable pub message_in : Decoded → Option ℕ
message_in (Exact value) = some value
message_in (Corrected value position) = some value
message_in Refused = none

unfoldable pub message : ℕ → Option ℕ
unfolding message_in decoded
message byte = message_in (decoded byte)

-- how many of some bytes are corrected: document 02, request 3, "by 01's tests"
unfoldable pub how_many_corrected : List ℕ → ℕ
unfolding corrected tests_of
how_many_corrected [] = 0
how_many_corrected (byte ∷ others) = cond (corrected (tests_of byte)) 1 0 + how_many_corrected others

-- the paper's number and values: an exact byte has its message, a corrected one its message and the position of its wrong bit; a refused Hamming byte is an
-- answer without a number
unfoldable pub decoded_paper : Decoded → Paper
unfolding accepted unnumbered
decoded_paper (Exact value) = accepted (value ∷ [])
decoded_paper (Corrected value position) = accepted (value ∷ position ∷ [])
decoded_paper Refused = unnumbered

-- the same of a message alone, where it is not asked whether its byte was corrected
unfoldable pub message_paper : code.Option ℕ → Paper
unfolding accepted unnumbered
message_paper (code.Some value) = accepted (value ∷ [])
message_paper code.None = unnumbered
