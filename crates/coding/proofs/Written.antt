-- Bytes as they are sent, by one test each: a byte turned twice is itself; a message's byte is exact and holds the message, a character's is odd and holds the
-- character.
use mathlib.Core.Path.{◌≡◌}
use Prim.Native.Nat.{ℕ, ◌%◌, ◌<◌}
use lib.Count.{ones}
use lib.Dec.{T, ltb, ltb→lt}
use Rattle.laws.specs.Below.{all_below}
use Rattle.laws.proofs.Below.{at, equal_at}
use Rattle.coding.specs.Bits.{odd, turned_byte}
use Rattle.coding.specs.Characters.{sent_character}
use Rattle.coding.specs.Hamming.{exact, message_bits, sent_message, tests_of}

pub turned_back : (byte : ℕ) → byte < 256 → turned_byte (turned_byte byte) ≡ byte
unfolding all_below turned_byte
turned_back byte h = equal_at 256 (λ b. turned_byte (turned_byte b)) (λ b. b) tt byte h

-- ---- the byte of a message

messages_small : T (all_below 16 (λ m. ltb (sent_message m) 256))
unfolding all_below sent_message
messages_small = tt

pub message_small : (m : ℕ) → m < 16 → sent_message m < 256
message_small m h = ltb→lt (sent_message m) 256 (at 16 (λ n. ltb (sent_message n) 256) messages_small m h)

messages_exact : T (all_below 16 (λ m. exact (tests_of (sent_message m))))
unfolding all_below sent_message exact tests_of
messages_exact = tt

pub message_exact : (m : ℕ) → m < 16 → T (exact (tests_of (sent_message m)))
message_exact m h = at 16 (λ n. exact (tests_of (sent_message n))) messages_exact m h

pub message_held : (m : ℕ) → m < 16 → message_bits (sent_message m) ≡ m
unfolding all_below sent_message message_bits
message_held m h = equal_at 16 (λ n. message_bits (sent_message n)) (λ n. n) tt m h

-- ---- the byte of a character

characters_small : T (all_below 128 (λ code. ltb (sent_character code) 256))
unfolding all_below sent_character
characters_small = tt

pub character_small : (code : ℕ) → code < 128 → sent_character code < 256
character_small code h = ltb→lt (sent_character code) 256 (at 128 (λ n. ltb (sent_character n) 256) characters_small code h)

characters_odd : T (all_below 128 (λ code. odd (ones (sent_character code))))
unfolding all_below sent_character odd ones
characters_odd = tt

pub character_odd : (code : ℕ) → code < 128 → T (odd (ones (sent_character code)))
character_odd code h = at 128 (λ n. odd (ones (sent_character n))) characters_odd code h

pub character_held : (code : ℕ) → code < 128 → sent_character code % 128 ≡ code
unfolding all_below sent_character
character_held code h = equal_at 128 (λ n. sent_character n % 128) (λ n. n) tt code h
