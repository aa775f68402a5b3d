-- Document 01, "Hamming bytes": character bytes need odd parity, and the character is the low seven bits.
use Rattle.std.specs.Prelude as code
use Rattle.std.specs.Prelude.{cond, ℕ, ◌+◌, ◌%◌}
use Rattle.std.proofs.Math.Option.{Option, none, some}
use Rattle.std.specs.Int.Count.{ones}
use Rattle.laws.specs.Paper.{Paper}
use Rattle.laws.specs.Digits.{weight}
use Rattle.coding.specs.Bits.{odd}
use Rattle.coding.specs.Hamming.{message_paper}

-- the character of a byte, or none where its parity is even
unfoldable pub character : ℕ → Option ℕ
unfolding odd ones
character byte = cond (odd (ones byte)) (some (byte % 128)) none

-- the byte as which a character is sent: b8 makes the count of ones odd
unfoldable pub sent_character : ℕ → ℕ
unfolding odd ones weight
sent_character code = cond (odd (ones code)) code (code + weight 8)

-- the paper's number and values, as a message's: an even character byte is an answer without a number
abbrev pub character_paper : code.Option ℕ → Paper
character_paper = message_paper
