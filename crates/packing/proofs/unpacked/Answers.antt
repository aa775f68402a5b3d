use mathlib.Core.Path.{◌≡◌, ◌∙◌, ap}
use mathlib.Core.List.{List, map}
use Prim.Native.Nat.{ℕ, ◌+◌, ◌*◌, ◌/◌, ◌<◌}
use borrow.Author.Rules.{rules}
use lib.Bits.{bit_and}
use Rattle.laws.specs.Digits.{binary}
use Rattle.laws.specs.Fields.{bits_of, bytes_of, digits, total}
use Rattle.laws.proofs.Words.{word}
use Rattle.packing.specs.Private.{bits_in, bytes_in, twice}
use Rattle.packing.proofs.Bits.{EightBytes, eight_bytes, over}
use Rattle.packing.proofs.Groups.{eight_are, lasts_read, marks-word-fits, marks_word}
use Rattle.packing.proofs.unpacked.Goals as goal
use Rattle.packing.proofs.unpacked.Goals.{After-upper_bits, After-word_of-word}

-- the words that were made
module _ (c : After-upper_bits) where
  abbrev read : After-word_of-word
  read = c.before.before

  abbrev first : List ℕ
  first = read.before.args.first

  abbrev last : ℕ
  last = read.before.args.last

  first-bytes : EightBytes first
  first-bytes = eight_bytes first (search rules) (λ k. search rules)

  last_byte : last < 256
  last_byte = search rules

  cells : c.before.together.result * 256 + last ≡ lasts_read first first-bytes last last_byte
  cells =
      let bytes = c.before.together.ensures.0 ∙ ap (λ (n : ℕ). binary (bits_of (bytes_in n))) read.word_of-word.ensures in
      λ i. bytes i * 256 + last

  marks : bit_and (c.before.together.result * 256 + last) (over 128) / 128 + c.upper_bits.result ≡ marks_word first first-bytes last last_byte
  marks =
      let upper = c.upper_bits.ensures ∙ ap (λ (n : ℕ). binary (bits_of (map twice (bits_in n)))) read.word_of-word.ensures in
      λ i. bit_and (cells i) (over 128) / 128 + upper i

pub overflow_add-cells-2 : goal.overflow_add-cells-2
unfolding word total
overflow_add-cells-2 c = record { fits = rw (marks c) (marks-word-fits (first c) (first-bytes c) (last c) (last_byte c)) }

pub returns : goal.returns
unfolding word total
returns c =
    let made = c.before.before in
    (λ i. record {
      marks = (c.before.bytes_of.ensures ∙ ap (λ (n : ℕ). bytes_of 8 (digits 64 n)) (marks made)) i;
      characters = (c.bytes_of-2.ensures ∙ ap (λ (n : ℕ). bytes_of 8 (digits 64 (bit_and n (over 127)))) (cells made)) i;
    })
    ∙ eight_are (first made) (first-bytes made) (last made) (last_byte made)
