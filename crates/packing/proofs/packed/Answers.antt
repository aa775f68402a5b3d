use mathlib.Core.Path.{◌≡◌, ◌∙◌, ap}
use mathlib.Core.List.{List}
use Prim.Native.Nat.{ℕ, ◌+◌, ◌*◌, ◌/◌, ◌%◌}
use borrow.Author.Rules.{rules}
use lib.ListN.{replicate}
use Rattle.laws.specs.Digits.{binary}
use Rattle.laws.specs.Fields.{bytes_of, digits, fields_bits}
use Rattle.packing.proofs.Bits.{EightBytes, eight_bytes}
use Rattle.packing.proofs.Groups.{apart_word, first_word, high_fits, nine-are}
use Rattle.packing.proofs.packed.Goals as goal
use Rattle.packing.proofs.packed.Goals.{After-first_bits, After-last_bits-bytes}

-- the words that were made
module _ (c : After-first_bits) where
  abbrev lasts : After-last_bits-bytes
  lasts = c.before.before

  abbrev marks : List ℕ
  marks = lasts.before.args.marks

  abbrev characters : List ℕ
  characters = lasts.before.args.characters

  mark-bytes : EightBytes marks
  mark-bytes = eight_bytes marks (search rules) (λ k. search rules)

  character-bytes : EightBytes characters
  character-bytes = eight_bytes characters (search rules) (λ k. search rules)

  word : c.before.apart.result + c.first_bits.result ≡ apart_word marks characters + first_word marks
  word =
      let moved = c.before.apart.ensures ∙ ap (λ (n : ℕ). binary (fields_bits (replicate 7 9) (bytes_of 7 (digits 56 (n / 256)))) * 2) lasts.last_bits-bytes.ensures in
      λ i. moved i + c.first_bits.ensures i

pub overflow_add-apart : goal.overflow_add-apart
overflow_add-apart c = record { fits = rw (word c) (high_fits (marks c) (characters c) (mark-bytes c) (character-bytes c)) }

pub returns : goal.returns
returns c =
    let made = c.before in
    (λ i. record {
      first = (c.bytes_of.ensures ∙ ap (λ (n : ℕ). bytes_of 8 (digits 64 n)) (word made)) i;
      last = (lasts made).last_bits-bytes.ensures i % 256;
    })
    ∙ nine-are (marks made) (characters made) (mark-bytes made) (character-bytes made)
