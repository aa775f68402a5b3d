-- The words of a line: where English stands in and where it does not, and how long they are at most.
use Rattle.std.specs.Prelude.{Option, Some, None}
use mathlib.Core.List.{List, [], ◌++◌}
use Prim.Native.Nat.{ℕ, ◌^◌, ◌<◌, ◌≤◌}
use native.Mathlib.Omega.{arith}
use lib.ListN.{length, length-append}
use Rattle.laws.proofs.Keeps.{either}
use Rattle.letters.specs.Said.{stand_in_text}
use Rattle.letters.specs.Sets.{stands_in}
use Rattle.packet.specs.declared.Header.{Header}
use Rattle.tally.specs.Tally.{mended_text}
use Rattle.tally.proofs.Tallying.{mended_length}
use Rattle.watch.specs.declared.Word.{Word}
use Rattle.watch.specs.declared.Word.TheVariants as word
use Rattle.heading.specs.Line.{clean_text, comma, english_size, english_text, heading_text, line_size, line_text, word_size, word_text}

module _ (control : ℕ) where
  pub english_length : length (english_text control) ≤ english_size
  unfolding english_text
  english_length = either (λ (text : List ℕ). length text ≤ english_size) (stands_in control) (stand_in_text control ++ comma) [] (omega arith) (omega arith)

  pub word-length : (which : Option Word) → length (word_text which control) ≤ word_size
  unfolding word_text
  word-length None = omega arith
  word-length (Some word.Clean) = let more = english_length in omega (arith, length-append clean_text (english_text control))
  word-length (Some word.Doubt) = omega arith
  word-length (Some word.Missing) = omega arith

-- ---- the whole line, for those who lend it on

module _ (which : Option Word) (magazine : ℕ) (header : Header) (mended : ℕ) where
  pub line_length_law : mended < 2 ^ 64 → length (line_text which magazine header mended) ≤ line_size
  unfolding line_text heading_text
  line_length_law small =
      let words = word_text which header.control in
      let first = word-length header.control which in
      let last = mended_length mended small in
      let behind = length-append words (mended_text mended) in
      let whole = length-append (heading_text magazine header) (words ++ mended_text mended) in
      omega arith
