-- How long the texts are at most.
use Rattle.std.proofs.Common.{◌≡◌, ℕ, ◌+◌, ◌^◌, ◌<◌, ◌≤◌, cond, List, ◌++◌, length, arith, length-append, eqb}
use Rattle.laws.specs.Text.{line_feed}
use Rattle.laws.proofs.Keeps.{either}
use Rattle.texts.specs.Decimal.{decimal, most_digits}
use Rattle.texts.proofs.Decimal.{word_digits}
use Rattle.tally.specs.Tally.{
  byte_mended,
  bytes_mended,
  count_text,
  in_word,
  line_word,
  lines_word,
  mended_size,
  mended_text,
  of_word,
  share_size,
  share_text,
}

count-length : (count : ℕ) (one others : List ℕ) → count < 2 ^ 64 → (most : ℕ) → length one ≤ most → length others ≤ most
    → length (count_text count one others) ≤ most_digits + most
unfolding count_text
count-length count one others word most h k =
    let digits = word_digits count word in
    let behind = either (λ (text : List ℕ). length text ≤ most) (eqb count 1) one others h k in
    omega (arith, length-append (decimal count) (cond (eqb count 1) one others))

pub mended_length : (count : ℕ) → count < 2 ^ 64 → length (mended_text count) ≤ mended_size
unfolding mended_text
mended_length count word = count-length count (byte_mended ++ line_feed) (bytes_mended ++ line_feed) word (length (bytes_mended ++ line_feed)) (omega arith) (omega arith)

four-length : (a b c d : List ℕ) → length (a ++ (b ++ (c ++ d))) ≡ length a + (length b + (length c + length d))
four-length a b c d = simp length-append

pub share_length : (mended mended_lines lines : ℕ) → mended < 2 ^ 64 → mended_lines < 2 ^ 64 → lines < 2 ^ 64 → length (share_text mended mended_lines lines) ≤ share_size
unfolding share_text
share_length mended mended_lines lines m f l =
    let few = word_digits mended_lines f in
    let first = count-length mended (byte_mended ++ in_word) (bytes_mended ++ in_word) m (length (bytes_mended ++ in_word)) (omega arith) (omega arith) in
    let last = count-length lines (line_word ++ line_feed) (lines_word ++ line_feed) l (length (lines_word ++ line_feed)) (omega arith) (omega arith) in
    let whole = four-length (count_text mended (byte_mended ++ in_word) (bytes_mended ++ in_word)) (decimal mended_lines) of_word (count_text lines (line_word ++ line_feed) (lines_word ++ line_feed)) in
    omega arith
