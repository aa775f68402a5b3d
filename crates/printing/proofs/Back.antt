-- A page's text in UTF-8 reads back as its letters, and is no longer than its room: each byte of the page can be printed, so that it has a letter, and each letter reads back and is
-- short. And the set goes by C12, C13 and C14.
use mathlib.Core.Path.{◌≡◌, ◌∙◌, ap}
use mathlib.Core.Bool.{Bool, true}
use mathlib.Core.List.{List, [], ◌∷◌, ◌++◌, map}
use mathlib.Core.Option.{some}
use Prim.Native.Nat.{ℕ, zero, suc, ◌+◌, ◌*◌, ◌/◌, ◌%◌, ◌<◌, ◌≤◌}
use native.Mathlib.Omega.{arith}
use lib.Dec.{T, ltb, lt→ltb, ltb→lt}
use lib.ListN.{length, get_or, take, drop, length-append}
use Rattle.laws.specs.Digits.{binary, bit}
use Rattle.laws.specs.Every.{every}
use Rattle.laws.specs.Text.{line_feed}
use Rattle.laws.proofs.Bools.{both_left, both_right, passed}
use Rattle.laws.proofs.Keeps.{both, every_append, every_map, passes}
use Rattle.letters.specs.Sets.{letter_of, option_of}
use Rattle.letters.specs.Utf8.{is_letter, letters_of, most_of_letters, utf8, utf8_text}
use Rattle.letters.proofs.AllSets.{over_all_sets}
use Rattle.letters.proofs.Reading.{only_forms}
use Rattle.grid.specs.Grid.{columns, rows}
use Rattle.packet.specs.Headers.{control_bit, header_from, lowest_first}
use Rattle.packet.specs.declared.Header.{Header}
use Rattle.display.specs.Pages.{is_page, page_cells}
use Rattle.display.specs.declared.Cell.{Cell}
use Rattle.display.proofs.Each.{Each}
use Rattle.printing.specs.Back.{PagesReadBack}
use Rattle.printing.specs.Letters.{page_letters, utf8_page_size, utf8_page_text}
use Rattle.printing.specs.Pages.{line_text, lines_text, page_text}
use Rattle.printing.specs.Printed.{cell_byte}
use Rattle.printing.proofs.Pages.{page_most}
use Rattle.printing.proofs.Printable.{PrintableCell, page_printable}

-- ---- what is printed are bytes

abbrev is_byte : ℕ → Bool
is_byte number = ltb number 256

each_take : (n : ℕ) (cells : List Cell) → Each PrintableCell cells → Each PrintableCell (take n cells)
each_take zero cells each = tt
each_take (suc n) [] each = tt
each_take (suc n) (cell ∷ cells) each = (each.0, each_take n cells each.1)

each_drop : (n : ℕ) (cells : List Cell) → Each PrintableCell cells → Each PrintableCell (drop n cells)
each_drop zero cells each = each
each_drop (suc n) [] each = tt
each_drop (suc n) (cell ∷ cells) each = each_drop n cells each.1

cells_bytes : (cells : List Cell) → Each PrintableCell cells → T (every is_byte (map cell_byte cells))
unfolding every
cells_bytes [] each = tt
cells_bytes (cell ∷ cells) each =
    let high = each.0.1 in
    both (is_byte (cell_byte cell)) (every is_byte (map cell_byte cells)) (lt→ltb (cell_byte cell) 256 (omega arith)) (cells_bytes cells each.1)

lines_bytes : (count : ℕ) (cells : List Cell) → Each PrintableCell cells → T (every is_byte (lines_text count cells))
unfolding lines_text every line_text
lines_bytes zero cells each = tt
lines_bytes (suc count) cells each =
    let row = take columns cells in
    every_append is_byte (line_text row) (lines_text count (drop columns cells))
    (every_append is_byte (map cell_byte row) line_feed (cells_bytes row (each_take columns cells each)) tt)
    (lines_bytes count (drop columns cells) (each_drop columns cells each))

page_bytes : (codes : List ℕ) → is_page codes ≡ true → T (every is_byte (page_text codes))
unfolding page_text
page_bytes codes e = lines_bytes rows (page_cells codes) (page_printable codes e)

-- ---- whose letters read back

a_letter : (control code : ℕ) → code < 256 → is_letter (letter_of control code) ≡ true
a_letter control code h =
    (only_forms.no_other (utf8 (letter_of control code)) (record { letter = letter_of control code; left = [] }) (over_all_sets.read_back control code h)).0

pages : (control : ℕ) (codes : List ℕ) → is_page codes ≡ true → letters_of (utf8_page_text control codes) ≡ some (page_letters control codes)
unfolding utf8_page_text page_letters
pages control codes e =
    let bytes = page_bytes codes e in
    let letters = every_map is_byte is_letter (letter_of control) (λ code t. passes _ (a_letter control code (ltb→lt code 256 t))) (page_text codes) bytes in
    only_forms.texts (page_letters control codes) (passed _ letters)

-- ---- and have few bytes

short : (control : ℕ) (bytes : List ℕ) → T (every is_byte bytes) → length (utf8_text (map (letter_of control) bytes)) ≤ most_of_letters * length bytes
unfolding utf8_text every
short control [] t = omega arith
short control (byte ∷ bytes) t =
    let letter = letter_of control byte in
    let small = ltb→lt byte 256 (both_left (is_byte byte) (every is_byte bytes) t) in
    let first = over_all_sets.short control byte small in
    let others = short control bytes (both_right (is_byte byte) (every is_byte bytes) t) in
    let whole = length-append (utf8 letter) (utf8_text (map (letter_of control) bytes)) in
    omega arith

-- so that there is room for every page
pub utf8_most : (control : ℕ) (codes : List ℕ) → is_page codes ≡ true → length (utf8_page_text control codes) ≤ utf8_page_size
unfolding utf8_page_text page_letters
utf8_most control codes e =
    let most = page_most codes in
    let text = short control (page_text codes) (page_bytes codes e) in
    omega arith

-- ---- by C12, C13 and C14

bits : (header : Header) → option_of header.control ≡ 4 * control_bit header 12 + 2 * control_bit header 13 + control_bit header 14
unfolding option_of control_bit
bits header = omega arith

last_bit : (above low : ℕ) → low < 2 → (above * 2 + low) % 2 ≡ low
last_bit above low h = omega arith

-- C12 to C14 are the last of the control bits, whatever the others are
last_three : (others c12 c13 c14 : ℕ) → c12 < 2 → c13 < 2 → c14 < 2 → option_of (others * 8 + (c12 * 4 + (c13 * 2 + c14))) ≡ 4 * c12 + 2 * c13 + c14
unfolding option_of
last_three others c12 c13 c14 h i j =
    let control = others * 8 + (c12 * 4 + (c13 * 2 + c14)) in
    let first : control / 4 ≡ others * 2 + c12 = omega arith in
    let second : control / 2 ≡ (others * 2 + c12) * 2 + c13 = omega arith in
    let third : control / 1 ≡ ((others * 2 + c12) * 2 + c13) * 2 + c14 = omega arith in
    rw (first, second, third, last_bit others c12 h, last_bit (others * 2 + c12) c13 i, last_bit ((others * 2 + c12) * 2 + c13) c14 j)

a_bit : (number n : ℕ) → bit number n < 2
unfolding bit
a_bit number n = omega arith

sent : (messages : List ℕ)
    → option_of (header_from messages).control ≡ 4 * bit (get_or messages 7 0) 2 + 2 * bit (get_or messages 7 0) 3 + bit (get_or messages 7 0) 4
unfolding header_from
sent messages =
    let last = get_or messages 7 0 in
    let first : List ℕ =
    (bit (get_or messages 3 0) 4 ∷ bit (get_or messages 5 0) 3 ∷ bit (get_or messages 5 0) 4 ∷ []) ++ (lowest_first (get_or messages 6 0) ++ (bit last 1 ∷ [])) in
    let others = binary first in
    let is : (header_from messages).control ≡ others * 8 + (bit last 2 * 4 + (bit last 3 * 2 + bit last 4)) = omega arith in
    ap option_of is ∙ last_three others (bit last 2) (bit last 3) (bit last 4) (a_bit last 2) (a_bit last 3) (a_bit last 4)

pub pages_read_back : PagesReadBack
pages_read_back = record { pages = pages; bits = bits; sent = sent }
