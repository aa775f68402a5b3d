-- Document 02, request 4: a page printer that writes UTF-8, and says where English stands in. What is refused is what the display refuses, by 25.
use Rattle.std.specs.Prelude.{Bool, false, cond, List, [], map, ℕ, ◌*◌, length, replicate, Result, Ok, Err}
use Rattle.laws.specs.Paper.{Paper, accepted, refused_by}
use Rattle.laws.specs.Text.{padded}
use Rattle.letters.specs.Sets.{letter_of, stands_in}
use Rattle.letters.specs.Utf8.{most_of_letters, utf8_text}
use Rattle.display.specs.Pages.{is_page}
use Rattle.printing.specs.Pages.{page_size, page_text}
use Rattle.display.specs.declared.NotAPage.{NotAPage}
use Rattle.printing.specs.declared.Utf8Page.{Utf8Page}

-- the letters of a page: of each byte that the page printer prints, the letter under the page's control bits. So a letter is printed as its national letter, also among mosaics
-- and in a lower half; a space, a line feed and the "?" of mosaics and of 7F are outside the thirteen, and stay
unfoldable pub page_letters : ℕ → List ℕ → List ℕ
unfolding letter_of page_text
page_letters control codes = map (letter_of control) (page_text codes)

unfoldable pub utf8_page_text : ℕ → List ℕ → List ℕ
unfolding utf8_text page_letters
utf8_page_text control codes = utf8_text (page_letters control codes)

-- room for the longest
abbrev pub utf8_page_size : ℕ
utf8_page_size = most_of_letters * page_size

-- the answer, whether English stands in, and the text: so many bytes, with zeros past them. Beside a refusal all of it is zeros
pub record PrintedUtf8 : Type 0 where
  pub answer : Paper
  pub english : Bool
  pub bytes : List ℕ
  pub used : ℕ

unfoldable pub shown_utf8 : ℕ → List ℕ → PrintedUtf8
unfolding accepted stands_in
shown_utf8 control text =
    record { answer = accepted []; english = stands_in control; bytes = padded utf8_page_size text; used = length text }

unfoldable pub refused_utf8 : PrintedUtf8
unfolding refused_by
refused_utf8 = record { answer = refused_by 25 []; english = false; bytes = replicate utf8_page_size 0; used = 0 }

unfoldable pub printed_utf8 : ℕ → List ℕ → PrintedUtf8
unfolding is_page shown_utf8 refused_utf8 utf8_page_text
printed_utf8 control codes = cond (is_page codes) (shown_utf8 control (utf8_page_text control codes)) refused_utf8

-- the answer's number, and what stands beside it
unfoldable pub utf8_paper : Result Utf8Page NotAPage → PrintedUtf8
unfolding accepted refused_by
utf8_paper (Ok page) = record { answer = accepted []; english = page.english; bytes = page.text.bytes; used = page.text.used }
utf8_paper (Err refusal) = record { answer = refused_by 25 []; english = false; bytes = replicate utf8_page_size 0; used = 0 }
