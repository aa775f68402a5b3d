-- Document 02, request 4, over a page: its text in UTF-8 reads back as its letters, whole; and the set goes by C12, C13 and C14, as the header's eighth message has them, C11
-- lowest. The laws are a type, and their proofs stand in proofs/.
use Rattle.std.specs.Prelude.{true, List, ◌≡◌, ℕ, ◌+◌, ◌*◌, get_or}
use Rattle.std.proofs.Math.Option.{some}
use Rattle.laws.specs.Digits.{bit}
use Rattle.letters.specs.Sets.{option_of}
use Rattle.letters.specs.Utf8.{letters_of}
use Rattle.packet.specs.Headers.{control_bit, header_from}
use Rattle.packet.specs.declared.Header.{Header}
use Rattle.display.specs.Pages.{is_page}
use Rattle.printing.specs.Letters.{page_letters, utf8_page_text}

pub record PagesReadBack : Type 0 where
  pub pages : (control : ℕ) (codes : List ℕ) → is_page codes ≡ true → letters_of (utf8_page_text control codes) ≡ some (page_letters control codes)
  pub bits : (header : Header) → option_of header.control ≡ 4 * control_bit header 12 + 2 * control_bit header 13 + control_bit header 14
  pub sent : (messages : List ℕ)
      → option_of (header_from messages).control ≡ 4 * bit (get_or messages 7 0) 2 + 2 * bit (get_or messages 7 0) 3 + bit (get_or messages 7 0) 4
