-- Document 01, "Numbers of refusal", the record writer: 12, 24, 22, 23, in that order. A refusal writes nothing; bytes of a lent buffer past the record, 1,130 by document
-- 02, request 5, stay.
use Rattle.std.specs.Prelude.{cond, List, [], ◌++◌, ℕ, leb, length, drop, Result, Ok, Err, ⊤}
use Rattle.laws.specs.Paper.{Paper, accepted, refused_by}
use Rattle.page.specs.Lawful.{page_fits, digits_lawful, cells_lawful}
use Rattle.page.specs.Records.{record_length, record_of}
use Rattle.page.specs.declared.Page.{Page}
use Rattle.page.specs.declared.WriteError.{WriteError}
use Rattle.page.specs.declared.WriteError.TheVariants.{ShortRecord, TooLarge, BadDigit, UnlawfulCells}

-- what the page alone gives: 24, 22, 23
unfoldable pub page_answer : Page → Result ⊤ WriteError
unfolding page_fits digits_lawful cells_lawful
page_answer page =
    cond (page_fits page)
    (cond (digits_lawful page.header) (cond (cells_lawful page.cells) (Ok tt) (Err UnlawfulCells)) (Err BadDigit))
    (Err TooLarge)

-- what the length of the lent buffer gives before that: 12
unfoldable pub write_answer : Page → List ℕ → Result ⊤ WriteError
unfolding page_answer
write_answer page lent = cond (leb record_length (length lent)) (page_answer page) (Err ShortRecord)

unfoldable pub write_number : WriteError → ℕ
write_number ShortRecord = 12
write_number TooLarge = 24
write_number BadDigit = 22
write_number UnlawfulCells = 23

unfoldable pub write_paper : Result ⊤ WriteError → Paper
unfolding accepted refused_by write_number
write_paper (Ok _) = accepted []
write_paper (Err error) = refused_by (write_number error) []

-- the lent buffer after each answer
unfoldable pub buffer_after : Result ⊤ WriteError → Page → List ℕ → List ℕ
unfolding record_of
buffer_after (Ok _) page lent = record_of page ++ drop record_length lent
buffer_after (Err ShortRecord) page lent = lent
buffer_after (Err TooLarge) page lent = lent
buffer_after (Err BadDigit) page lent = lent
buffer_after (Err UnlawfulCells) page lent = lent

unfoldable pub written : Page → List ℕ → List ℕ
unfolding buffer_after write_answer
written page lent = buffer_after (write_answer page lent) page lent
