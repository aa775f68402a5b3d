-- Any two answers that meet a public function's contract are equal, said of the generated contracts.
use mathlib.Core.Path.{◌≡◌, refl, ◌∙◌, sym}
use mathlib.Core.List.{List}
use Prim.Native.Nat.{ℕ}
use Rattle.std.specs.Prelude.{Result, Ok, Err}
use Rattle.laws.specs.Unique.{Unique}
use Rattle.laws.proofs.Inverse.{told_apart}
use Rattle.display.specs.declared.NotAPage.{NotAPage}
use Rattle.display.proofs.Unique.{answer_back}
use Rattle.printing.specs.Letters.{PrintedUtf8, utf8_paper}
use Rattle.printing.specs.Printed.{Printed}
use Rattle.printing.specs.Pages.{page_paper}
use Rattle.printing.specs.declared.Utf8Page.{Utf8Page}
use Rattle.printing.specs.contracts.page_or_zeros as page-or
use Rattle.printing.proofs.page_or_zeros.Reads as page-or-reads
use Rattle.printing.specs.contracts.printed_page as printed-page
use Rattle.printing.proofs.printed_page.Reads as printed-page-reads
use Rattle.printing.specs.contracts.utf8.utf8_or_zeros as utf8-or
use Rattle.printing.proofs.utf8.utf8_or_zeros.Reads as utf8-or-reads
use Rattle.printing.specs.contracts.utf8.utf8_page as utf8-page
use Rattle.printing.proofs.utf8.utf8_page.Reads as utf8-page-reads

-- the answer and its text, read back
abbrev page_back : Printed → Result (List ℕ) NotAPage
page_back page = answer_back page.answer.number page.bytes

page_back_law : (page : Result (List ℕ) NotAPage) → page_back (page_paper page) ≡ page
unfolding page_paper
page_back_law (Ok text) = refl
page_back_law (Err refusal) = refl

pub printed_page_unique : Unique printed-page.ended printed-page-reads.Post
printed_page_unique κs a r r' ws ws' p q = (told_apart page_paper page_back page_back_law r r' (p.0 ∙ sym q.0), refl)

-- the same in UTF-8
abbrev utf8_back : PrintedUtf8 → Result Utf8Page NotAPage
utf8_back page = answer_back page.answer.number (record { english = page.english; text = record { bytes = page.bytes; used = page.used } })

utf8_back_law : (page : Result Utf8Page NotAPage) → utf8_back (utf8_paper page) ≡ page
unfolding utf8_paper
utf8_back_law (Ok page) = refl
utf8_back_law (Err refusal) = refl

pub utf8_page_unique : Unique utf8-page.ended utf8-page-reads.Post
utf8_page_unique κs a r r' ws ws' p q = (told_apart utf8_paper utf8_back utf8_back_law r r' (p.0 ∙ sym q.0), refl)

-- what stands beside a refusal, and what was made
pub page_or_zeros_unique : Unique page-or.ended page-or-reads.Post
page_or_zeros_unique κs a r r' ws ws' p q = (p ∙ sym q, refl)

pub utf8_or_zeros_unique : Unique utf8-or.ended utf8-or-reads.Post
utf8_or_zeros_unique κs a r r' ws ws' p q = (
  λ i.
      record {
        english = (p.0 ∙ sym q.0) i;
        text = record { bytes = (p.1.0 ∙ sym q.1.0) i; used = (p.1.1 ∙ sym q.1.1) i };
      },
  refl,
)
