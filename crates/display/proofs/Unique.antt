-- Any two answers that meet the public function's contract are equal, said of the generated contract.
use mathlib.Core.Path.{◌≡◌, refl, ◌∙◌, sym}
use mathlib.Core.Bool.{cond}
use mathlib.Core.List.{List}
use mathlib.Core.Option as math
use Prim.Native.Nat.{ℕ}
use lib.Dec.{eqb}
use Rattle.std.specs.Prelude.{Result, Ok, Err}
use Rattle.laws.specs.Unique.{Unique}
use Rattle.laws.proofs.Inverse.{told_apart}
use Rattle.display.specs.Pages.{Displayed, displayed_paper}
use Rattle.display.specs.declared.Cell.{Cell}
use Rattle.display.specs.declared.NotAPage.{NotAPage}
use Rattle.display.specs.contracts.page_of as page_of_law
use Rattle.display.proofs.page_of.Reads as page-of-reads
use Rattle.display.specs.contracts.zero_cells as zeros
use Rattle.display.proofs.zero_cells.Reads as zeros-reads

-- the answer, read back from the paper's number and what stands beside it
abbrev pub answer_back : {A : Type 0} → math.Option ℕ → A → Result A NotAPage
answer_back math.none shown = Err (record {})
answer_back (math.some number) shown = cond (eqb number 0) (Ok shown) (Err (record {}))

abbrev page_back : Displayed → Result (List Cell) NotAPage
page_back shown = answer_back shown.answer.number shown.cells

page_back_law : (page : Result (List Cell) NotAPage) → page_back (displayed_paper page) ≡ page
unfolding displayed_paper
page_back_law (Ok cells) = refl
page_back_law (Err refusal) = refl

pub page_of_unique : Unique page_of_law.ended page-of-reads.Post
page_of_unique κs a r r' ws ws' p q = (told_apart displayed_paper page_back page_back_law r r' (p ∙ sym q), refl)

pub zero_cells_unique : Unique zeros.ended zeros-reads.Post
zero_cells_unique κs a r r' ws ws' p q = (p ∙ sym q, refl)
