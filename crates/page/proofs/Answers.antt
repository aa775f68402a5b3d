-- The writer's answer, from what the tests on its parts showed.
use mathlib.Core.Path.{◌≡◌, refl, ◌∙◌, ap, sym}
use mathlib.Core.Bool.{Bool, true, false, cond, ◌&&◌, and_assoc}
use Prim.Native.Nat.{ℕ}
use Rattle.std.specs.Prelude.{MatchResult, Result, Ok, Err, ⊤}
use Rattle.packet.specs.declared.Header.{Header}
use Rattle.page.specs.Lawful.{cells_checked, cells_fit, cells_lawful, digits_lawful, header_fits, magazine_fits, page_fits}
use Rattle.page.specs.Private.{parts_answer}
use Rattle.page.specs.Records.{page_of}
use Rattle.page.specs.declared.Cells.{Cells}
use Rattle.page.specs.declared.CellsError.{CellsError}
use Rattle.page.specs.declared.CellsError.TheVariants as check
use Rattle.page.specs.declared.WriteError.{WriteError}
use Rattle.page.specs.declared.WriteError.TheVariants.{TooLarge, BadDigit, UnlawfulCells}

-- the answer of a page whose other parts fit, from the check of its cells and of its digits
abbrev pub answer_by : Result ⊤ CellsError → Bool → Result ⊤ WriteError
answer_by (Err check.TooLarge) digits = Err TooLarge
answer_by (Err check.Unlawful) digits = cond digits (Err UnlawfulCells) (Err BadDigit)
answer_by (Ok _) digits = cond digits (Ok tt) (Err BadDigit)

-- what the code makes of the check, once it is not 24
pub bad_by : (answer : Result ⊤ CellsError) → (answer ≡ Err check.TooLarge → ⊥) → answer_by answer false ≡ Err BadDigit
bad_by (Ok _) other = refl
bad_by (Err check.TooLarge) other = absurd (other refl)
bad_by (Err check.Unlawful) other = refl

pub lawful_by : (answer : Result ⊤ CellsError) → (answer ≡ Err check.TooLarge → ⊥) → (told : Result ⊤ WriteError)
    → MatchResult answer (λ x. told ≡ Ok x) (λ e. told ≡ Err UnlawfulCells) → told ≡ answer_by answer true
lawful_by (Ok _) other told is = is
lawful_by (Err check.TooLarge) other told is = absurd (other refl)
lawful_by (Err check.Unlawful) other told is = is

by_cases : (fit lawful digits : Bool)
    → cond fit (cond digits (cond lawful (Ok tt) (Err UnlawfulCells)) (Err BadDigit)) (Err TooLarge)
    ≡ answer_by (cond fit (cond lawful (Ok tt) (Err check.Unlawful)) (Err check.TooLarge)) digits
by_cases true true digits = refl
by_cases true false digits = refl
by_cases false lawful digits = refl

module _ (magazine : ℕ) (header : Header) (cells : Cells) where
  -- the magazine and the header, which are asked first
  abbrev head_fits : Bool
  head_fits = magazine_fits magazine && header_fits header

  page_fits_law : (fits : Bool) → head_fits ≡ fits → page_fits (page_of magazine header false cells) ≡ (fits && cells_fit cells)
  unfolding page_fits
  page_fits_law fits e = sym (and_assoc (magazine_fits magazine) (header_fits header) (cells_fit cells)) ∙ ap (λ (b : Bool). b && cells_fit cells) e

  pub large-head : head_fits ≡ false → parts_answer magazine header cells ≡ Err TooLarge
  unfolding parts_answer
  large-head e = rw (page_fits_law false e)

  pub by-check : head_fits ≡ true → {answer : Result ⊤ CellsError} → answer ≡ cells_checked cells → {digits : Bool} → digits ≡ digits_lawful header
      → parts_answer magazine header cells ≡ answer_by answer digits
  unfolding parts_answer cells_checked
  by-check e a d = rw (page_fits_law true e, a, d) (by_cases (cells_fit cells) (cells_lawful cells) (digits_lawful header))
