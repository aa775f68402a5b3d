-- A printed page by whether its codes are a page: its lines, or 25 and zeros; and what the display's answer says of that.
use mathlib.Core.Path.{◌≡◌, refl, sym, ◌∙◌, ap}
use mathlib.Core.Bool.{Bool, true, false}
use mathlib.Core.List.{List, []}
use mathlib.Core.Option.{Option, none, some}
use Prim.Native.Nat.{ℕ}
use lib.Dec.{eqb}
use lib.ListN.{length, take, replicate}
use Rattle.std.specs.Prelude.{Result, Ok, Err, is_ok}
use Rattle.laws.specs.Paper.{Paper, accepted, refused_by}
use Rattle.laws.proofs.Padded.{padded-text}
use Rattle.texts.specs.Held.{text_of}
use Rattle.letters.specs.Sets.{stands_in}
use Rattle.grid.specs.Grid.{rows}
use Rattle.display.specs.Pages.{Displayed, displayed, displayed_paper, is_page, page_cells}
use Rattle.display.specs.declared.Cell.{Cell}
use Rattle.display.specs.declared.NotAPage.{NotAPage}
use Rattle.display.proofs.Pages as display
use Rattle.printing.specs.Letters.{PrintedUtf8, page_letters, printed_utf8, refused_utf8, shown_utf8, utf8_page_size, utf8_page_text, utf8_paper}
use Rattle.printing.specs.Pages.{lines_text, page_paper, page_size, page_text, printed_page}
use Rattle.printing.specs.Private.{spelled_page}
use Rattle.printing.specs.Printed.{Printed}
use Rattle.printing.specs.declared.Utf8Page.{Utf8Page}

pub page_shown : (codes : List ℕ) → is_page codes ≡ true → printed_page codes ≡ record { answer = accepted []; bytes = page_text codes }
unfolding printed_page
page_shown codes e = rw e

page_refused : (codes : List ℕ) → is_page codes ≡ false → printed_page codes ≡ record { answer = refused_by 25 []; bytes = replicate page_size 0 }
unfolding printed_page
page_refused codes e = rw e

-- ---- an answer's number says whether the codes are a page

abbrev shown_by : Paper → Bool
shown_by answer = number_shown answer.number where
  number_shown : Option ℕ → Bool
  number_shown none = false
  number_shown (some number) = eqb number 0

by_display : (codes : List ℕ) (page : Bool) → is_page codes ≡ page → shown_by (displayed codes).answer ≡ page
unfolding accepted refused_by
by_display codes true e = rw (display.shown_page codes e)
by_display codes false e = rw (display.refused_page codes e)

by_printed : (codes : List ℕ) (page : Bool) → is_page codes ≡ page → shown_by (printed_page codes).answer ≡ page
unfolding accepted refused_by
by_printed codes true e = rw (page_shown codes e)
by_printed codes false e = rw (page_refused codes e)

by_utf8 : (control : ℕ) (codes : List ℕ) (page : Bool) → is_page codes ≡ page → shown_by (printed_utf8 control codes).answer ≡ page
unfolding accepted refused_by printed_utf8 shown_utf8 refused_utf8
by_utf8 control codes true e = rw e
by_utf8 control codes false e = rw e

-- ---- by the display's answer

module _ (codes : List ℕ) where
  -- the text of a page that the display shows
  module _ (cells : List Cell) (is : displayed_paper (Ok cells) ≡ displayed codes) where
    display-shown : is_page codes ≡ true
    unfolding displayed_paper accepted
    display-shown = sym (by_display codes _ refl) ∙ ap (λ (d : Displayed). shown_by d.answer) (sym is)

    cells_are : cells ≡ page_cells codes
    unfolding displayed_paper
    cells_are = ap (λ (d : Displayed). d.cells) (is ∙ display.shown_page codes display-shown)

    pub text-shown : {text : List ℕ} → text ≡ lines_text rows cells → page_paper (Ok text) ≡ printed_page codes
    unfolding page_paper page_text
    text-shown made = rw (made ∙ ap (lines_text rows) cells_are) (sym (page_shown codes display-shown))

  -- a refused page's answer
  pub text-refused : {refusal : NotAPage} → displayed_paper (Err refusal) ≡ displayed codes → page_paper (Err refusal) ≡ printed_page codes
  unfolding displayed_paper page_paper refused_by
  text-refused is = sym (page_refused codes (sym (by_display codes _ refl) ∙ ap (λ (d : Displayed). shown_by d.answer) (sym is)))

-- ---- by the printed page's answer, its letters

utf8_shown : (control : ℕ) (codes : List ℕ) → is_page codes ≡ true → printed_utf8 control codes ≡ shown_utf8 control (utf8_page_text control codes)
unfolding printed_utf8
utf8_shown control codes e = rw e

utf8_refused : (control : ℕ) (codes : List ℕ) → is_page codes ≡ false → printed_utf8 control codes ≡ refused_utf8
unfolding printed_utf8
utf8_refused control codes e = rw e

module _ (control : ℕ) (codes : List ℕ) where
  pub letters-shown : (text : List ℕ) → page_paper (Ok text) ≡ printed_page codes → {page : Utf8Page} → page ≡ spelled_page control text
      → utf8_paper (Ok page) ≡ printed_utf8 control codes
  unfolding page_paper accepted utf8_paper spelled_page shown_utf8 utf8_page_text page_letters
  letters-shown text is made =
      let shown = sym (by_printed codes _ refl) ∙ ap (λ (p : Printed). shown_by p.answer) (sym is) in
      let same = ap (λ (p : Printed). p.bytes) (is ∙ page_shown codes shown) in
      rw (made, same) (sym (utf8_shown control codes shown))

  pub letters-refused : {refusal : NotAPage} → page_paper (Err refusal) ≡ printed_page codes → utf8_paper (Err refusal) ≡ printed_utf8 control codes
  unfolding page_paper refused_by utf8_paper refused_utf8
  letters-refused is = sym (utf8_refused control codes (sym (by_printed codes _ refl) ∙ ap (λ (p : Printed). shown_by p.answer) (sym is)))

-- ---- for those who print a page: it is refused just where its codes are none, and its text else

module _ (control : ℕ) (codes : List ℕ) where
  pub utf8-told : (answer : Result Utf8Page NotAPage) → utf8_paper answer ≡ printed_utf8 control codes → is_ok answer ≡ is_page codes
  unfolding utf8_paper accepted refused_by
  utf8-told (Ok page) is = ap (λ (p : PrintedUtf8). shown_by p.answer) is ∙ by_utf8 control codes _ refl
  utf8-told (Err refusal) is = ap (λ (p : PrintedUtf8). shown_by p.answer) is ∙ by_utf8 control codes _ refl

  -- a page that was shown
  module _ (page : Utf8Page) (is : utf8_paper (Ok page) ≡ printed_utf8 control codes) where
    shown-as : utf8_paper (Ok page) ≡ shown_utf8 control (utf8_page_text control codes)
    shown-as = is ∙ utf8_shown control codes (sym (utf8-told (Ok page) is))

    pub utf8-is : text_of page.text ≡ utf8_page_text control codes
    unfolding utf8_paper shown_utf8
    utf8-is = ap (λ (p : PrintedUtf8). take p.used p.bytes) shown-as ∙ padded-text utf8_page_size (utf8_page_text control codes)

    pub utf8-counted : page.text.used ≡ length (text_of page.text)
    unfolding utf8_paper shown_utf8
    utf8-counted = ap (λ (p : PrintedUtf8). p.used) shown-as ∙ sym (ap length utf8-is)

    pub utf8-english : page.english ≡ stands_in control
    unfolding utf8_paper shown_utf8
    utf8-english = ap (λ (p : PrintedUtf8). p.english) shown-as
