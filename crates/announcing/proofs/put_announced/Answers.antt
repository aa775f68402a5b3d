-- `announcing::put_announced` meets its contract: by the word, nothing, a line, or a line and the page.
use mathlib.Core.Path.{◌≡◌, refl, sym, ◌∙◌, ap, subst}
use mathlib.Core.List.{List, ◌++◌}
use mathlib.Core.Logic.{◌⊎◌, ⊎_elim}
use Prim.Native.Nat.{ℕ, ◌+◌, ◌≤◌}
use native.Mathlib.Omega.{arith}
use lib.ListN.{length, take}
use Rattle.std.specs.Prelude.{Option, Some}
use Rattle.page.specs.Reading.{page_read}
use Rattle.page.specs.Records.{record_length}
use Rattle.page.specs.declared.Page.{Page}
use Rattle.printing.specs.Letters.{utf8_page_size}
use Rattle.heading.proofs.Words.{line_length_law}
use Rattle.watch.specs.declared.Word.{Word}
use Rattle.watch.specs.declared.Word.TheVariants as word
use Rattle.announcing.specs.Private.{Printable}
use Rattle.announcing.specs.Said.{left_out_size}
use Rattle.announcing.specs.Told.{announced, cells_text, page_line, page_said}
use Rattle.announcing.proofs.Fresh.{printable_read}
use Rattle.texts.proofs.Putting.{as_text, put_none, put_then, same_room}
use Rattle.announcing.proofs.put_announced.Goals as goal
use Rattle.announcing.proofs.put_announced.Goals.{After-put_line-line}

-- what is said in the case of the word that was found
by_word : (mended : ℕ) (lent : List ℕ) {which found : Option Word} → which ≡ found → {page : Page} → page ≡ page_read (take record_length lent)
    → page_said found mended page ≡ announced which mended lent
unfolding announced
by_word mended lent {which} {found} e is = ap (page_said found mended) is ∙ ap (λ (w : Option Word). page_said w mended (page_read (take record_length lent))) (sym e)

module _ (mended : ℕ) (page : Page) {which : Word} where
  clean : which ≡ word.Clean → page_said (Some which) mended page ≡ page_line which mended page ++ cells_text page.header.control page.cells
  unfolding page_said
  clean e = rw e refl

  unclean : (which ≡ word.Doubt) ⊎ (which ≡ word.Missing) → page_said (Some which) mended page ≡ page_line which mended page
  unfolding page_said
  unclean e = ⊎_elim (λ (is : which ≡ word.Doubt). rw is refl) (λ (is : which ≡ word.Missing). rw is refl) e

-- behind the line of a page there is room for its cells
line-fits : (c : After-put_line-line)
    → let a = c.args in
    a.at + (length (page_line c.in-Some.word a.mended c.page_in-page.result) + (left_out_size + utf8_page_size)) ≤ length a.room.now
line-fits c =
    let page = c.page_in-page.result in
    let line = line_length_law (Some c.in-Some.word) page.magazine page.header c.args.mended (omega arith) in
    omega (arith, c.requires)

pub put_cells-requires : goal.put_cells-requires
put_cells-requires c =
    let fits = line-fits (goal.at.put_cells-requires c).After-put_line-line in
    let same = same_room c.put_line-line.ensures (omega arith) in
    let ends = c.put_line-line.ensures.ends in
    (omega arith, subst (λ (p : Page). Printable p.cells) (sym c.page_in-page.ensures) (printable_read _))

pub returns-in_default : goal.returns-in_default
unfolding page_said
returns-in_default c = as_text (put_none c.args.room.now c.args.at) (by_word _ _ c.in_default.is refl)

pub returns-in-Clean : goal.returns-in-Clean
returns-in-Clean c =
    let fits = line-fits (goal.at.returns-in-Clean c).After-put_line-line in
    as_text (put_then c.put_line-line.ensures (omega arith) c.put_cells.ensures)
    (sym (clean c.args.mended c.page_in-page.result c.in-Clean.is) ∙ by_word _ c.args.«record».now c.in-Some.is c.page_in-page.ensures)

pub returns-in-Doubt : goal.returns-in-Doubt
returns-in-Doubt c =
    as_text c.put_line-line.ensures (sym (unclean c.args.mended c.page_in-page.result c.in-Doubt.is) ∙ by_word _ _ c.in-Some.is c.page_in-page.ensures)
