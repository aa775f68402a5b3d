-- `printer_utf8::print_page` meets its contract: a page that was read is never refused, and its text and what is said of its letters are those of the record.
use mathlib.Core.Path.{◌≡◌, sym, ◌∙◌, ap}
use mathlib.Core.Bool.{cond}
use mathlib.Core.List.{[]}
use Prim.Native.Nat.{◌+◌, ◌≤◌}
use native.Mathlib.Omega.{arith}
use lib.ListN.{length}
use Rattle.std.specs.Prelude.{Ok}
use Rattle.std.proofs.lemmas.Result.{IfOk-at_ok}
use Rattle.texts.specs.Held.{text_of}
use Rattle.page.specs.Reading.{page_read}
use Rattle.page.specs.declared.Page.{Page}
use Rattle.printing.specs.Letters.{printed_utf8, utf8_page_size, utf8_paper}
use Rattle.printing.proofs.Read.{page_shown}
use Rattle.printing.proofs.Shown.{utf8-counted, utf8-english, utf8-is, utf8-told}
use Rattle.printer_utf8.specs.Output.{complaint, english_line, output, written}
use Rattle.printer_utf8.proofs.Parts.{english_length, page-complaint, page-output}
use Rattle.printer_utf8.proofs.print_page.Goals as goal
use Rattle.printer_utf8.proofs.print_page.Goals.{After-unwrap-printed}
use Rattle.printer_utf8.proofs.print_page.Given.{Over}

pub unwrap-printed-requires : goal.unwrap-printed-requires
unwrap-printed-requires g c =
    let told = c.utf8_page.ensures.result_value ∙ ap (λ (page : Page). printed_utf8 page.header.control page.cells.characters) c.requires.0 in
    utf8-told _ _ c.utf8_page.result told ∙ page_shown c.args.«record».now

module _ (g : Over) (c : After-unwrap-printed g) where
  -- what was printed, of the record's page
  printed : let page = page_read c.args.«record».now in
      utf8_paper (Ok c.unwrap-printed.result) ≡ printed_utf8 page.header.control page.cells.characters
  printed =
      ap utf8_paper (sym c.unwrap-printed.ensures)
      ∙ (c.utf8_page.ensures.result_value ∙ ap (λ (page : Page). printed_utf8 page.header.control page.cells.characters) c.requires.0)

  -- its text, and what is said of its letters, are those of the record
  said-is : cond c.unwrap-printed.result.english (english_line c.args.page.now.header.control) [] ≡ complaint c.args.«record».now
  said-is =
      let english = utf8-english _ _ c.unwrap-printed.result printed in
      let control = ap (λ (page : Page). page.header.control) c.requires.0 in
      (λ i. cond (english i) (english_line (control i)) []) ∙ page-complaint c.args.«record».now c.requires.1

  text-is : text_of c.unwrap-printed.result.text ≡ output c.args.«record».now
  text-is = utf8-is _ _ c.unwrap-printed.result printed ∙ page-output c.args.«record».now c.requires.1

pub say_letters-said-requires : goal.say_letters-said-requires
say_letters-said-requires g c = said-is g (goal.at.say_letters-said-requires g c).After-unwrap-printed

pub print-requires : goal.print-requires
print-requires g c = c.as_bytes.ensures ∙ text-is g (goal.at.print-requires g c).After-unwrap-printed

pub overflow_add-result : goal.overflow_add-result
overflow_add-result g c =
    let known = (goal.at.overflow_add-result g c).After-unwrap-printed in
    let text = c.unwrap-printed.result.text in
    let put : c.print.result ≡ length (text_of text) = c.print.ensures ∙ ap length c.as_bytes.ensures in
    let counted = utf8-counted _ _ c.unwrap-printed.result (printed g known) in
    let size : (length text.bytes ≡ utf8_page_size) × (text.used ≤ utf8_page_size) = IfOk-at_ok _ c.unwrap-printed.ensures c.utf8_page.ensures.text_len in
    let words = english_length c.unwrap-printed.result.english c.args.page.now.header.control in
    let line = c.say_letters-said.ensures in
    omega arith

pub returns : goal.returns
unfolding written
returns g c =
    let known = (goal.at.returns g c).After-unwrap-printed in
    let first = c.say_letters-said.ensures ∙ ap length (said-is g known) in
    let second = c.print.ensures ∙ ap length (c.as_bytes.ensures ∙ text-is g known) in
    λ i. first i + second i
