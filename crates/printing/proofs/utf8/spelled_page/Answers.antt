-- `printing::spelled_page` meets its contract. The loop's invariant: the letters of the bytes so far stand at the start of zeros (`Spelled`).
use mathlib.Core.Path.{◌≡◌, sym, ◌∙◌, ap, subst}
use mathlib.Core.List.{map}
use native.Mathlib.Omega.{arith}
use lib.ListN.{take}
use lib.Seq.{take_all}
use Rattle.texts.specs.Held.{held}
use Rattle.letters.specs.Sets.{letter_in, letter_of}
use Rattle.letters.specs.Utf8.{utf8_text}
use Rattle.printing.specs.Letters.{utf8_page_size}
use Rattle.printing.specs.Private.{Spells, spelled_page}
use Rattle.printing.proofs.Spelling.{none_yet, one_more, room-left, room-whole, spells}
use Rattle.printing.proofs.utf8.spelled_page.Goals as goal

pub loop-byte-init : goal.loop-byte-init
loop-byte-init c = none_yet _ _

pub put_letter-used-requires : goal.put_letter-used-requires
put_letter-used-requires c =
    (room-left _ _ c.loop-byte.invariant c.loop-byte-test.true, subst Spells (sym c.set_of-set.ensures) (spells c.args.control))

pub loop-byte-preserved : goal.loop-byte-preserved
loop-byte-preserved c =
    let put = c.put_letter-used.ensures in
    one_more _ _ c.loop-byte.invariant (omega arith) c.told-text put.puts put.code_len_bound

pub returns-clause-value : goal.returns-clause-value
unfolding spelled_page letter_of
returns-clause-value c =
    let text = c.args.text.now in
    let whole = c.told-text in
    let all = take_all c.loop-byte.byte-index text (omega arith) in
    let same : utf8_text (map (letter_in c.set_of-set.result) (take c.loop-byte.byte-index text)) ≡ utf8_text (map (letter_of c.args.control) text) =
    (λ i. utf8_text (map (letter_in (c.set_of-set.ensures i)) (all i))) in
    rw (c.stands_in.ensures, c.loop-byte.invariant.is ∙ ap (held utf8_page_size) same)

pub returns-clause-text_len : goal.returns-clause-text_len
returns-clause-text_len c = room-whole _ _ c.loop-byte.invariant (omega arith)
