-- `printer_utf8::say_letters` meets its contract: the line is what is to be said, or nothing is.
use mathlib.Core.Path.{◌≡◌, sym, ◌∙◌, ap}
use mathlib.Core.Bool.{Bool, cond}
use mathlib.Core.List.{[]}
use Prim.Native.Nat.{ℕ}
use lib.ListN.{length}
use Rattle.printer_utf8.specs.Output.{english_line}
use Rattle.printer_utf8.proofs.say_letters.Goals as goal

-- what is said, by what was asked
by_answer : (control : ℕ) {english found : Bool} → english ≡ found → cond found (english_line control) [] ≡ cond english (english_line control) []
by_answer control e = ap (λ (b : Bool). cond b (english_line control) []) (sym e)

pub complain-requires : goal.complain-requires
complain-requires g c =
    let taken = c in
    let start = taken in
    c.english_line.ensures ∙ (by_answer start.args.control taken.if-english.true ∙ start.requires)

pub returns-then-english : goal.returns-then-english
returns-then-english g c =
    let call = c in
    let taken = call in
    c.complain.ensures ∙ ap length (call.english_line.ensures ∙ by_answer taken.args.control taken.if-english.true)
