-- `printing::put_letter` meets its contract: as many bytes of the form are stored as it has.
use mathlib.Core.Path.{◌≡◌, sym, ◌∙◌, ap}
use Prim.Native.Nat.{ℕ, ◌≤◌}
use native.Mathlib.Omega.{arith}
use borrow.Author.Rules.{rules}
use lib.ListN.{length, length-set}
use Rattle.texts.specs.Held.{held}
use Rattle.letters.specs.Sets.{letter_in}
use Rattle.letters.specs.Utf8.{form_held, most_bytes, most_of_letters, utf8}
use Rattle.texts.specs.declared.Text.{Text}
use Rattle.printing.proofs.Spelling.{all-stored, stored}
use Rattle.printing.proofs.utf8.put_letter.Goals as goal
use Rattle.printing.proofs.utf8.put_letter.Goals.{After-utf8_of-form}

-- the letter
abbrev letter-of : After-utf8_of-form → ℕ
letter-of c = letter_in c.args.set.now c.args.code

is_held : (c : After-utf8_of-form) → c.utf8_of-form.result ≡ form_held (utf8 (letter-of c))
is_held c = c.utf8_of-form.ensures ∙ ap (λ (letter : ℕ). form_held (utf8 letter)) c.letter_in.ensures

counted : (c : After-utf8_of-form) → c.utf8_of-form.result.used ≡ length (utf8 (letter-of c))
unfolding held
counted c = ap (λ (form : Text most_bytes). form.used) (is_held c)

sized : (c : After-utf8_of-form) → (1 ≤ length (utf8 (letter-of c))) × (length (utf8 (letter-of c)) ≤ most_of_letters)
sized c = c.requires.1 c.args.code (search rules)

pub returns-then-form-eq1 : goal.returns-then-form-eq1
unfolding stored
returns-then-form-eq1 c =
    let room = c.requires.0 in
    record {
      puts = all-stored _ _ _ (is_held (goal.at.returns-then-form-eq1 c).After-utf8_of-form) 1 (sym c.if-form-eq1.true) (omega arith);
      code_len_bound = (sized (goal.at.returns-then-form-eq1 c).After-utf8_of-form).1;
    }

pub bounds-text-at-2 : goal.bounds-text-at-2
bounds-text-at-2 c = let room = c.requires.0 in simp length-set (omega arith)

pub returns-then-form-eq2 : goal.returns-then-form-eq2
unfolding stored
returns-then-form-eq2 c =
    let room = c.requires.0 in
    record {
      puts = all-stored _ _ _ (is_held (goal.at.returns-then-form-eq2 c).After-utf8_of-form) 2 (sym c.if-form-eq2.true) (omega arith);
      code_len_bound = (sized (goal.at.returns-then-form-eq2 c).After-utf8_of-form).1;
    }

pub bounds-text-at-3 : goal.bounds-text-at-3
bounds-text-at-3 c = let room = c.requires.0 in simp length-set (omega arith)

-- neither one nor two, so three
pub returns : goal.returns
unfolding stored
returns c =
    let room = c.requires.0 in
    let used = counted (goal.at.returns c).After-utf8_of-form in
    let size = sized (goal.at.returns c).After-utf8_of-form in
    let no_one = c.if-form-eq1.false in
    let no-two = c.if-form-eq2.false in
    record {
      puts = all-stored _ _ _ (is_held (goal.at.returns c).After-utf8_of-form) 3 (omega arith) (omega arith);
      code_len_bound = size.1;
    }
