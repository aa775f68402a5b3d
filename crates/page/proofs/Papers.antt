-- The answers can be told apart by the paper's numbers: each is read back from them.
use mathlib.Core.Path.{◌≡◌, refl, ◌∙◌, ap, sym}
use mathlib.Core.Bool.{cond}
use mathlib.Core.Option.{Option, none, some}
use Prim.Native.Nat.{ℕ}
use lib.Dec.{eqb}
use Rattle.std.specs.Prelude.{Result, Ok, Err, is_ok, ⊤}
use Rattle.std.specs.Result.{result_unwrap_or}
use Rattle.laws.specs.Paper.{Paper}
use Rattle.laws.proofs.Inverse.{told_apart}
use Rattle.page.specs.Lawful.{cells_paper}
use Rattle.page.specs.Reading.{page_given, read_paper, zero_page}
use Rattle.page.specs.Writing.{write_paper}
use Rattle.page.specs.declared.CellsError.{CellsError}
use Rattle.page.specs.declared.CellsError.TheVariants as check
use Rattle.page.specs.declared.Page.{Page}
use Rattle.page.specs.declared.ReadError.{ReadError}
use Rattle.page.specs.declared.ReadError.TheVariants as read
use Rattle.page.specs.declared.WriteError.{WriteError}
use Rattle.page.specs.declared.WriteError.TheVariants as write

abbrev to_check : Option ℕ → Result ⊤ CellsError
to_check none = Ok tt
to_check (some n) = cond (eqb n 0) (Ok tt) (cond (eqb n 24) (Err check.TooLarge) (Err check.Unlawful))

check_back : (c : Result ⊤ CellsError) → to_check (cells_paper c).number ≡ c
unfolding cells_paper
check_back (Ok _) = refl
check_back (Err check.TooLarge) = refl
check_back (Err check.Unlawful) = refl

pub check_is : (a b : Result ⊤ CellsError) → cells_paper a ≡ cells_paper b → a ≡ b
check_is = told_apart cells_paper (λ (p : Paper). to_check p.number) check_back

abbrev to_write : Option ℕ → Result ⊤ WriteError
to_write none = Ok tt
to_write (some n) =
    cond (eqb n 0) (Ok tt)
    (cond (eqb n 12) (Err write.ShortRecord) (cond (eqb n 24) (Err write.TooLarge) (cond (eqb n 22) (Err write.BadDigit) (Err write.UnlawfulCells))))

write_back : (w : Result ⊤ WriteError) → to_write (write_paper w).number ≡ w
unfolding write_paper
write_back (Ok _) = refl
write_back (Err write.ShortRecord) = refl
write_back (Err write.TooLarge) = refl
write_back (Err write.BadDigit) = refl
write_back (Err write.UnlawfulCells) = refl

pub write_is : (a b : Result ⊤ WriteError) → write_paper a ≡ write_paper b → a ≡ b
write_is = told_apart write_paper (λ (p : Paper). to_write p.number) write_back

abbrev to_read : Option ℕ → Result ⊤ ReadError
to_read none = Ok tt
to_read (some n) =
    cond (eqb n 0) (Ok tt)
    (cond (eqb n 20) (Err read.WrongLength) (cond (eqb n 21) (Err read.WrongRowCode) (cond (eqb n 22) (Err read.BadDigit) (Err read.UnlawfulCells))))

-- an answer without what it holds
abbrev pub answer_of : {A : Type 0} → Result A ReadError → Result ⊤ ReadError
answer_of (Ok _) = Ok tt
answer_of (Err error) = Err error

read_back_law : {A : Type 0} (r : Result A ReadError) → to_read (read_paper r).number ≡ answer_of r
unfolding read_paper
read_back_law (Ok _) = refl
read_back_law (Err read.WrongLength) = refl
read_back_law (Err read.WrongRowCode) = refl
read_back_law (Err read.BadDigit) = refl
read_back_law (Err read.UnlawfulCells) = refl

answers_alike : {A B : Type 0} (a : Result A ReadError) (b : Result B ReadError) → read_paper a ≡ read_paper b → answer_of a ≡ answer_of b
answers_alike a b e = sym (read_back_law a) ∙ (ap (λ (p : Paper). to_read p.number) e ∙ read_back_law b)

same_answer : (answer : Result ⊤ ReadError) → answer ≡ answer_of answer
same_answer (Ok _) = refl
same_answer (Err error) = refl

-- so a record's answer is known from what the reader gives, `Ok tt` or the same refusal
pub read_is : {A : Type 0} (given : Result A ReadError) (answer : Result ⊤ ReadError) → read_paper given ≡ read_paper answer → answer ≡ answer_of given
read_is given answer e = same_answer answer ∙ sym (answers_alike given answer e)

-- and with the page what the reader gives is known whole
pub page_is : (a b : Result Page ReadError) → read_paper a ≡ read_paper b → page_given a ≡ page_given b → a ≡ b
unfolding page_given
page_is a b e = by a b (answers_alike a b e)
  where
    by : (a b : Result Page ReadError) → answer_of a ≡ answer_of b → page_given a ≡ page_given b → a ≡ b
    by (Ok page) (Ok page') e f = ap Ok f
    by (Ok page) (Err error) e f = absurd (cc)
    by (Err error) (Ok page) e f = absurd (cc)
    by (Err error) (Err error') e f = cc

-- and whether there is a page at all
pub read_ok : {A : Type 0} (given : Result A ReadError) (answer : Result ⊤ ReadError) → read_paper given ≡ read_paper answer → is_ok given ≡ is_ok answer
read_ok given answer e = same given ∙ ap is_ok (sym (read_is given answer e))
  where
    same : {A : Type 0} (given : Result A ReadError) → is_ok given ≡ is_ok (answer_of given)
    same (Ok _) = refl
    same (Err error) = refl

-- the page of an answer, or of zeros
pub given_or : (answer : Result Page ReadError) → result_unwrap_or answer zero_page ≡ page_given answer
unfolding page_given
given_or (Ok page) = refl
given_or (Err error) = refl
