-- What was sent this time, cell by cell; and rows from earlier, mark by mark.
use mathlib.Core.Path.{◌≡◌, refl, sym, ◌∙◌, ap}
use mathlib.Core.Bool.{Bool}
use mathlib.Core.List.{List, [], ◌∷◌, zip_with}
use Prim.Native.Nat.{ℕ, zero, suc, ◌<◌}
use native.Mathlib.Omega.{arith}
use lib.Dec.{T}
use lib.ListN.{length, get_or}
use lib.Seq.{ext_get_or}
use Rattle.laws.specs.Every.{every}
use Rattle.laws.specs.Fields.{fits}
use Rattle.laws.proofs.Bools.{both_left, both_right, passed}
use Rattle.laws.proofs.Keeps.{both, chosen}
use Rattle.grid.specs.Grid.{cell_count}
use Rattle.page.specs.Lawful.{is_fresh, space}
use Rattle.page.specs.Reading.{page_read}
use Rattle.page.specs.Records.{character_width}
use Rattle.page.specs.declared.Cells.{Cells}
use Rattle.printing.proofs.Read.{characters_read, marks_read, page_of_law}
use Rattle.announcing.specs.Private.{Printable, Whole}
use Rattle.announcing.specs.Told.{fresh_characters, sent_now}

-- ---- two lists cell by cell

pub zip_length : (f : ℕ → ℕ → ℕ) (xs ys : List ℕ) → length xs ≡ length ys → length (zip_with f xs ys) ≡ length xs
unfolding zip_with
zip_length f [] ys e = refl
zip_length f (x ∷ xs) [] e = absurd (omega arith)
zip_length f (x ∷ xs) (y ∷ ys) e = ap suc (zip_length f xs ys (omega arith))

pub zip_at : (f : ℕ → ℕ → ℕ) (xs ys : List ℕ) → length xs ≡ length ys → (k : ℕ) → k < length xs → get_or (zip_with f xs ys) k 0 ≡ f (get_or xs k 0) (get_or ys k 0)
unfolding zip_with
zip_at f [] ys e k h = absurd (omega arith)
zip_at f (x ∷ xs) [] e k h = absurd (omega arith)
zip_at f (x ∷ xs) (y ∷ ys) e zero h = refl
zip_at f (x ∷ xs) (y ∷ ys) e (suc k) h = zip_at f xs ys (omega arith) k (omega arith)

-- ---- what was sent this time

module _ (cells : Cells) (whole : Whole cells) where
  same : length cells.characters ≡ length cells.marks
  same = whole.0 ∙ sym whole.1

  pub fresh-length : length (fresh_characters cells) ≡ cell_count
  unfolding fresh_characters
  fresh-length = zip_length sent_now cells.characters cells.marks same ∙ whole.0

  pub fresh_is : (sent : List ℕ) → length sent ≡ cell_count
      → ((k : ℕ) → k < cell_count → get_or sent k 0 ≡ sent_now (get_or cells.characters k 0) (get_or cells.marks k 0)) → sent ≡ fresh_characters cells
  unfolding fresh_characters
  fresh_is sent full each =
      ext_get_or 0 sent (fresh_characters cells) (full ∙ sym fresh-length)
      (λ k h. let l = whole.0 in each k (omega arith) ∙ sym (zip_at sent_now cells.characters cells.marks same k (omega arith)))

-- ---- of characters of seven bits they are codes

sent_fits : (character mark : ℕ) → T (fits character_width character) → T (fits character_width (sent_now character mark))
unfolding sent_now fits
sent_fits character mark t = chosen (λ (n : ℕ). T (fits character_width n)) (is_fresh mark) character space (λ b. t) (λ b. tt)

fresh_fit : (characters marks : List ℕ) → T (every (fits character_width) characters) → T (every (fits character_width) (zip_with sent_now characters marks))
unfolding zip_with every
fresh_fit [] marks t = tt
fresh_fit (character ∷ characters) [] t = tt
fresh_fit (character ∷ characters) (mark ∷ marks) t =
    let test : ℕ → Bool = fits character_width in
    both (test (sent_now character mark)) (every test (zip_with sent_now characters marks))
    (sent_fits character mark (both_left (test character) (every test characters) t))
    (fresh_fit characters marks (both_right (test character) (every test characters) t))

-- the page of a record is printed, whatever its bytes are
pub printable_read : (bytes : List ℕ) → Printable (page_read bytes).cells
unfolding fresh_characters
printable_read bytes =
    let cells = (page_read bytes).cells in
    let characters = characters_read bytes in
    let whole : Whole cells = (characters.0, marks_read bytes) in
    record {
      whole = whole;
      shown =
          page_of_law (fresh_characters cells)
          (fresh-length cells whole, passed _ (fresh_fit cells.characters cells.marks (rw characters.1 tt)));
    }
