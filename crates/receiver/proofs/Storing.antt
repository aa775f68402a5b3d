-- A row stored column by column: how far the cells and the count have come.
use mathlib.Core.Path.{◌≡◌, sym, ap, ap₂, ◌∙◌}
use mathlib.Core.List.{List, []}
use mathlib.Core.Option.{Option, none}
use Prim.Native.Nat.{ℕ, ◌+◌, ◌-◌, ◌≤◌, ◌<◌, zero-le}
use native.Mathlib.Omega.{arith}
use lib.ListN.{length, get_or, set, take}
use lib.Seq.{take-length}
use Rattle.grid.specs.Grid.{columns}
use Rattle.coding.specs.Characters.{character}
use Rattle.page.specs.Records.{cells_of}
use Rattle.receiver.specs.Cells.{first_column, how_many, kept_character, kept_mark, laid, row_found, row_place, stored}
use Rattle.receiver.specs.Private.{one}
use Rattle.receiver.proofs.Laying.{count_more, laid_more, laid_next, laid_none, one_most}
use Rattle.receiver.proofs.Rows.{found_at, length_found, place, place_is}

-- before a column
module _ (row : ℕ) (bytes characters₀ marks₀ : List ℕ) where
  -- what was found before a column
  abbrev found_before : ℕ → List (Option ℕ)
  found_before column = take (column - first_column row) (row_found row bytes)

  pub record Storing (characters marks : List ℕ) (written column : ℕ) : Type 0 where
    pub from : first_column row ≤ column
    pub characters-so-far : characters ≡ laid kept_character (row_place row) (found_before column) characters₀ marks₀
    pub marks-so-far : marks ≡ laid kept_mark (row_place row) (found_before column) marks₀ characters₀
    pub counted : written ≡ how_many (found_before column)
    pub few : written ≤ column

  first-none : found_before (first_column row) ≡ []
  first-none = ap (λ (n : ℕ). take n (row_found row bytes)) (nothing (first_column row))
    where
      nothing : (n : ℕ) → n - n ≡ 0
      nothing n = omega arith

  pub storing-starts : Storing characters₀ marks₀ 0 (first_column row)
  unfolding how_many
  storing-starts =
      record {
        from = omega arith;
        characters-so-far = laid_none kept_character (row_place row) characters₀ marks₀ ∙ ap (over kept_character characters₀ marks₀) (sym first-none);
        marks-so-far = laid_none kept_mark (row_place row) marks₀ characters₀ ∙ ap (over kept_mark marks₀ characters₀) (sym first-none);
        counted = ap how_many (sym first-none);
        few = zero-le;
      }
    where
      over : (Option ℕ → ℕ → ℕ → ℕ) → List ℕ → List ℕ → List (Option ℕ) → List ℕ
      over keep half others found = laid keep (row_place row) found half others

  module _ (whole : length bytes ≡ columns) {characters marks : List ℕ} {written column : ℕ} (s : Storing characters marks written column) where
    -- the next column
    module _ (below : column < columns) where
      abbrev here : Option ℕ
      here = character (get_or bytes column 0)

      abbrev k : ℕ
      k = column - first_column row

      inside : k < length (row_found row bytes)
      inside = omega (arith, length_found row bytes whole, s.from)

      this : get_or (row_found row bytes) k none ≡ here
      this = found_at row bytes whole column s.from below

      at_place : row_place row + k ≡ place row column
      at_place = place_is row column s.from

      later : (column + 1) - first_column row ≡ k + 1
      later = omega (arith, s.from)

      -- the cell is still as it was
      still : (keep : Option ℕ → ℕ → ℕ → ℕ) (half others now : List ℕ) → now ≡ laid keep (row_place row) (found_before column) half others
          → get_or now (place row column) 0 ≡ get_or half (place row column) 0
      still keep half others now e =
          ap (λ (xs : List ℕ). get_or xs (place row column) 0) e
          ∙ (ap (λ (n : ℕ). get_or (laid keep (row_place row) (found_before column) half others) n 0) (sym at_place)
          ∙ (laid_next keep (row_place row) (row_found row bytes) half others k inside ∙ ap (λ (n : ℕ). get_or half n 0) at_place))

      character-now : get_or characters (place row column) 0 ≡ get_or characters₀ (place row column) 0
      character-now = still kept_character characters₀ marks₀ characters s.characters-so-far

      mark-now : get_or marks (place row column) 0 ≡ get_or marks₀ (place row column) 0
      mark-now = still kept_mark marks₀ characters₀ marks s.marks-so-far

      -- and is laid over
      over : (keep : Option ℕ → ℕ → ℕ → ℕ) (half others now : List ℕ) (v : ℕ) → now ≡ laid keep (row_place row) (found_before column) half others
          → v ≡ keep here (get_or half (place row column) 0) (get_or others (place row column) 0)
          → set now (place row column) v ≡ laid keep (row_place row) (found_before (column + 1)) half others
      over keep half others now v e w =
          ap (λ (n : ℕ). set now n v) (sym at_place)
          ∙ (laid_more keep (row_place row) (row_found row bytes) half others k inside now v e
          (w ∙ ap₂ (λ (f : Option ℕ) (n : ℕ). keep f (get_or half n 0) (get_or others n 0)) (sym this) (sym at_place))
          ∙ ap (λ (n : ℕ). laid keep (row_place row) (take n (row_found row bytes)) half others) (sym later))

      pub storing-more : (found : Option ℕ) → found ≡ here → (v w n : ℕ)
          → v ≡ kept_character found (get_or characters (place row column) 0) (get_or marks (place row column) 0)
          → w ≡ kept_mark found (get_or marks (place row column) 0) (get_or characters (place row column) 0) → n ≡ one found
          → Storing (set characters (place row column) v) (set marks (place row column) w) (written + n) (column + 1)
      storing-more found f v w n ev ew en =
          let code : ℕ = get_or characters (place row column) 0 in
          let mark : ℕ = get_or marks (place row column) 0 in
          let new = ev ∙ (ap (λ (o : Option ℕ). kept_character o code mark) f ∙ ap₂ (kept_character here) character-now mark-now) in
          let marked = ew ∙ (ap (λ (o : Option ℕ). kept_mark o mark code) f ∙ ap₂ (kept_mark here) mark-now character-now) in
          record {
            from = omega (arith, s.from);
            characters-so-far = over kept_character characters₀ marks₀ characters v s.characters-so-far new;
            marks-so-far = over kept_mark marks₀ characters₀ marks w s.marks-so-far marked;
            counted =
                ap₂ ◌+◌ s.counted (en ∙ ap one (f ∙ sym this))
                ∙ (sym (count_more (row_found row bytes) k inside) ∙ ap (λ (m : ℕ). how_many (take m (row_found row bytes))) (sym later));
            few = omega (arith, s.few, en, one_most found);
          }

    -- all columns
    module _ (ended : columns ≤ column) (within : column ≤ columns) where
      all_found : found_before column ≡ row_found row bytes
      all_found =
          let last : column - first_column row ≡ length (row_found row bytes) = omega (arith, length_found row bytes whole, s.from, ended, within) in
          ap (λ (n : ℕ). take n (row_found row bytes)) last ∙ take-length (row_found row bytes)

      pub storing-counts : written ≡ how_many (row_found row bytes)
      storing-counts = s.counted ∙ ap how_many all_found

      pub storing-ends : cells_of characters marks ≡ stored row bytes (cells_of characters₀ marks₀)
      unfolding stored
      storing-ends =
          ap₂ cells_of
          (s.characters-so-far ∙ ap (λ (f : List (Option ℕ)). laid kept_character (row_place row) f characters₀ marks₀) all_found)
          (s.marks-so-far ∙ ap (λ (f : List (Option ℕ)). laid kept_mark (row_place row) f marks₀ characters₀) all_found)
