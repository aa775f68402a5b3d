-- The loop that reads the cells, group by group: what is read is the whole's beginning.
use mathlib.Core.Path.{◌≡◌, refl, ◌∙◌, ap, sym}
use mathlib.Core.List.{List, [], ◌∷◌, ◌++◌}
use Prim.Native.Nat.{ℕ, ◌+◌, ◌*◌, ◌-◌, ◌<◌, ◌≤◌}
use native.Mathlib.Omega.{arith}
use lib.ListN.{length, length-drop, get_or, replicate, take, drop}
use lib.Seq.{drop-drop, paste, take_all}
use Rattle.laws.proofs.Lists.{drop_replicate}
use Rattle.laws.proofs.Runs.{over, over_more}
use Rattle.grid.specs.Grid.{cell_count, columns}
use Rattle.packing.specs.Cells.{cell_fields, characters_from, eight_from, group_bytes, group_cells, marks_from}
use Rattle.packing.specs.declared.EightCells.{EightCells}
use Rattle.packing.proofs.Places.{characters-at, marks-at}
use Rattle.page.specs.Lawful.{never, space}
use Rattle.page.specs.Private.{row_groups}
use Rattle.page.specs.Reading.{filled}
use Rattle.page.specs.Records.{cells_from, cells_of, head_length}
use Rattle.page.proofs.Copies.{nine_taken}
use Rattle.packing.proofs.Splits.{length_cell_fields, length_characters, length_marks}

-- eight more laid over a list, where those before them are
pub eight_laid : (old all : List ℕ) (group : ℕ) → group * group_cells ≤ length all → (some new eight : List ℕ) → length eight ≡ group_cells
    → eight ≡ take group_cells (drop (group * group_cells) all) → some ≡ over old all (group * group_cells)
    → new ≡ paste some (group * group_cells) eight group_cells
    → new ≡ over old all ((group + 1) * group_cells)
eight_laid old all group h some new eight l e f g =
    let next : group * group_cells + group_cells ≡ (group + 1) * group_cells = omega arith in
    g
    ∙ ((λ i. take (group * group_cells) (f i) ++ (take_all group_cells eight (omega arith) ∙ e) i ++ drop (group * group_cells + group_cells) (f i))
    ∙ (over_more old all (group * group_cells) group_cells h ∙ ap (over old all) next))

-- so many groups, from a place on
module _ (groups at : ℕ) («record» : List ℕ) (long : length «record» ≡ at + groups * group_bytes) where
  abbrev bytes : List ℕ
  bytes = drop at «record»

  length_rest : length bytes ≡ groups * group_bytes
  length_rest = length-drop at «record» ∙ omega arith

  abbrev values : List ℕ
  values = cell_fields (groups * group_cells) bytes

  abbrev pub all_marks : List ℕ
  all_marks = marks_from values

  abbrev pub all_characters : List ℕ
  all_characters = characters_from values

  pub length-all-marks : length all_marks ≡ groups * group_cells
  length-all-marks = length_marks (groups * group_cells) values (length_cell_fields (groups * group_cells) bytes)

  pub length-all-characters : length all_characters ≡ groups * group_cells
  length-all-characters = length_characters (groups * group_cells) values (length_cell_fields (groups * group_cells) bytes)

  module _ (group : ℕ) (h : group < groups) where
    -- the group's bytes among those of the cells
    nine-are : take group_bytes (drop (at + group * group_bytes) «record») ≡ take group_bytes (drop (group * group_bytes) bytes)
    nine-are = ap (take group_bytes) (sym (drop-drop (group * group_bytes) at «record»))

    -- the cells that were read, of the bytes that were taken
    module _ (first : List ℕ) (last : ℕ) (eight : EightCells) (e : first ≡ take group_cells (drop (at + group * group_bytes) «record»))
        (l : last ≡ get_or «record» (at + group * group_bytes + group_cells) 0) (f : eight ≡ eight_from (cell_fields group_cells (first ++ (last ∷ [])))) where
      joined : cell_fields group_cells (first ++ (last ∷ [])) ≡ cell_fields group_cells (take group_bytes (drop (group * group_bytes) bytes))
      joined =
          ap (cell_fields group_cells) ((λ i. e i ++ (l i ∷ [])) ∙ (nine_taken «record» (at + group * group_bytes) (omega arith) ∙ nine-are))

      pub marks_read : eight.marks ≡ take group_cells (drop (group * group_cells) all_marks)
      unfolding eight_from
      marks_read =
          ap (λ (cells : EightCells). cells.marks) f
          ∙ (ap marks_from joined
          ∙ sym (marks-at (groups * group_cells) (groups * group_bytes) (group * group_cells) (group * group_bytes) group_cells group_bytes (omega arith) refl (omega arith)
          (omega arith) bytes length_rest))

      pub characters_read : eight.characters ≡ take group_cells (drop (group * group_cells) all_characters)
      unfolding eight_from
      characters_read =
          ap (λ (cells : EightCells). cells.characters) f
          ∙ (ap characters_from joined
          ∙ sym (characters-at (groups * group_cells) (groups * group_bytes) (group * group_cells) (group * group_bytes) group_cells group_bytes (omega arith) refl (omega arith)
          (omega arith) bytes length_rest))

-- ---- all of them laid over a blank grid

-- a whole list over a longer one of nothing but one element
over_blank : (a k : ℕ) (xs : List ℕ) → length xs ≡ k → over (replicate cell_count a) xs k ≡ xs ++ replicate (cell_count - length xs) a
over_blank a k xs e =
    (λ i. take_all k xs (omega arith) i ++ drop_replicate k cell_count a i) ∙ ap (λ (n : ℕ). xs ++ replicate (cell_count - n) a) (sym e)

-- are the cells of so many rows, filled up
pub laid_filled : (count groups : ℕ) → groups ≡ count * row_groups → («record» characters marks : List ℕ)
    → characters ≡ over (replicate cell_count space) (characters_from (cell_fields (groups * group_cells) (drop head_length «record»))) (groups * group_cells)
    → marks ≡ over (replicate cell_count never) (marks_from (cell_fields (groups * group_cells) (drop head_length «record»))) (groups * group_cells)
    → cells_of characters marks ≡ filled (cells_from (cell_fields (count * columns) (drop head_length «record»)))
unfolding filled cells_from
laid_filled count groups g «record» characters marks e f =
    let size : groups * group_cells ≡ count * columns = omega arith in
    let values = cell_fields (groups * group_cells) (drop head_length «record») in
    let long = length_cell_fields (groups * group_cells) (drop head_length «record») in
    let many = length_characters (groups * group_cells) values long in
    let same : length (marks_from values) ≡ length (characters_from values) = length_marks (groups * group_cells) values long ∙ sym many in
    (λ i.
    cells_of ((e ∙ over_blank space (groups * group_cells) (characters_from values) many) i)
    ((f ∙ (over_blank never (groups * group_cells) (marks_from values) (same ∙ many) ∙ ap (λ (k : ℕ). marks_from values ++ replicate (cell_count - k) never) same)) i))
    ∙ ap (λ (n : ℕ). filled (cells_from (cell_fields n (drop head_length «record»)))) size
