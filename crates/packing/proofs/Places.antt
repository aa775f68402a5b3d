-- A run of cells that fills whole bytes, wherever it stands among others that do: its bytes lie at their place by its cells alone, and its cells are read
-- from these bytes alone. A group of eight is such a run, and a row.
use mathlib.Core.Path.{◌≡◌, ◌∙◌, ap, sym}
use mathlib.Core.List.{List, [], ◌∷◌, ◌++◌}
use Prim.Native.Nat.{ℕ, ◌+◌, ◌*◌, ◌-◌, ◌≤◌}
use native.Mathlib.Omega.{arith}
use lib.ListN.{length, length-drop, get_or, take, drop}
use lib.Seq.{drop_at, take_all, take_at, take-suc}
use Rattle.laws.proofs.Fields.{length_bytes}
use Rattle.packing.specs.Cells.{cell_bytes, cell_fields, characters_from, group_bytes, group_cells, marks_from}
use Rattle.packing.proofs.Splits.{bytes-split, characters_append, fields_split, length_cell_fields, length_characters, length_marks, marks_append}

pub length_cell_bytes : (count bytes : ℕ) (ms cs : List ℕ) → length (cell_bytes count bytes ms cs) ≡ bytes
unfolding cell_bytes
length_cell_bytes count bytes ms cs = length_bytes bytes _

-- nine bytes, the last by itself and joined again
pub nine_joined : (bytes : List ℕ) → length bytes ≡ group_bytes → take group_cells bytes ++ (get_or bytes group_cells 0 ∷ []) ≡ bytes
nine_joined bytes e = sym (take-suc bytes group_cells 0 (omega arith)) ∙ take_all group_bytes bytes (omega arith)

-- `count` cells in `size` bytes, after `before` cells in `place` bytes, among `cells` in `bytes`
module _ (cells bytes before place count size : ℕ) (front : 9 * before ≡ 8 * place) (run : 9 * count ≡ 8 * size) (inside : before + count ≤ cells)
    (all : 9 * cells ≡ 8 * bytes) where
  abbrev after : ℕ
  after = cells - (before + count)

  abbrev after_bytes : ℕ
  after_bytes = bytes - (place + size)

  cells_are : cells ≡ before + (count + after)
  cells_are = omega arith

  bytes_are : bytes ≡ place + (size + after_bytes)
  bytes_are = omega arith

  -- written
  pub bytes-at : (ms cs : List ℕ) → length ms ≡ cells → length cs ≡ cells
      → take size (drop place (cell_bytes cells bytes ms cs)) ≡ cell_bytes count size (take count (drop before ms)) (take count (drop before cs))
  bytes-at ms cs m c =
      let here = cell_bytes count size (take count (drop before ms)) (take count (drop before cs)) in
      let rest = cell_bytes after after_bytes (drop count (drop before ms)) (drop count (drop before cs)) in
      let first = cell_bytes before place (take before ms) (take before cs) in
      let split : cell_bytes cells bytes ms cs ≡ first ++ (here ++ rest) =
      (λ i. cell_bytes (cells_are i) (bytes_are i) ms cs)
      ∙ (bytes-split before place front (count + after) (size + after_bytes) ms cs (omega arith) (omega arith)
      ∙ ap (λ (xs : List ℕ). first ++ xs)
      (bytes-split count size run after after_bytes (drop before ms) (drop before cs) (simp length-drop (omega arith)) (simp length-drop (omega arith)))) in
      ap (λ (xs : List ℕ). take size (drop place xs)) split
      ∙ (ap (take size) (drop_at first (here ++ rest) place (length_cell_bytes before place (take before ms) (take before cs)))
      ∙ take_at here rest size (length_cell_bytes count size (take count (drop before ms)) (take count (drop before cs))))

  -- read: the marks, or the characters
  module _ (part : List ℕ → List ℕ) (joins : (n : ℕ) (xs ys : List ℕ) → length xs ≡ 2 * n → part (xs ++ ys) ≡ part xs ++ part ys)
      (sized : (n : ℕ) (xs : List ℕ) → length xs ≡ 2 * n → length (part xs) ≡ n) (xs : List ℕ) (long : length xs ≡ bytes) where
    part_at : take count (drop before (part (cell_fields cells xs))) ≡ part (cell_fields count (take size (drop place xs)))
    part_at =
        let first = cell_fields before (take place xs) in
        let here = cell_fields count (take size (drop place xs)) in
        let rest = cell_fields after (drop size (drop place xs)) in
        let first-long = length_cell_fields before (take place xs) in
        let here-long = length_cell_fields count (take size (drop place xs)) in
        let split : cell_fields cells xs ≡ first ++ (here ++ rest) =
        ap (λ (k : ℕ). cell_fields k xs) cells_are
        ∙ (fields_split before place front (count + after) xs (omega arith)
        ∙ ap (λ (ys : List ℕ). first ++ ys) (fields_split count size run after (drop place xs) (simp length-drop (omega arith)))) in
        ap (λ (ys : List ℕ). take count (drop before (part ys))) split
        ∙ (ap (λ (ys : List ℕ). take count (drop before ys)) (joins before first (here ++ rest) first-long)
        ∙ (ap (take count) (drop_at (part first) (part (here ++ rest)) before (sized before first first-long))
        ∙ (ap (take count) (joins count here rest here-long) ∙ take_at (part here) (part rest) count (sized count here here-long))))

  module _ (xs : List ℕ) (long : length xs ≡ bytes) where
    pub marks-at : take count (drop before (marks_from (cell_fields cells xs))) ≡ marks_from (cell_fields count (take size (drop place xs)))
    marks-at = part_at marks_from marks_append length_marks xs long

    pub characters-at : take count (drop before (characters_from (cell_fields cells xs))) ≡ characters_from (cell_fields count (take size (drop place xs)))
    characters-at = part_at characters_from characters_append length_characters xs long
