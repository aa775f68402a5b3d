-- A run of cells that fills whole bytes stands in bytes of its own: its bytes depend on it alone, and what follows it starts afresh.
use mathlib.Core.Path.{◌≡◌, refl, ◌∙◌, ap, sym}
use mathlib.Core.List.{List, [], ◌∷◌, ◌++◌}
use Prim.Native.Nat.{ℕ, zero, suc, ◌+◌, ◌*◌, ◌≤◌}
use native.Mathlib.Nat.{zero-add, suc-add}
use native.Mathlib.Omega.{arith}
use lib.ListN.{length, take, drop, take-append-drop}
use lib.Seq.{length-take-le}
use Rattle.laws.specs.Fields.{fields_bits, fields_of, bytes_of, bits_of, total}
use Rattle.laws.proofs.Fields.{bits_of_append, bits_of_bytes_append, bytes_append, fields_of_append, length_bits, length_bits_of, length_fields}
use Rattle.packing.specs.Cells.{cell_bytes, cell_fields, cell_values, cell_widths, characters_from, marks_from}

-- ---- cells, one run after another

pub widths_append : (m n : ℕ) → cell_widths (m + n) ≡ cell_widths m ++ cell_widths n
unfolding cell_widths
widths_append zero n = rw (zero-add n)
widths_append (suc m) n = rw (suc-add m n, widths_append m n)

pub length_widths : (n : ℕ) → length (cell_widths n) ≡ 2 * n
unfolding cell_widths
length_widths zero = refl
length_widths (suc n) = rw (length_widths n) (omega arith)

pub total_widths : (n : ℕ) → total (cell_widths n) ≡ 9 * n
unfolding cell_widths total
total_widths zero = refl
total_widths (suc n) = rw (total_widths n) (omega arith)

pub length_values : (n : ℕ) (ms cs : List ℕ) → length ms ≡ n → length cs ≡ n → length (cell_values ms cs) ≡ 2 * n
unfolding cell_values
length_values n [] cs e f = omega arith
length_values n (m ∷ ms) [] e f = absurd (omega arith)
length_values n (m ∷ ms) (c ∷ cs) e f =
    let ih : length (cell_values ms cs) ≡ 2 * length ms = length_values (length ms) ms cs refl (omega arith) in
    omega arith

pub values_append : (ms cs ms' cs' : List ℕ) → length ms ≡ length cs → cell_values (ms ++ ms') (cs ++ cs') ≡ cell_values ms cs ++ cell_values ms' cs'
unfolding cell_values
values_append [] [] ms' cs' e = refl
values_append [] (c ∷ cs) ms' cs' e = absurd (omega arith)
values_append (m ∷ ms) [] ms' cs' e = absurd (omega arith)
values_append (m ∷ ms) (c ∷ cs) ms' cs' e = ap (λ (xs : List ℕ). m ∷ c ∷ xs) (values_append ms cs ms' cs' (omega arith))

-- ---- written

-- `count` cells in `size` bytes, and then n cells in so many more bytes
module _ (count size : ℕ) (whole : 9 * count ≡ 8 * size) where
  length_run : (ms cs : List ℕ) → length ms ≡ count → length cs ≡ count → length (fields_bits (cell_widths count) (cell_values ms cs)) ≡ 8 * size
  length_run ms cs e f =
      length_bits (cell_widths count) (cell_values ms cs) (length_widths count ∙ sym (length_values count ms cs e f)) ∙ (total_widths count ∙ whole)

  pub bytes-split : (n bytes : ℕ) (ms cs : List ℕ) → count ≤ length ms → count ≤ length cs
      → cell_bytes (count + n) (size + bytes) ms cs ≡ cell_bytes count size (take count ms) (take count cs) ++ cell_bytes n bytes (drop count ms) (drop count cs)
  unfolding cell_bytes
  bytes-split n bytes ms cs hm hc =
      let lm : length (take count ms) ≡ count = length-take-le count ms hm in
      let lc : length (take count cs) ≡ count = length-take-le count cs hc in
      ap (λ (xs : List ℕ). bytes_of (size + bytes) (fields_bits (cell_widths (count + n)) (cell_values xs cs))) (sym (take-append-drop count ms))
      ∙ (ap (λ (xs : List ℕ). bytes_of (size + bytes) (fields_bits (cell_widths (count + n)) (cell_values (take count ms ++ drop count ms) xs))) (sym (take-append-drop count cs))
      ∙ (rw (
        widths_append count n,
        values_append (take count ms) (take count cs) (drop count ms) (drop count cs) (lm ∙ sym lc),
        bits_of_append (cell_widths count) (cell_values (take count ms) (take count cs)) (cell_widths n) (cell_values (drop count ms) (drop count cs))
            (length_widths count ∙ sym (length_values count (take count ms) (take count cs) lm lc)),
      )
      (bytes_append size bytes (fields_bits (cell_widths count) (cell_values (take count ms) (take count cs)))
      (fields_bits (cell_widths n) (cell_values (drop count ms) (drop count cs))) (length_run (take count ms) (take count cs) lm lc))))

-- ---- read

pub marks_append : (n : ℕ) (xs ys : List ℕ) → length xs ≡ 2 * n → marks_from (xs ++ ys) ≡ marks_from xs ++ marks_from ys
unfolding marks_from
marks_append n [] ys e = refl
marks_append n (x ∷ []) ys e = absurd (omega arith)
marks_append zero (x ∷ y ∷ xs) ys e = absurd (omega arith)
marks_append (suc n) (x ∷ y ∷ xs) ys e = ap (λ (zs : List ℕ). x ∷ zs) (marks_append n xs ys (omega arith))

pub characters_append : (n : ℕ) (xs ys : List ℕ) → length xs ≡ 2 * n → characters_from (xs ++ ys) ≡ characters_from xs ++ characters_from ys
unfolding characters_from
characters_append n [] ys e = refl
characters_append n (x ∷ []) ys e = absurd (omega arith)
characters_append zero (x ∷ y ∷ xs) ys e = absurd (omega arith)
characters_append (suc n) (x ∷ y ∷ xs) ys e = ap (λ (zs : List ℕ). y ∷ zs) (characters_append n xs ys (omega arith))

pub fields_split : (count size : ℕ) → 9 * count ≡ 8 * size → (n : ℕ) (bytes : List ℕ) → size ≤ length bytes
    → cell_fields (count + n) bytes ≡ cell_fields count (take size bytes) ++ cell_fields n (drop size bytes)
unfolding cell_fields
fields_split count size whole n bytes h =
    ap (λ (xs : List ℕ). fields_of (cell_widths (count + n)) (bits_of xs)) (sym (take-append-drop size bytes))
    ∙ rw (widths_append count n, bits_of_bytes_append (take size bytes) (drop size bytes))
    (fields_of_append (cell_widths count) (cell_widths n) (bits_of (take size bytes)) (bits_of (drop size bytes))
    (length_bits_of (take size bytes) ∙ (ap (λ (k : ℕ). 8 * k) (length-take-le size bytes h) ∙ sym (total_widths count ∙ whole))))

pub length_cell_fields : (n : ℕ) (bytes : List ℕ) → length (cell_fields n bytes) ≡ 2 * n
unfolding cell_fields
length_cell_fields n bytes = length_fields (cell_widths n) (bits_of bytes) ∙ length_widths n

pub length_marks : (n : ℕ) (xs : List ℕ) → length xs ≡ 2 * n → length (marks_from xs) ≡ n
unfolding marks_from
length_marks n [] e = omega arith
length_marks n (x ∷ []) e = absurd (omega arith)
length_marks zero (x ∷ y ∷ xs) e = absurd (omega arith)
length_marks (suc n) (x ∷ y ∷ xs) e = ap suc (length_marks n xs (omega arith))

pub length_characters : (n : ℕ) (xs : List ℕ) → length xs ≡ 2 * n → length (characters_from xs) ≡ n
unfolding characters_from
length_characters n [] e = omega arith
length_characters n (x ∷ []) e = absurd (omega arith)
length_characters zero (x ∷ y ∷ xs) e = absurd (omega arith)
length_characters (suc n) (x ∷ y ∷ xs) e = ap suc (length_characters n xs (omega arith))
