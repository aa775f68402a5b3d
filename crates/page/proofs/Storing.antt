-- The loop that stores the cells' bytes, group by group: what is stored is the whole's beginning.
use mathlib.Core.Path.{◌≡◌, refl, ◌∙◌, ap, sym}
use mathlib.Core.List.{List, [], ◌∷◌, ◌++◌}
use Prim.Native.Nat.{ℕ, ◌+◌, ◌*◌, ◌≤◌, ◌<◌}
use native.Mathlib.Omega.{arith}
use lib.ListN.{length, set, take, drop}
use lib.Seq.{paste, take_all}
use Rattle.laws.proofs.Runs.{pasted_more}
use Rattle.packing.specs.Cells.{cell_bytes, group_bytes, group_cells, nine_from}
use Rattle.packing.specs.declared.NineBytes.{NineBytes}
use Rattle.page.proofs.Copies.{last_stored}
use Rattle.packing.proofs.Places.{bytes-at, length_cell_bytes, nine_joined}

-- so many groups, stored from a place on
module _ (groups at : ℕ) (marks characters : List ℕ) (m : length marks ≡ groups * group_cells) (c : length characters ≡ groups * group_cells) where
  abbrev all : List ℕ
  all = cell_bytes (groups * group_cells) (groups * group_bytes) marks characters

  length-all : length all ≡ groups * group_bytes
  length-all = length_cell_bytes (groups * group_cells) (groups * group_bytes) marks characters

  -- the nine bytes of a group
  abbrev nine_of : ℕ → List ℕ
  nine_of group = cell_bytes group_cells group_bytes (take group_cells (drop (group * group_cells) marks)) (take group_cells (drop (group * group_cells) characters))

  -- the eight and the last, which the code stores
  nine-of : (group : ℕ) → group < groups → (nine : NineBytes) → nine ≡ nine_from (nine_of group)
      → nine.first ++ (nine.last ∷ []) ≡ take group_bytes (drop (group * group_bytes) all)
  nine-of group h nine e =
      (λ i. (e i).first ++ ((e i).last ∷ []))
      ∙ (nine_joined (nine_of group) (length_cell_bytes group_cells group_bytes _ _)
      ∙ sym (bytes-at (groups * group_cells) (groups * group_bytes) (group * group_cells) (group * group_bytes) group_cells group_bytes (omega arith) refl (omega arith)
      (omega arith) marks characters m c))

  pub group-stored : (group : ℕ) → group < groups → (old : List ℕ) → at + groups * group_bytes ≤ length old → (some first : List ℕ) (nine : NineBytes)
      → length some ≡ length old → length nine.first ≡ group_cells → nine ≡ nine_from (nine_of group) → some ≡ paste old at all (group * group_bytes)
      → first ≡ paste some (at + group * group_bytes) nine.first group_cells
      → set first (at + group * group_bytes + group_cells) nine.last ≡ paste old at all ((group + 1) * group_bytes)
  group-stored group h old long some first nine l k e f g =
      let place = at + group * group_bytes in
      let next : group * group_bytes + group_bytes ≡ (group + 1) * group_bytes = omega arith in
      ap (λ (xs : List ℕ). set xs (place + group_cells) nine.last) (g ∙ (λ i. take place some ++ take_all group_cells nine.first (omega arith) i ++ drop (place + sym k i) some))
      ∙ (last_stored some nine.first place nine.last k (omega arith)
      ∙ ((λ i. take place (f i) ++ nine-of group h nine e i ++ drop (place + group_bytes) (f i))
      ∙ (pasted_more old at all (group * group_bytes) group_bytes (omega arith) (omega (arith, length-all)) ∙ ap (paste old at all) next)))

  pub all-stored : (group : ℕ) → group ≡ groups → (old last : List ℕ) → last ≡ paste old at all (group * group_bytes)
      → last ≡ take at old ++ all ++ drop (at + groups * group_bytes) old
  all-stored group g old last e =
      e
      ∙ (ap (λ (k : ℕ). paste old at all (k * group_bytes)) g
      ∙ ap (λ (xs : List ℕ). take at old ++ xs ++ drop (at + groups * group_bytes) old) (take_all (groups * group_bytes) all (omega (arith, length-all))))
