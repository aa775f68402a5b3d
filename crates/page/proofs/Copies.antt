-- Nine bytes taken out of a list and stored into one, as eight and the last.
use mathlib.Core.Path.{◌≡◌, ◌∙◌, ap, sym}
use mathlib.Core.List.{List, [], ◌∷◌, ◌++◌, append_assoc}
use Prim.Native.Nat.{ℕ, ◌+◌, ◌≤◌}
use native.Mathlib.Nat.{add-suc}
use native.Mathlib.Omega.{arith}
use lib.ListN.{length, length-append, length-drop, get_or, set, take, drop}
use lib.Seq.{append_snoc, drop-cons, get_or-drop, length-take-le, set_at, take-suc}
use Rattle.packing.specs.Cells.{group_bytes, group_cells}

pub nine_taken : (bytes : List ℕ) (at : ℕ) → at + group_bytes ≤ length bytes
    → take group_cells (drop at bytes) ++ (get_or bytes (at + group_cells) 0 ∷ []) ≡ take group_bytes (drop at bytes)
nine_taken bytes at h =
    let part = drop at bytes in
    (λ i. take group_cells part ++ (sym (get_or-drop at bytes group_cells 0) i ∷ [])) ∙ sym (take-suc part group_cells 0 (simp length-drop (omega arith)))

pub last_stored : (old first : List ℕ) (at last : ℕ) → length first ≡ group_cells → at + group_bytes ≤ length old
    → set (take at old ++ first ++ drop (at + length first) old) (at + group_cells) last ≡ take at old ++ (first ++ (last ∷ [])) ++ drop (at + group_bytes) old
last_stored old first at last e h =
    let front = take at old ++ first in
    let place = at + group_cells in
    let long : length front ≡ place = length-append (take at old) first ∙ (λ i. length-take-le at old (omega arith) i + e i) in
    let rest : drop (at + length first) old ≡ get_or old place 0 ∷ drop (at + group_bytes) old =
    ap (λ (n : ℕ). drop (at + n) old) e ∙ (drop-cons old place 0 (omega arith) ∙ ap (λ (n : ℕ). get_or old place 0 ∷ drop n old) (sym (add-suc at group_cells))) in
    ap (λ (xs : List ℕ). set (front ++ xs) place last) rest
    ∙ (set_at front (get_or old place 0) (drop (at + group_bytes) old) last place long
    ∙ (sym (append_snoc front last (drop (at + group_bytes) old))
    ∙ ap (λ (xs : List ℕ). xs ++ drop (at + group_bytes) old) (append_assoc (take at old) first (last ∷ []))))
