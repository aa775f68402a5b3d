-- Parts of a list: taken out of it element by element, and stored into it run by run.
use mathlib.Core.Path.{◌≡◌, ◌∙◌, ap, sym}
use mathlib.Core.List.{List, ◌++◌, append_assoc, append-nil}
use Prim.Native.Nat.{ℕ, ◌+◌, ◌≤◌, ◌<◌}
use native.Mathlib.Nat.{add_assoc}
use native.Mathlib.Omega.{arith}
use lib.ListN.{length, get_or, take, drop, drop_of_length-le}
use lib.Seq.{drop_at, drop-drop, drop-paste, ext_get_or, length-take-le, paste, take-add, take_all, take_at, take-paste}
use Rattle.laws.proofs.Lists.{length_part, get_d_part}
use Rattle.laws.proofs.Table.{tabulate, entry}
use Rattle.laws.proofs.Tabulated.{length_tabulate}

-- so many elements from a place on, one by one
pub part_is : (xs : List ℕ) (from n : ℕ) → from + n ≤ length xs → tabulate (λ k. get_or xs (from + k) 0) 0 n ≡ take n (drop from xs)
part_is xs from n h =
    ext_get_or 0 (tabulate (λ k. get_or xs (from + k) 0) 0 n) (take n (drop from xs))
    (length_tabulate (λ k. get_or xs (from + k) 0) n 0 ∙ sym (length_part xs from n h))
    (λ k below.
    let inside : k < n = rw (length_tabulate (λ k. get_or xs (from + k) 0) n 0) at below in
    entry (λ k. get_or xs (from + k) 0) n k inside ∙ sym (get_d_part xs from n k 0 inside))

-- a list stored from a place on, n elements of it and then m more
pub pasted_more : (old : List ℕ) (at : ℕ) (new : List ℕ) (n m : ℕ) → at + (n + m) ≤ length old → n + m ≤ length new
    → take (at + n) (paste old at new n) ++ take m (drop n new) ++ drop (at + n + m) (paste old at new n) ≡ paste old at new (n + m)
pasted_more old at new n m h k =
    let front = take-paste old at new n (omega arith) (omega arith) in
    let back : drop (at + n + m) (paste old at new n) ≡ drop (at + (n + m)) old =
    sym (drop-drop m (at + n) (paste old at new n))
    ∙ (ap (drop m) (drop-paste old at new n (omega arith) (omega arith))
    ∙ (drop-drop m (at + n) old ∙ ap (λ (i : ℕ). drop i old) (add_assoc at n m))) in
    (λ i. front i ++ take m (drop n new) ++ back i)
    ∙ ap (λ (xs : List ℕ). xs ++ drop (at + (n + m)) old)
    (append_assoc (take at old) (take n new) (take m (drop n new)) ∙ ap (λ (xs : List ℕ). take at old ++ xs) (sym (take-add n m new)))

-- a list laid over another from its start on, n elements of it and then m more
abbrev pub over : List ℕ → List ℕ → ℕ → List ℕ
over old new n = take n new ++ drop n old

pub over_more : (old new : List ℕ) (n m : ℕ) → n ≤ length new
    → take n (over old new n) ++ take m (drop n new) ++ drop (n + m) (over old new n) ≡ over old new (n + m)
over_more old new n m h =
    let long = length-take-le n new h in
    let back : drop (n + m) (over old new n) ≡ drop (n + m) old =
    sym (drop-drop m n (over old new n)) ∙ (ap (drop m) (drop_at (take n new) (drop n old) n long) ∙ drop-drop m n old) in
    (λ i. take_at (take n new) (drop n old) n long i ++ take m (drop n new) ++ back i)
    ∙ ap (λ (xs : List ℕ). xs ++ drop (n + m) old) (sym (take-add n m new))

-- all of it, over one of its length
pub over_all : (old new : List ℕ) (n : ℕ) → length old ≤ n → length new ≤ n → over old new n ≡ new
over_all old new n h k =
    ap (λ (xs : List ℕ). take n new ++ xs) (drop_of_length-le old h) ∙ (append-nil (take n new) ∙ take_all n new k)
