-- An array that is filled from a place on, element by element: it is pasted over with a list, or with what a function gives of each element of one.
use mathlib.Core.Path.{◌≡◌, sym, ap, ◌∙◌}
use mathlib.Core.List.{List, ◌++◌, map, append-nil}
use Prim.Native.Nat.{ℕ, ◌+◌, ◌<◌}
use native.Mathlib.Numerals.{add-one}
use native.Mathlib.Omega.{arith}
use lib.ListN.{length, get_or, set, take, length-map, length-append, length-replicate, drop_of_length-le, replicate}
use lib.Seq.{paste, paste-suc, take_all}
use Rattle.laws.proofs.Lists.{get_d_map}

module _ (before : List ℕ) (place : ℕ) (from : List ℕ) where
  -- one element more
  pub copied_more : (done : ℕ) → place + done < length before → done < length from
      → set (paste before place from done) (place + done) (get_or from done 0) ≡ paste before place from (done + 1)
  copied_more done inside below = paste-suc before place from done 0 inside below ∙ ap (paste before place from) (sym (add-one done))

  -- and all of them, where the array ends with the last
  pub copied : (done : ℕ) → done ≡ length from → place + done ≡ length before → paste before place from done ≡ take place before ++ from
  copied done all end =
      rw (take_all done from (omega (arith, all)), drop_of_length-le before {i = place + done} (omega (arith, end)))
      (append-nil (take place before ++ from))

module _ (f : ℕ → ℕ) (before : List ℕ) (place : ℕ) (from : List ℕ) where
  pub filled_more : (done : ℕ) → place + done < length before → done < length from
      → set (paste before place (map f from) done) (place + done) (f (get_or from done 0)) ≡ paste before place (map f from) (done + 1)
  filled_more done inside below =
      ap (set (paste before place (map f from) done) (place + done)) (sym (get_d_map f from done 0 0 below))
      ∙ copied_more before place (map f from) done inside (rw (length-map from f) below)

  pub filled : (done : ℕ) → done ≡ length from → place + done ≡ length before → paste before place (map f from) done ≡ take place before ++ map f from
  filled done all end = copied before place (map f from) done (all ∙ sym (length-map from f)) end

-- ---- behind an address

-- an address, and so many zeros behind it
abbrev pub started : List ℕ → ℕ → List ℕ
started address size = address ++ replicate size 0

pub started-length : (address : List ℕ) (size : ℕ) → length (started address size) ≡ length address + size
started-length address size = omega (arith, length-append address (replicate size 0), length-replicate {A = ℕ} size 0)
