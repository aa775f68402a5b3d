-- A list whose every element is a function's of another list's is that list mapped; and a list mapped twice.
use mathlib.Core.Path.{◌≡◌, ◌∙◌, sym}
use mathlib.Core.List.{List, map, map-map}
use Prim.Native.Nat.{ℕ, ◌<◌}
use lib.ListN.{length, get_or, length-map}
use lib.Seq.{ext_get_or}
use Rattle.laws.proofs.Lists.{get_d_map}

pub map_is : {A B : Type 0} (f : A → B) (ys : List A) (xs : List B) (a : A) (b : B) → length xs ≡ length ys
    → ((k : ℕ) → k < length ys → get_or xs k b ≡ f (get_or ys k a)) → xs ≡ map f ys
map_is f ys xs a b l e =
    ext_get_or b xs (map f ys) (l ∙ sym (length-map ys f))
    (λ k h. let below : k < length ys = rw l at h in e k below ∙ sym (get_d_map f ys k b a below))

pub mapped_twice : {A B C : Type 0} (f : A → B) (g : B → C) (h : A → C) → ((a : A) → g (f a) ≡ h a) → (xs : List A) → map g (map f xs) ≡ map h xs
mapped_twice f g h e xs = map-map g f xs ∙ (λ i. map (λ a. e a i) xs)
