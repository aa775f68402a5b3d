-- A text that is held at the start of an array, with zeros past it: what is there, and one byte more.
use mathlib.Core.Path.{◌≡◌, sym, ◌∙◌, ap}
use mathlib.Core.List.{List, [], ◌∷◌, ◌++◌, append_assoc}
use Prim.Native.Nat.{ℕ, suc, ◌+◌, ◌-◌, ◌<◌, ◌≤◌}
use native.Mathlib.Omega.{arith}
use lib.ListN.{length, take, set, replicate, length-append, length-replicate}
use lib.Seq.{take-append_seam, set-append_seam}
use Rattle.laws.specs.Text.{padded}

module _ (room : ℕ) (text : List ℕ) where
  pub padded-text : take (length text) (padded room text) ≡ text
  padded-text = take-append_seam text (replicate (room - length text) 0)

  pub padded-length : length text ≤ room → length (padded room text) ≡ room
  padded-length h =
      length-append text (replicate (room - length text) 0)
      ∙ (ap (λ (n : ℕ). length text + n) (length-replicate (room - length text) 0)
      ∙ (let whole : length text + (room - length text) ≡ room = omega arith in whole))

  -- one byte more
  module _ (byte : ℕ) where
    pub one-longer : length text + 1 ≡ length (text ++ (byte ∷ []))
    one-longer = sym (length-append text (byte ∷ []))

    pub padded-more : length text < room → set (padded room text) (length text) byte ≡ padded room (text ++ (byte ∷ []))
    padded-more h =
        let one : room - length text ≡ suc (room - (length text + 1)) = omega arith in
        ap (λ (n : ℕ). set (text ++ replicate n 0) (length text) byte) one
        ∙ (set-append_seam text 0 (replicate (room - (length text + 1)) 0) byte
        ∙ (ap (λ (n : ℕ). text ++ (byte ∷ replicate (room - n) 0)) one-longer
        ∙ sym (append_assoc text (byte ∷ []) (replicate (room - length (text ++ (byte ∷ []))) 0))))
