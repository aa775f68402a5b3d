-- A recording that is cut into lines from its start: what is left of it, and the next line.
use mathlib.Core.Path.{◌≡◌, refl, sym, ap, ◌∙◌}
use mathlib.Core.List.{List, ◌++◌}
use Prim.Native.Nat.{ℕ, ◌+◌, ◌-◌, ◌≤◌, ◌<◌, min}
use native.Mathlib.Omega.{arith}
use lib.ListN.{length, take, drop, length-append}
use lib.Seq.{drop-drop, drop_at, take_at}
use Rattle.laws.proofs.Lists.{take_min}
use Rattle.packet.specs.Lines.{line_length}

-- the bytes before what is left
abbrev pub so_far : List ℕ → List ℕ → ℕ
so_far recording rest = length recording - length rest

pub record Left (recording rest : List ℕ) : Type 0 where
  pub within : length rest ≤ length recording
  pub is : rest ≡ drop (so_far recording rest) recording

pub none_so_far : (recording : List ℕ) → so_far recording recording ≡ 0
none_so_far recording = omega arith

pub left_all : (recording : List ℕ) → Left recording recording
left_all recording = record { within = omega arith; is = sym (ap (λ (k : ℕ). drop k recording) (none_so_far recording)) }

module _ {recording rest : List ℕ} (left : Left recording rest) where
  pub more_left : 0 < length rest → so_far recording rest < length recording
  more_left h = omega (arith, left.within, h)

  module _ (line : List ℕ) where
    pub line_sized : length line ≡ min line_length (length rest) → length line ≡ min line_length (length recording - so_far recording rest)
    line_sized size = omega (arith, left.within, size)

    module _ (next : List ℕ) (parts : rest ≡ line ++ next) where
      lengths : length rest ≡ length line + length next
      lengths = ap length parts ∙ length-append line next

      pub further : so_far recording next ≡ so_far recording rest + length line
      further = omega (arith, left.within, lengths)

      pub left_next : Left recording next
      left_next =
          record {
            within = omega (arith, left.within, lengths);
            is =
                sym (drop_at line next (length line) refl)
                ∙ (ap (drop (length line)) (sym parts ∙ left.is)
                ∙ (drop-drop (length line) (so_far recording rest) recording ∙ ap (λ (k : ℕ). drop k recording) (sym further)));
          }

      pub line_cut : length line ≡ min line_length (length rest) → line ≡ take line_length (drop (so_far recording rest) recording)
      line_cut size =
          sym (take_at line next (length line) refl)
          ∙ (ap (take (length line)) (sym parts)
          ∙ (ap (λ (k : ℕ). take k rest) size ∙ (take_min line_length rest ∙ ap (take line_length) left.is)))
