-- A text that is put into a room at a place: it lies there whole, or, where it would not fit, not at all.
use Rattle.std.specs.Prelude.{cond, List, ◌++◌, ◌≡◌, ℕ, ◌+◌, ltb, length, take, drop}

-- a text laid over a room from a place on
abbrev pub laid_at : List ℕ → ℕ → List ℕ → List ℕ
laid_at room at text = (take at room ++ text) ++ drop (at + length text) room

-- it was put there, and this is the place behind it
pub record Puts (text room : List ℕ) (at : ℕ) (after : List ℕ) (end : ℕ) : Type 0 where
  pub laid : after ≡ laid_at room at text
  pub ends : end ≡ at + length text

-- and where there is no room for it, the room and the place are as they were
pub record PutsWhole (text room : List ℕ) (at : ℕ) (after : List ℕ) (end : ℕ) : Type 0 where
  pub laid : after ≡ cond (ltb (length room) (at + length text)) room (laid_at room at text)
  pub ends : end ≡ cond (ltb (length room) (at + length text)) at (at + length text)
