-- Document 01, "The receiver", with document 02, request 5: 1,000 characters, each with a mark, 0 never, 1 older, 2 fresh. Storing, clearing and ageing.
use Rattle.std.specs.Prelude.{Bool, true, false, cond, List, [], ◌∷◌, map, ℕ, zero, suc, ◌+◌, ◌*◌, eqb, drop, get_or, replicate}
use Rattle.std.proofs.Math.Option.{Option, none, some}
use Rattle.grid.specs.Grid.{columns, cell_count}
use Rattle.coding.specs.Characters.{character}
use Rattle.packet.specs.Texts.{header_column}
use Rattle.page.specs.Lawful.{fresh, is_fresh, never, older, space}
use Rattle.page.specs.declared.Cells.{Cells}

-- spaces (20) marked never
unfoldable pub blank : Cells
blank = record { characters = replicate cell_count space; marks = replicate cell_count never }

-- fresh becomes older
unfoldable pub age : ℕ → ℕ
unfolding is_fresh
age mark = cond (is_fresh mark) older mark

unfoldable pub aged : Cells → Cells
unfolding age
aged cells = record { characters = cells.characters; marks = map age cells.marks }

-- ---- storing a row

-- in row 0 the characters start at column 8
unfoldable pub first_column : ℕ → ℕ
first_column row = cond (eqb row 0) header_column 0

-- what the columns of a row hold, from its first character on: a character, or none where the byte's parity is even
unfoldable pub row_found : ℕ → List ℕ → List (Option ℕ)
unfolding first_column character
row_found row bytes = map character (drop (first_column row) bytes)

-- the cell of the first of them
unfoldable pub row_place : ℕ → ℕ
unfolding first_column
row_place row = row * columns + first_column row

-- each odd-parity byte goes to its cell; other bytes leave their cells. The second number is the cell's mark
unfoldable pub kept_character : Option ℕ → ℕ → ℕ → ℕ
kept_character none character mark = character
kept_character (some new) character mark = new

-- and is marked fresh. The second number is the cell's character
unfoldable pub kept_mark : Option ℕ → ℕ → ℕ → ℕ
kept_mark none mark character = mark
kept_mark (some new) mark character = fresh

-- what was found laid over one half of the cells from a place on, their characters or their marks; the other half stands beside it
unfoldable pub laid : (Option ℕ → ℕ → ℕ → ℕ) → ℕ → List (Option ℕ) → List ℕ → List ℕ → List ℕ
laid keep zero [] half others = half
laid keep zero (found ∷ more) [] others = []
laid keep zero (found ∷ more) (cell ∷ half) others = keep found cell (get_or others 0 0) ∷ laid keep zero more half (drop 1 others)
laid keep (suc place) found [] others = []
laid keep (suc place) found (cell ∷ half) others = cell ∷ laid keep place found half (drop 1 others)

unfoldable pub stored : ℕ → List ℕ → Cells → Cells
unfolding laid kept_character kept_mark row_place row_found
stored row bytes cells =
    record {
      characters = laid kept_character (row_place row) (row_found row bytes) cells.characters cells.marks;
      marks = laid kept_mark (row_place row) (row_found row bytes) cells.marks cells.characters;
    }

-- the count of bytes written
unfoldable pub how_many : List (Option ℕ) → ℕ
how_many [] = 0
how_many (none ∷ others) = how_many others
how_many (some new ∷ others) = 1 + how_many others

-- other bytes put the page in doubt
unfoldable pub one_missing : List (Option ℕ) → Bool
one_missing [] = false
one_missing (none ∷ others) = true
one_missing (some new ∷ others) = one_missing others
