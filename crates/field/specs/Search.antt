-- Document 01, "From bits to packets": the search from a place passes over units of other ids, and teletext units whose offset is not 0 or 7 to 22
-- or whose framing fails, and leaves from inside the walk at the first teletext unit.
use Rattle.std.specs.Prelude.{Bool, cond, ◌&&◌, ◌||◌, List, [], ◌∷◌, ℕ, zero, suc, ◌+◌, ◌/◌, ◌%◌, eqb, leb, length, get_or, Option, Some, None, Result, Ok, Err}
use Rattle.laws.specs.Paper.{Paper, accepted, refused_by}
use Rattle.coding.specs.Bits.{framing_passes}
use Rattle.field.specs.Field.{Here, the_end, a_unit, refused, here, Start, start_at, nowhere, start, head_length, teletext_id, id_at, after_at, error_paper}
use Rattle.field.specs.declared.Found.{Found}
use Rattle.field.specs.declared.FieldError.{FieldError}

-- ---- a teletext unit: its 44 bytes are two reserved bits (not examined), a field parity bit, a 5-bit line offset, a framing code, and a packet

-- the byte of the bits, most significant first
abbrev pub line_byte : List ℕ → ℕ → ℕ
line_byte field place = get_or field (place + head_length) 0

-- the field parity, as the bit stands
abbrev pub parity_at : List ℕ → ℕ → ℕ
parity_at field place = line_byte field place / 32 % 2

abbrev pub offset_at : List ℕ → ℕ → ℕ
offset_at field place = line_byte field place % 32

-- 0 or 7 to 22
unfoldable pub offset_passes : ℕ → Bool
offset_passes offset = eqb offset 0 || leb 7 offset && leb offset 22

-- the framing code, as it stands
abbrev pub framing_at : List ℕ → ℕ → ℕ
framing_at field place = get_or field (place + (head_length + 1)) 0

abbrev pub packet_place : ℕ → ℕ
packet_place place = place + (head_length + 2)

-- its offset is 0 or 7 to 22, and its framing code is under the same test as a data-line's
unfoldable pub line_passes : List ℕ → ℕ → Bool
unfolding offset_passes framing_passes
line_passes field place = offset_passes (offset_at field place) && framing_passes (framing_at field place)

-- a teletext unit at which the search leaves
unfoldable pub good_teletext : List ℕ → ℕ → Bool
unfolding teletext_id line_passes
good_teletext field place = teletext_id (id_at field place) && line_passes field place

-- ---- the walk

-- how a walk ends: at a teletext unit, by its place; at the field's end; or at a unit that is refused, by the number and its place
pub data Ended : Type 0 where
  found : ℕ → Ended
  no_more : Ended
  refused_at : ℕ → ℕ → Ended

-- what is made of a place: the walk ends there, or goes on at another
pub data Step : Type 0 where
  ends : Ended → Step
  goes_on : ℕ → Step

-- at a unit the walk ends or goes on after the unit; at the end and at a refusal it ends
unfoldable pub step_of : List ℕ → ℕ → Here → Step
unfolding good_teletext
step_of field place the_end = ends no_more
step_of field place (refused number) = ends (refused_at number place)
step_of field place a_unit = cond (good_teletext field place) (ends (found place)) (goes_on (after_at field place))

unfoldable pub step : List ℕ → ℕ → Step
unfolding step_of here
step field place = step_of field place (here field place)

-- a walk: the places of the units that it passed over, in order, and how it ended
pub record Walk : Type 0 where
  pub passed : List ℕ
  pub ended : Ended

-- from a place, by what is made of it and by the walk from any other place
unfoldable pub onward : ℕ → Step → (ℕ → Walk) → Walk
onward place (ends end) rest = record { passed = []; ended = end }
onward place (goes_on after) rest = record { passed = place ∷ (rest after).passed; ended = (rest after).ended }

-- the walk from a place, with a bound on the units and the end that it looks at. Bounds that are enough give the same walk, and the one
-- below is enough: so the first line is for no field and place that a search comes to (`proofs/Walk.antt`, `enough` and `walk_on`)
unfoldable pub walk : ℕ → List ℕ → ℕ → Walk
unfolding onward step
walk zero field place = record { passed = []; ended = no_more }
walk (suc bound) field place = onward place (step field place) (walk bound field)

-- a unit takes two bytes or more and the identifier one, so the field's length bounds the units and the end
unfoldable pub walk_from : List ℕ → ℕ → Walk
unfolding walk
walk_from field place = walk (length field) field place

-- ---- the search

-- the paper's answer: the packet's place, the field parity, the offset and the place after; "no more" has no value; 15 and 16 carry the unit's place
unfoldable pub ended_paper : List ℕ → Ended → Paper
unfolding accepted refused_by
ended_paper field (found place) = accepted (packet_place place ∷ parity_at field place ∷ offset_at field place ∷ after_at field place ∷ [])
ended_paper field no_more = accepted []
ended_paper field (refused_at number place) = refused_by number (place ∷ [])

unfoldable pub searched_from : List ℕ → Start → Paper
unfolding ended_paper walk_from refused_by
searched_from field (nowhere number) = refused_by number []
searched_from field (start_at place) = ended_paper field (walk_from field place).ended

-- the search from a place asked is how its walk ends, with the field's own refusals before it
unfoldable pub searched : List ℕ → ℕ → Paper
unfolding searched_from start
searched field place = searched_from field (start field place)

-- the paper's number and values of `search`'s answer
unfoldable pub found_paper : Result (Option Found) FieldError → Paper
unfolding accepted error_paper
found_paper (Ok (Some unit)) = accepted (unit.packet ∷ unit.parity ∷ unit.offset ∷ unit.after ∷ [])
found_paper (Ok None) = accepted []
found_paper (Err error) = error_paper error
