-- Document 01, "From bits to packets": a data field is an identifier byte, then units: id, length, that many bytes. With the refusals 14 to 17
-- in their order: 14, 17, then at each unit 15, 16. Every byte is read as it stands, and places count from the field's start.
use Rattle.std.specs.Prelude.{Bool, cond, not, ◌&&◌, ◌||◌, List, [], ◌∷◌, ℕ, ◌+◌, eqb, leb, ltb, length, get_or, Option, Some, None, Result, Ok, Err}
use Rattle.laws.specs.Paper.{Paper, accepted, refused_by}
use Rattle.field.specs.declared.WholeUnit.{WholeUnit}
use Rattle.field.specs.declared.FieldError.{FieldError}
use Rattle.field.specs.declared.FieldError.TheVariants.{NoField, PastField, Short, WrongLength}

-- ---- the identifier

abbrev pub identifier : List ℕ → ℕ
identifier field = get_or field 0 0

-- identifier 10 to 1F
unfoldable pub low : ℕ → Bool
low byte = leb 0x10 byte && leb byte 0x1F

-- identifier 99 to 9B
unfoldable pub high : ℕ → Bool
high byte = leb 0x99 byte && leb byte 0x9B

unfoldable pub known : ℕ → Bool
unfolding low high
known byte = low byte || high byte

-- 14: field empty, or identifier not 10 to 1F or 99 to 9B
unfoldable pub no_field : List ℕ → Bool
unfolding known
no_field field = eqb (length field) 0 || not (known (identifier field))

-- 17: place past the field's length
unfoldable pub past_field : List ℕ → ℕ → Bool
past_field field place = ltb (length field) place

-- ---- a unit at a place: id, length, that many bytes

abbrev pub id_at : List ℕ → ℕ → ℕ
id_at field place = get_or field place 0

abbrev pub length_at : List ℕ → ℕ → ℕ
length_at field place = get_or field (place + 1) 0

-- id and length
abbrev pub head_length : ℕ
head_length = 2

-- the place after the unit
abbrev pub after_at : List ℕ → ℕ → ℕ
after_at field place = place + head_length + length_at field place

-- teletext ids are 02 and 03
unfoldable pub teletext_id : ℕ → Bool
teletext_id id = eqb id 0x02 || eqb id 0x03

-- the length of a teletext unit
abbrev pub teletext_length : ℕ
teletext_length = 44

-- 15: unit runs past the field, or its length byte is missing
unfoldable pub short : List ℕ → ℕ → Bool
short field place = ltb (length field) (after_at field place) || leb (length field) (place + 1)

-- 16: identifier 10 to 1F and any length not 44; identifier 99 to 9B and id 02, 03 or C0 with length not 44
unfoldable pub wrong_length : ℕ → ℕ → ℕ → Bool
unfolding low high teletext_id
wrong_length byte id size = (low byte || high byte && (teletext_id id || eqb id 0xC0)) && not (eqb size teletext_length)

-- what stands at a place that is not past the field's length
pub data Here : Type 0 where
  the_end : Here
  a_unit : Here
  refused : ℕ → Here

-- a place equal to the length is the end; at a unit 15 goes before 16
unfoldable pub here : List ℕ → ℕ → Here
unfolding short wrong_length
here field place =
    cond (eqb place (length field)) the_end
    (cond (short field place) (refused 15)
    (cond (wrong_length (identifier field) (id_at field place) (length_at field place)) (refused 16) a_unit))

-- ---- from a place asked

-- 0 means the first unit, which stands behind the identifier; any other place is taken as a unit's start, also one inside a unit
unfoldable pub asked : ℕ → ℕ
asked place = cond (eqb place 0) 1 place

-- where a field is entered: at a place, or nowhere, refused by a number
pub data Start : Type 0 where
  start_at : ℕ → Start
  nowhere : ℕ → Start

-- 14, then 17
unfoldable pub start : List ℕ → ℕ → Start
unfolding no_field past_field asked
start field place = cond (no_field field) (nowhere 14) (cond (past_field field place) (nowhere 17) (start_at (asked place)))

-- the answer at a place: a unit's id, its length and the place after; the end has no value; 15 and 16 carry the unit's place
unfoldable pub unit_answer : List ℕ → ℕ → Here → Paper
unfolding accepted refused_by
unit_answer field place the_end = accepted []
unit_answer field place a_unit = accepted (id_at field place ∷ length_at field place ∷ after_at field place ∷ [])
unit_answer field place (refused number) = refused_by number (place ∷ [])

unfoldable pub unit_from : List ℕ → Start → Paper
unfolding unit_answer here refused_by
unit_from field (nowhere number) = refused_by number []
unit_from field (start_at place) = unit_answer field place (here field place)

-- the unit at a place, of any id
unfoldable pub unit_at : List ℕ → ℕ → Paper
unfolding unit_from start
unit_at field place = unit_from field (start field place)

-- the paper's number and values of a refusal
unfoldable pub error_paper : FieldError → Paper
unfolding refused_by
error_paper NoField = refused_by 14 []
error_paper PastField = refused_by 17 []
error_paper (Short place) = refused_by 15 (place ∷ [])
error_paper (WrongLength place) = refused_by 16 (place ∷ [])

-- the paper's number and values of `unit_at`'s answer
unfoldable pub any_unit_paper : Result (Option WholeUnit) FieldError → Paper
unfolding accepted error_paper
any_unit_paper (Ok (Some unit)) = accepted (unit.id ∷ unit.length ∷ unit.after ∷ [])
any_unit_paper (Ok None) = accepted []
any_unit_paper (Err error) = error_paper error
