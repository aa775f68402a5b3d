-- Document 01, "Programs": the unit lister takes a field of at most 65,536 bytes (a longer one prints only "too long") and prints for every unit, of
-- any id, "place id length" in decimal, then "end" and the length, or "refused", the number, and for 15 and 16 "at" and the place. A text is
-- the list of its bytes, and every line ends in a line feed.
use Rattle.std.specs.Prelude.{cond, List, [], ◌∷◌, ◌++◌, ℕ, zero, suc, eqb, ltb, length, get_or}
use Rattle.std.proofs.Math.Option.{Option, none, some}
use Rattle.laws.specs.Paper.{Paper}
use Rattle.laws.specs.Text.{line_feed}
use Rattle.texts.specs.Decimal.{decimal}
use Rattle.field.specs.Field.{asked, unit_at}

-- ---- words

abbrev pub space : List ℕ
space = 0x20 ∷ []

-- "end "
abbrev pub end_word : List ℕ
end_word = 0x65 ∷ 0x6E ∷ 0x64 ∷ 0x20 ∷ []

-- "refused "
abbrev pub refused_word : List ℕ
refused_word = 0x72 ∷ 0x65 ∷ 0x66 ∷ 0x75 ∷ 0x73 ∷ 0x65 ∷ 0x64 ∷ 0x20 ∷ []

-- " at "
abbrev pub at_word : List ℕ
at_word = 0x20 ∷ 0x61 ∷ 0x74 ∷ 0x20 ∷ []

-- "too long"
abbrev pub too_long_word : List ℕ
too_long_word = 0x74 ∷ 0x6F ∷ 0x6F ∷ 0x20 ∷ 0x6C ∷ 0x6F ∷ 0x6E ∷ 0x67 ∷ []

-- ---- the lines

-- "place id length" in decimal
unfoldable pub unit_text : ℕ → ℕ → ℕ → List ℕ
unfolding decimal
unit_text place id size = decimal place ++ (space ++ (decimal id ++ (space ++ (decimal size ++ line_feed))))

-- "end" and the length
unfoldable pub end_text : ℕ → List ℕ
unfolding decimal
end_text size = end_word ++ (decimal size ++ line_feed)

-- "refused", the number, and for 15 and 16, which alone have a value, "at" and the place
unfoldable pub refused_text : ℕ → List ℕ → List ℕ
unfolding decimal
refused_text number [] = refused_word ++ (decimal number ++ line_feed)
refused_text number (place ∷ values) = refused_word ++ (decimal number ++ (at_word ++ (decimal place ++ line_feed)))

unfoldable pub too_long_text : List ℕ
too_long_text = too_long_word ++ line_feed

-- ---- one step of the listing

-- a line, and the place at which the listing goes on, if it does
pub record Told : Type 0 where
  pub text : List ℕ
  pub next : Option ℕ

unfoldable pub last : List ℕ → Told
last text = record { text = text; next = none }

-- an accepted answer: no value is the end; a unit has its id, its length and the place after
unfoldable pub taken : ℕ → ℕ → List ℕ → Told
unfolding last unit_text end_text
taken size place [] = last (end_text size)
taken size place (id ∷ values) = record { text = unit_text place id (get_or values 0 0); next = some (get_or values 1 0) }

-- by the answer's number, which no answer of `unit_at` lacks
unfoldable pub numbered : ℕ → ℕ → Option ℕ → List ℕ → Told
unfolding last taken refused_text
numbered size place none values = last []
numbered size place (some number) values = cond (eqb number 0) (taken size place values) (last (refused_text number values))

-- from the answer about a place of a field that has a size
unfoldable pub told : ℕ → ℕ → Paper → Told
unfolding numbered
told size place answer = numbered size place answer.number answer.values

-- a field of at most 65,536 bytes
abbrev pub most : ℕ
most = 65536

-- the line of a place: 0 means the first unit
unfoldable pub line_at : List ℕ → ℕ → Told
unfolding last too_long_text told unit_at asked
line_at input place = cond (ltb most (length input)) (last too_long_text) (told (length input) (asked place) (unit_at input place))

-- ---- the whole listing

-- the line, and the rest where the listing goes on
unfoldable pub following : List ℕ → Option ℕ → (ℕ → List ℕ) → List ℕ
following text none rest = text
following text (some place) rest = text ++ rest place

-- from a place, with a bound on the lines. Bounds that are enough give the same text, and the one below is enough (`proofs/Listing.antt`, `enough`)
unfoldable pub lines : ℕ → List ℕ → ℕ → List ℕ
unfolding following line_at
lines zero input place = []
lines (suc bound) input place = following (line_at input place).text (line_at input place).next (lines bound input)

-- a unit takes two bytes or more, so there are no more units than bytes; the last line is the end or the refusal
unfoldable pub listed_from : List ℕ → ℕ → List ℕ
unfolding lines
listed_from input place = lines (suc (length input)) input place

-- all that the lister prints
unfoldable pub listed : List ℕ → List ℕ
unfolding listed_from
listed input = listed_from input 0
