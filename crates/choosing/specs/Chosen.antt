-- The rows that an argument asks for, "1-5,20": one or more parts with a comma between them. A part is a row's number, or two of them with a hyphen
-- between them, the first not above the second, and has all rows from the one to the other. A row's number is one or two decimal digits. Parts may
-- overlap, and their order does not matter. An argument that is anything else names no rows.
use Rattle.std.specs.Prelude.{Bool, true, false, cond, ◌&&◌, ◌||◌, List, [], ◌∷◌, map, ℕ, zero, suc, ◌+◌, ◌*◌, ◌-◌, eqb, leb, replicate, Option, Some, None, is_some}
use Rattle.laws.specs.Every.{every}
use Rattle.grid.specs.Grid.{last_row}
use Rattle.choosing.specs.declared.Span.{Span}

-- row 0, the header, can't be asked for
abbrev pub first_row : ℕ
first_row = 1

-- ---- pieces with a mark between them

-- what stands before the first mark: all, where there is none
unfoldable pub front : ℕ → List ℕ → List ℕ
front mark [] = []
front mark (byte ∷ text) = cond (eqb byte mark) [] (byte ∷ front mark text)

-- the pieces behind the first mark: each mark starts one
unfoldable pub others : ℕ → List ℕ → List (List ℕ)
unfolding front
others mark [] = []
others mark (byte ∷ text) = cond (eqb byte mark) (front mark text ∷ others mark text) (others mark text)

unfoldable pub pieces : ℕ → List ℕ → List (List ℕ)
unfolding front others
pieces mark text = front mark text ∷ others mark text

-- ---- a row's number

-- "0" to "9"
abbrev pub is_digit : ℕ → Bool
is_digit byte = leb 0x30 byte && leb byte 0x39

-- what two digits count
unfoldable pub count : ℕ → ℕ → ℕ
count tens units = (tens - 0x30) * 10 + (units - 0x30)

-- the row of two digits; none where one is no digit, or their number is below the first row or above the last
unfoldable pub row_of : ℕ → ℕ → Option ℕ
unfolding count
row_of tens units =
    cond (is_digit tens && is_digit units && (leb first_row (count tens units) && leb (count tens units) last_row)) (Some (count tens units)) None

-- the row of a text of one or two digits: one digit counts as it does behind a "0"
unfoldable pub row_in : List ℕ → Option ℕ
unfolding row_of
row_in [] = None
row_in (units ∷ []) = row_of 0x30 units
row_in (tens ∷ units ∷ []) = row_of tens units
row_in (tens ∷ units ∷ third ∷ more) = None

-- ---- a part

-- "-"
abbrev pub hyphen : ℕ
hyphen = 0x2D

-- two rows, the first not above the second
unfoldable pub span_from : Option ℕ → Option ℕ → Option Span
span_from None last = None
span_from (Some first) None = None
span_from (Some first) (Some last) = cond (leb first last) (Some (record { first = first; last = last })) None

-- from a row alone to itself, or from the row before the hyphen to the one behind it
unfoldable pub span_between : List (Option ℕ) → Option Span
unfolding span_from
span_between [] = None
span_between (row ∷ []) = span_from row row
span_between (first ∷ last ∷ []) = span_from first last
span_between (first ∷ last ∷ third ∷ more) = None

unfoldable pub span_of : List ℕ → Option Span
unfolding span_between row_in pieces
span_of part = span_between (map row_in (pieces hyphen part))

-- whether a part is one
abbrev pub is_span : Option Span → Bool
is_span span = is_some span

abbrev pub covers : Span → ℕ → Bool
covers span row = leb span.first row && leb row span.last

-- ---- the argument

-- ","
abbrev pub comma : ℕ
comma = 0x2C

unfoldable pub spans_in : List ℕ → List (Option Span)
unfolding span_of pieces
spans_in argument = map span_of (pieces comma argument)

-- whether each part is one
unfoldable pub names_rows : List ℕ → Bool
unfolding every spans_in
names_rows argument = every is_span (spans_in argument)

-- whether one of some spans has the row
unfoldable pub covered : List (Option Span) → ℕ → Bool
covered [] row = false
covered (None ∷ spans) row = covered spans row
covered (Some span ∷ spans) row = covers span row || covered spans row

-- the same for so many rows, from a row on
unfoldable pub covered_from : List (Option Span) → ℕ → ℕ → List Bool
unfolding covered
covered_from spans row zero = []
covered_from spans row (suc more) = covered spans row ∷ covered_from spans (suc row) more

-- for each row from the first to the last whether it is wanted: none is where the argument names no rows
unfoldable pub wanted_rows : List ℕ → List Bool
unfolding names_rows covered_from spans_in
wanted_rows argument = cond (names_rows argument) (covered_from (spans_in argument) first_row last_row) (replicate last_row false)

-- whether an answer says that the argument names rows
unfoldable pub says_rows : Option (List Bool) → Bool
says_rows (Some wanted) = true
says_rows None = false

-- the rows that an answer says: none is wanted where it has no rows
unfoldable pub wanted_of : Option (List Bool) → List Bool
wanted_of (Some wanted) = wanted
wanted_of None = replicate last_row false
