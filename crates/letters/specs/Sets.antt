-- Document 02, request 4: thirteen codes change their letter with C12 to C14. The letter sets that ETS 300 706 gives under designation 0000 for its Latin
-- national options are one table of tables. Letters are code points.
use Rattle.std.specs.Prelude.{Bool, cond, List, [], ◌∷◌, ℕ, suc, ◌+◌, ◌*◌, eqb, leb, ltb, length, get_or}
use Rattle.laws.specs.Digits.{bit}

-- ---- the table of tables

-- the thirteen codes; each set has its letters in their order
unfoldable pub national_codes : List ℕ
national_codes = 0x23 ∷ 0x24 ∷ 0x40 ∷ 0x5B ∷ 0x5C ∷ 0x5D ∷ 0x5E ∷ 0x5F ∷ 0x60 ∷ 0x7B ∷ 0x7C ∷ 0x7D ∷ 0x7E ∷ []

-- 23 is the pound sign; 60 is a dash, and 7C a double bar
unfoldable pub english : List ℕ
english = 0xA3 ∷ 0x24 ∷ 0x40 ∷ 0x2190 ∷ 0xBD ∷ 0x2192 ∷ 0x2191 ∷ 0x23 ∷ 0x2014 ∷ 0xBC ∷ 0x2016 ∷ 0xBE ∷ 0xF7 ∷ []

unfoldable pub german : List ℕ
german = 0x23 ∷ 0x24 ∷ 0xA7 ∷ 0xC4 ∷ 0xD6 ∷ 0xDC ∷ 0x5E ∷ 0x5F ∷ 0xB0 ∷ 0xE4 ∷ 0xF6 ∷ 0xFC ∷ 0xDF ∷ []

-- Finnish and Hungarian too
unfoldable pub swedish : List ℕ
swedish = 0x23 ∷ 0xA4 ∷ 0xC9 ∷ 0xC4 ∷ 0xD6 ∷ 0xC5 ∷ 0xDC ∷ 0x5F ∷ 0xE9 ∷ 0xE4 ∷ 0xF6 ∷ 0xE5 ∷ 0xFC ∷ []

unfoldable pub italian : List ℕ
italian = 0xA3 ∷ 0x24 ∷ 0xE9 ∷ 0xB0 ∷ 0xE7 ∷ 0x2192 ∷ 0x2191 ∷ 0x23 ∷ 0xF9 ∷ 0xE0 ∷ 0xF2 ∷ 0xE8 ∷ 0xEC ∷ []

unfoldable pub french : List ℕ
french = 0xE9 ∷ 0xEF ∷ 0xE0 ∷ 0xEB ∷ 0xEA ∷ 0xF9 ∷ 0xEE ∷ 0x23 ∷ 0xE8 ∷ 0xE2 ∷ 0xF4 ∷ 0xFB ∷ 0xE7 ∷ []

-- Spanish too
unfoldable pub portuguese : List ℕ
portuguese = 0xE7 ∷ 0x24 ∷ 0xA1 ∷ 0xE1 ∷ 0xE9 ∷ 0xED ∷ 0xF3 ∷ 0xFA ∷ 0xBF ∷ 0xFC ∷ 0xF1 ∷ 0xE8 ∷ 0xE0 ∷ []

-- Slovak too
unfoldable pub czech : List ℕ
czech = 0x23 ∷ 0x16F ∷ 0x10D ∷ 0x165 ∷ 0x17E ∷ 0xFD ∷ 0xED ∷ 0x159 ∷ 0xE9 ∷ 0xE1 ∷ 0x11B ∷ 0xFA ∷ 0x161 ∷ []

-- in the order of their values of C12 to C14, 0 to 6; 7 has no set there
unfoldable pub sets : List (List ℕ)
unfolding english german swedish italian french portuguese czech
sets = english ∷ german ∷ swedish ∷ italian ∷ french ∷ portuguese ∷ czech ∷ []

-- ---- which set a page's control bits choose

-- in a page's control bits, C4 to C14 in order, C14 has weight 1, C13 weight 2 and C12 weight 4
unfoldable pub c12 : ℕ → ℕ
unfolding bit
c12 control = bit control 3

unfoldable pub c13 : ℕ → ℕ
unfolding bit
c13 control = bit control 2

unfoldable pub c14 : ℕ → ℕ
unfolding bit
c14 control = bit control 1

-- the value of C12 to C14 as the standard's table prints them
unfoldable pub option_of : ℕ → ℕ
unfolding c12 c13 c14
option_of control = 4 * c12 control + 2 * c13 control + c14 control

-- a value with no set uses the English one
unfoldable pub set_for : ℕ → List ℕ
unfolding sets
set_for option = get_or sets option english

-- and says so
unfoldable pub stands_in : ℕ → Bool
unfolding sets option_of
stands_in control = leb (length sets) (option_of control)

-- ---- the letter of a code

-- the position of a code among some codes; behind the last where it is none of them
unfoldable pub position_among : List ℕ → ℕ → ℕ
position_among [] code = 0
position_among (national ∷ codes) code = cond (eqb code national) 0 (suc (position_among codes code))

-- one of the thirteen
unfoldable pub is_national : ℕ → Bool
unfolding position_among national_codes
is_national code = ltb (position_among national_codes code) (length national_codes)

-- in some set the letter at the code's position among the thirteen; a code outside them is its own letter
unfoldable pub letter_in : List ℕ → ℕ → ℕ
unfolding position_among national_codes
letter_in letters code = get_or letters (position_among national_codes code) code

-- under a page's control bits
unfoldable pub letter_of : ℕ → ℕ → ℕ
unfolding letter_in set_for option_of
letter_of control code = letter_in (set_for (option_of control)) code
