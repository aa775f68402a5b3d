-- Document 01, "Marked cases, and the edges": the thirteen cases in their order, each with what the definitions give and what the paper says. An answer
-- stands as its number and values, a message, a character or a yes as one value, and a refused byte as an answer without a number.
use Rattle.std.specs.Prelude.{◌≡◌, Bool, true, cond, List, [], ◌∷◌, map, ℕ, get_or, replicate, take}
use Rattle.laws.specs.Paper.{Paper, accepted, one_or_none, unnumbered}
use Rattle.coding.specs.Bits.{framing_passes, turned_byte}
use Rattle.coding.specs.Characters.{character}
use Rattle.coding.specs.Hamming.{corrected, message, tests_of}
use Rattle.packet.specs.Addresses.{address_of, address_paper}
use Rattle.packet.specs.Headers.{zero_header}
use Rattle.page.specs.OldForm.{old_record_of}
use Rattle.page.specs.Records.{record_of}
use Rattle.page.specs.declared.Page.{Page}
use Rattle.receiver.specs.Cells.{blank}
use Rattle.display.specs.Display.{along, pattern, start, zero_cell}
use Rattle.display.specs.declared.Cell.{Cell}
use Rattle.display.specs.declared.Symbol.{Symbol}
use Rattle.display.specs.declared.Symbol.TheVariants.{Letter, Mosaic}

-- what the definitions give, and what the paper says
pub record Case : Type 0 where
  pub found : List Paper
  pub marked : List Paper

abbrev pub value : ℕ → Paper
unfolding accepted
value n = accepted (n ∷ [])

abbrev pub yes_or_no : Bool → Paper
unfolding accepted
yes_or_no b = accepted (cond b 1 0 ∷ [])

-- ---- what the cases ask

-- the address in two bytes, after turning
unfoldable pub address_in : ℕ → ℕ → Paper
unfolding address_paper address_of turned_byte
address_in first second = address_paper (address_of (turned_byte first ∷ turned_byte second ∷ replicate 40 0))

-- a cell of some codes at the start of a row
unfoldable pub cell_of : List ℕ → ℕ → Cell
unfolding along start zero_cell
cell_of codes n = get_or (along start codes) n zero_cell

-- a letter with its code, a mosaic with its pattern
abbrev pub letter : ℕ → List ℕ → Paper
unfolding accepted
letter code colours = accepted (0 ∷ code ∷ colours)

abbrev pub mosaic : ℕ → List ℕ → Paper
unfolding accepted
mosaic bits colours = accepted (1 ∷ bits ∷ colours)

-- a symbol, with the colours that a case names
abbrev pub symbol_in : Symbol → List ℕ → Paper
unfolding accepted
symbol_in (Letter code) colours = letter code colours
symbol_in (Mosaic bits separated) colours = mosaic bits colours

unfoldable pub shows : List ℕ → ℕ → Paper
unfolding accepted cell_of
shows codes n = symbol_in (cell_of codes n).symbol []

unfoldable pub shows_in : List ℕ → ℕ → Paper
unfolding accepted cell_of
shows_in codes n = symbol_in (cell_of codes n).symbol ((cell_of codes n).foreground ∷ [])

unfoldable pub shows_on : List ℕ → ℕ → Paper
unfolding accepted cell_of
shows_on codes n = symbol_in (cell_of codes n).symbol ((cell_of codes n).foreground ∷ (cell_of codes n).background ∷ [])

unfoldable pub boxed_at : List ℕ → ℕ → Paper
unfolding accepted cell_of
boxed_at codes n = yes_or_no (cell_of codes n).boxed

-- a clean page 100, time and control bits 0, and no character yet
unfoldable pub clean100 : Page
unfolding zero_header blank
clean100 = record { magazine = 1; header = zero_header; clean = true; cells = blank }

-- 11 7F 1E 12 20
abbrev pub held_codes : List ℕ
held_codes = 0x11 ∷ 0x7F ∷ 0x1E ∷ 0x12 ∷ 0x20 ∷ []

-- 0B 0B 41 0A 0A
abbrev pub box_codes : List ℕ
box_codes = 0x0B ∷ 0x0B ∷ 0x41 ∷ 0x0A ∷ 0x0A ∷ []

-- 10 08 04 02 01 00 80 40 20
abbrev pub nine_of_spaces : List ℕ
nine_of_spaces = 0x10 ∷ 0x08 ∷ 0x04 ∷ 0x02 ∷ 0x01 ∷ 0x00 ∷ 0x80 ∷ 0x40 ∷ 0x20 ∷ []

abbrev pub red : ℕ
red = 1

abbrev pub green : ℕ
green = 2

-- ---- the cases

unfoldable pub marked_cases : List Case
unfolding accepted one_or_none unnumbered message corrected tests_of character framing_passes address_in pattern shows shows_in shows_on boxed_at old_record_of record_of clean100
marked_cases =
    -- 1. 15→0, EA→15
    record { found = one_or_none (message 0x15) ∷ one_or_none (message 0xEA) ∷ []; marked = value 0 ∷ value 15 ∷ [] }
    -- 2. 14→0 and 55→0, corrected
    ∷ record {
      found = one_or_none (message 0x14) ∷ one_or_none (message 0x55) ∷ yes_or_no (corrected (tests_of 0x14)) ∷ yes_or_no (corrected (tests_of 0x55)) ∷ [];
      marked = value 0 ∷ value 0 ∷ value 1 ∷ value 1 ∷ [];
    }
    -- 3. 16 refused
    ∷ record { found = one_or_none (message 0x16) ∷ []; marked = unnumbered ∷ [] }
    -- 4. 00→1 and FF→14, corrected
    ∷ record {
      found = one_or_none (message 0x00) ∷ one_or_none (message 0xFF) ∷ yes_or_no (corrected (tests_of 0x00)) ∷ yes_or_no (corrected (tests_of 0xFF)) ∷ [];
      marked = value 1 ∷ value 14 ∷ value 1 ∷ value 1 ∷ [];
    }
    -- 5. 02 15 is magazine 1 row 0
    ∷ record { found = address_in 0x02 0x15 ∷ []; marked = accepted (1 ∷ 0 ∷ []) ∷ [] }
    -- 6. D0 9B is magazine 8 row 23
    ∷ record { found = address_in 0xD0 0x9B ∷ []; marked = accepted (8 ∷ 23 ∷ []) ∷ [] }
    -- 7. C1 gives 41; 41 is refused
    ∷ record { found = one_or_none (character 0xC1) ∷ one_or_none (character 0x41) ∷ []; marked = value 0x41 ∷ unnumbered ∷ [] }
    -- 8. Framing E4 and E5 pass; E7 and 1B don't
    ∷ record {
      found = map (λ byte. yes_or_no (framing_passes byte)) (0xE4 ∷ 0xE5 ∷ 0xE7 ∷ 0x1B ∷ []);
      marked = value 1 ∷ value 1 ∷ value 0 ∷ value 0 ∷ [];
    }
    -- 9. Mosaic 35→21, 60→32, 7F→63
    ∷ record { found = map (λ code. value (pattern code)) (0x35 ∷ 0x60 ∷ 0x7F ∷ []); marked = value 21 ∷ value 32 ∷ value 63 ∷ [] }
    -- 10. Codes 11 7F 1E 12 20: space; 63 red; 63 red; 63 red; 0 green
    ∷ record {
      found = shows held_codes 0 ∷ map (shows_in held_codes) (1 ∷ 2 ∷ 3 ∷ 4 ∷ []);
      marked = letter 0x20 [] ∷ mosaic 63 (red ∷ []) ∷ mosaic 63 (red ∷ []) ∷ mosaic 63 (red ∷ []) ∷ mosaic 0 (green ∷ []) ∷ [];
    }
    -- 11. 0B 0B 41 0A 0A: cells 1 to 3 boxed
    ∷ record {
      found = map (boxed_at box_codes) (0 ∷ 1 ∷ 2 ∷ 3 ∷ 4 ∷ []);
      marked = value 0 ∷ value 1 ∷ value 1 ∷ value 1 ∷ value 0 ∷ [];
    }
    -- 12. 01 1D 41: the A is red on red
    ∷ record { found = shows_on (0x01 ∷ 0x1D ∷ 0x41 ∷ []) 2 ∷ []; marked = letter 0x41 (red ∷ red ∷ []) ∷ [] }
    -- 13. A clean page 100 starts 20 00 00 00 10 in the old form; in the new its fifth byte is 11; the next nine bytes are 10 08 04 02 01 00 80 40 20
    ∷ record {
      found = accepted (take 14 (old_record_of clean100)) ∷ accepted (take 14 (record_of clean100)) ∷ [];
      marked = accepted (0x20 ∷ 0x00 ∷ 0x00 ∷ 0x00 ∷ 0x10 ∷ nine_of_spaces) ∷ accepted (0x20 ∷ 0x00 ∷ 0x00 ∷ 0x00 ∷ 0x11 ∷ nine_of_spaces) ∷ [];
    }
    ∷ []

-- the claim over their list
abbrev pub CasesHold : Type 0
CasesHold = map (λ (c : Case). c.found) marked_cases ≡ map (λ (c : Case). c.marked) marked_cases
