-- `letters::letter_of` meets its contract: by whether the code is one of the thirteen, its position in the row that the control bits choose.
use mathlib.Core.Path.{◌≡◌, ◌∙◌, ap}
use mathlib.Core.List.{List, []}
use Prim.Native.Nat.{ℕ, ◌<◌}
use native.Mathlib.Omega.{arith}
use lib.ListN.{length, get_or}
use Rattle.letters.specs.Private.{row_of}
use Rattle.letters.specs.Sets.{letter_of, national_codes, option_of, set_for, sets}
use Rattle.letters.proofs.National.{inside, letter-there, own-letter, row-set, row_small, set_whole}
use Rattle.letters.proofs.sets.letter_of.Goals as goal

-- one of the thirteen, and a row that is there
row-there : (control row : ℕ) → row ≡ row_of control → row < length sets
row-there control row is = let small = row_small control in omega arith

pub returns-then-position-eq-POSITIONS : goal.returns-then-position-eq-POSITIONS
unfolding letter_of national_codes
returns-then-position-eq-POSITIONS c =
    let control = c.args.control in
    own-letter (set_for (option_of control)) (set_whole control) c.args.code _ c.position_of-position.ensures c.if-position-eq-POSITIONS.true

pub offset_bounds-row : goal.offset_bounds-row
unfolding sets
offset_bounds-row c = let small = row-there c.args.control _ c.row_of-row.ensures in omega arith

pub bounds-row : goal.bounds-row
unfolding sets
bounds-row c = row-there c.args.control _ c.row_of-row.ensures

pub offset_bounds-row-position : goal.offset_bounds-row-position
unfolding national_codes
offset_bounds-row-position c =
    let small = inside c.args.code _ c.position_of-position.ensures c.if-position-eq-POSITIONS.false in omega arith

pub bounds-position : goal.bounds-position
unfolding national_codes
bounds-position c = inside c.args.code _ c.position_of-position.ensures c.if-position-eq-POSITIONS.false

pub returns : goal.returns
unfolding letter_of sets national_codes
returns c =
    let control = c.args.control in
    let position = c.position_of-position.result in
    let row = ap (λ (row : ℕ). get_or {A = List ℕ} sets row []) c.row_of-row.ensures ∙ row-set control in
    ap (λ (letters : List ℕ). get_or letters position 0) row
    ∙ letter-there (set_for (option_of control)) (set_whole control) c.args.code position c.position_of-position.ensures
    (inside c.args.code _ c.position_of-position.ensures c.if-position-eq-POSITIONS.false)
