-- The page that is asked for: its number in three digits, "100", or with a time code behind a stroke, "100/1234". Whether there is such a page is not
-- asked here: the receiver's constructor refuses what is out of range by 13.
use Rattle.std.specs.Prelude.{Bool, cond, ◌&&◌, List, ℕ, ◌-◌, eqb, leb, length, get_or}
use Rattle.std.specs.Prelude as code
use Rattle.std.proofs.Math.Option.{Option, none, some}
use Rattle.receiver.specs.declared.Selection.{Selection}
use Rattle.receiver.specs.declared.When.{When}
use Rattle.receiver.specs.declared.When.TheVariants.{Any, Time}

-- "0" to "9"
unfoldable pub is_digit : ℕ → Bool
is_digit byte = leb 0x30 byte && leb byte 0x39

unfoldable pub digit_at : List ℕ → ℕ → Bool
unfolding is_digit
digit_at argument place = is_digit (get_or argument place 0)

-- what a digit counts
unfoldable pub value_at : List ℕ → ℕ → ℕ
value_at argument place = get_or argument place 0 - 0x30

unfoldable pub selection_asked : List ℕ → When → Selection
unfolding value_at
selection_asked argument when =
    record { magazine = value_at argument 0; tens = value_at argument 1; units = value_at argument 2; when = when }

unfoldable pub time_asked : List ℕ → When
unfolding value_at
time_asked argument = Time (value_at argument 4) (value_at argument 5) (value_at argument 6) (value_at argument 7)

-- the page's number alone
unfoldable pub is_number : List ℕ → Bool
unfolding digit_at
is_number argument = digit_at argument 0 && digit_at argument 1 && digit_at argument 2

-- the stroke and the time
unfoldable pub is_time : List ℕ → Bool
unfolding digit_at
is_time argument =
    eqb (get_or argument 3 0) 0x2F && digit_at argument 4 && digit_at argument 5 && digit_at argument 6 && digit_at argument 7

unfoldable pub asked : List ℕ → Option Selection
unfolding is_number is_time selection_asked time_asked
asked argument =
    cond (eqb (length argument) 3) (cond (is_number argument) (some (selection_asked argument Any)) none)
    (cond (eqb (length argument) 8)
    (cond (is_number argument && is_time argument) (some (selection_asked argument (time_asked argument))) none)
    none)

-- what the code gives, as one of these definitions
unfoldable pub asked_for : code.Option Selection → Option Selection
asked_for (code.Some selection) = some selection
asked_for code.None = none
