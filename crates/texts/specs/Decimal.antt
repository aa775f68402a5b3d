-- A number in decimal, as the list of its bytes, and how they are held; and one digit of 0 to 15.
use Rattle.std.specs.Prelude.{cond, List, [], ◌∷◌, ◌++◌, ℕ, zero, suc, ◌+◌, ◌/◌, ◌%◌, ltb}
use Rattle.texts.specs.Held.{held}
use Rattle.texts.specs.declared.Text.{Text}

abbrev pub digit : ℕ → ℕ
digit n = 0x30 + n

-- the digits of a number, with a bound on how many there are. Bounds that are enough give the same digits, and a number has fewer digits than
-- the one below allows (`proofs/Decimal.antt`, `enough`)
unfoldable pub digits_of : ℕ → ℕ → List ℕ
digits_of zero n = []
digits_of (suc bound) n = cond (ltb n 10) (digit n ∷ []) (digits_of bound (n / 10) ++ (digit (n % 10) ∷ []))

-- in decimal
unfoldable pub decimal : ℕ → List ℕ
unfolding digits_of
decimal n = digits_of (suc n) n

-- a word of 64 bits has at most twenty (`proofs/Decimal.antt`, `word_digits`)
abbrev pub most_digits : ℕ
most_digits = 20

-- digits in an array of twenty bytes, and how many there are
abbrev pub digits_held : List ℕ → Text most_digits
digits_held digits = held most_digits digits

-- ---- a digit of 0 to 15

-- "0" to "9", "A" to "F"; a larger number goes by its last digit
unfoldable pub digit_text : ℕ → ℕ
digit_text number = cond (ltb (number % 16) 10) (0x30 + number % 16) (0x37 + number % 16)
