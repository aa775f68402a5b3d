-- For the contracts of private functions: no promise rests on these words.
use Rattle.std.specs.Prelude.{cond, ℕ}
use Rattle.letters.specs.Sets.{option_of, stands_in}

-- the row of the table of tables: the first, English, where a value has none
unfoldable pub row_of : ℕ → ℕ
unfolding stands_in option_of
row_of control = cond (stands_in control) 0 (option_of control)
