-- The form of a page header in a case: six numbers of a byte, and the control bits in two, the high byte first (tests/model/FORMAT.md). What lies past the end is zero.
use Rattle.std.specs.Prelude.{List, [], ◌∷◌, ℕ, ◌+◌, ◌*◌, ◌/◌, ◌%◌, get_or}
use Rattle.packet.specs.declared.Header.{Header}

unfoldable pub header_of : List ℕ → Header
header_of form =
    record {
      tens = get_or form 0 0;
      units = get_or form 1 0;
      hours_tens = get_or form 2 0;
      hours_units = get_or form 3 0;
      minutes_tens = get_or form 4 0;
      minutes_units = get_or form 5 0;
      control = get_or form 6 0 * 256 + get_or form 7 0;
    }

unfoldable pub header_bytes : Header → List ℕ
header_bytes header =
    header.tens ∷ header.units ∷ header.hours_tens ∷ header.hours_units ∷ header.minutes_tens ∷ header.minutes_units
    ∷ header.control / 256 ∷ header.control % 256 ∷ []
