-- The parts of a header that was read are never too large for their bits: each message is below 16.
use mathlib.Core.Path.{◌≡◌, subst}
use mathlib.Core.List.{List, [], ◌∷◌, ◌++◌, map}
use mathlib.Core.Option.{Option, none, some}
use Prim.Native.Nat.{ℕ, zero, suc, ◌<◌}
use native.Mathlib.Nat.{mod-lt, zero-lt-suc}
use lib.Dec.{T, eqb, lit<}
use lib.ListN.{get_or, length}
use Rattle.std.specs.Prelude.{Result, Ok, Err}
use Rattle.laws.proofs.Digits.{AreBits, binary_below, bits_append}
use Rattle.laws.proofs.Keeps.{chosen, fit_passes}
use Rattle.laws.specs.Digits.{bit}
use Rattle.coding.specs.Hamming.{message}
use Rattle.coding.proofs.Hamming.{Small, small}
use Rattle.packet.specs.Headers.{all_good, before, control_bytes, control_of, header_from, header_messages, header_of, header_or, header_values, lowest_first}
use Rattle.packet.specs.Lines.{packet_length}
use Rattle.packet.specs.declared.Header.{Header}
use Rattle.packet.specs.declared.HeaderError.{HeaderError}
use Rattle.packet.specs.declared.HeaderError.TheVariants.{Spoiled, WrongLength}
use Rattle.page.specs.Lawful.{header_fits}
use Rattle.page.specs.Records.{header_widths}

-- ---- the eight messages

abbrev AllSmall : Option (List ℕ) → Type 0
AllSmall none = Unit {0}
AllSmall (some messages) = (k : ℕ) → get_or messages k 0 < 16

in_front_law : (m : ℕ) → m < 16 → (found : Option (List ℕ)) → AllSmall found → AllSmall (before m found)
in_front_law m h none s = tt
in_front_law m h (some messages) s = each
  where
    each : (k : ℕ) → get_or (m ∷ messages) k 0 < 16
    each zero = h
    each (suc k) = s k

one_more : (o : Option ℕ) → Small o → (found : List (Option ℕ)) → AllSmall (all_good found) → AllSmall (all_good (o ∷ found))
unfolding all_good
one_more none s found t = tt
one_more (some m) s found t = in_front_law m s (all_good found) t

messages_small : (bytes : List ℕ) → AllSmall (all_good (map message bytes))
unfolding all_good
messages_small [] = λ k. zero-lt-suc _
messages_small (b ∷ bytes) = one_more (message b) (small b) (map message bytes) (messages_small bytes)

-- ---- the control bits

bit_small : (byte n : ℕ) → bit byte n < 2
unfolding bit
bit_small byte n = mod-lt _ (zero-lt-suc 1)

lowest_bits : (m : ℕ) → AreBits (lowest_first m)
unfolding lowest_first
lowest_bits m = (bit_small m 1, (bit_small m 2, (bit_small m 3, (bit_small m 4, tt))))

pub control_small : (a b c d : ℕ) → control_of a b c d < 2048
unfolding control_of lowest_first
control_small a b c d =
    binary_below ((bit a 4 ∷ bit b 3 ∷ bit b 4 ∷ []) ++ (lowest_first c ++ lowest_first d))
    (bit_small a 4, (bit_small b 3, (bit_small b 4, bits_append (lowest_first c) (lowest_first d) (lowest_bits c) (lowest_bits d))))

-- ---- the header

from_fits : (messages : List ℕ) → ((k : ℕ) → get_or messages k 0 < 16) → T (header_fits (header_from messages))
unfolding header_fits header_from header_values
from_fits messages s =
    fit_passes header_widths (header_values (header_from messages)) (
      s 1,
      (
        s 0,
        (
          mod-lt (get_or messages 5 0) (lit< tt),
          (
            s 4,
            (
              mod-lt (get_or messages 3 0) (lit< tt),
              (s 2, (control_small (get_or messages 3 0) (get_or messages 5 0) (get_or messages 6 0) (get_or messages 7 0), tt)),
            ),
          ),
        ),
      ),
    )

-- what was read fits, where it is a header
abbrev FitsRead : Result Header HeaderError → Type 0
FitsRead (Ok header) = T (header_fits header)
FitsRead (Err Spoiled) = Unit {0}
FitsRead (Err WrongLength) = Unit {0}

or_fits : (found : Option (List ℕ)) → AllSmall found → FitsRead (header_or found)
unfolding header_or
or_fits none s = tt
or_fits (some messages) s = from_fits messages s

read_fits : (packet : List ℕ) → FitsRead (header_of packet)
unfolding header_of header_messages
read_fits packet =
    chosen FitsRead (eqb (length packet) packet_length) (header_or (all_good (header_messages packet))) (Err WrongLength)
    (λ t. or_fits (all_good (header_messages packet)) (messages_small (control_bytes packet)))
    (λ t. tt)

pub header_fits_law : (packet : List ℕ) (found : Header) → header_of packet ≡ Ok found → T (header_fits found)
header_fits_law packet found e = subst FitsRead e (read_fits packet)
