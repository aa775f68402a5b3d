-- Document 01, "Addresses and headers": packet bytes 1 and 2 are two messages; the first is magazine (weights 1, 2, 4; 0 means 8) and row weight 1,
-- the second is row weights 2, 4, 8, 16. A packet that is not 42 bytes is refused by 10.
use Rattle.std.specs.Prelude.{cond, List, [], ◌∷◌, ℕ, ◌+◌, ◌*◌, ◌/◌, ◌%◌, eqb, length, Result, Ok, Err}
use Rattle.std.proofs.Math.Option.{Option, none, some}
use Rattle.laws.specs.Paper.{Paper, accepted, refused_by}
use Rattle.coding.specs.Hamming.{message}
use Rattle.packet.specs.Lines.{packet_byte, packet_length}
use Rattle.packet.specs.declared.Address.{Address}
use Rattle.packet.specs.declared.Address.TheVariants.{Whole, First, Second, Unread}
use Rattle.packet.specs.declared.WrongLength.{WrongLength}
use Rattle.packet.specs.Lines.{wrong_length}

-- weights 1, 2, 4 of the first message; 0 means 8
unfoldable pub magazine_of : ℕ → ℕ
magazine_of first = cond (eqb (first % 8) 0) 8 (first % 8)

-- row weight 1 is the first message's weight 8
unfoldable pub row_weight1 : ℕ → ℕ
row_weight1 first = first / 8

-- and row weights 2 to 16 are the second message's 1 to 8
unfoldable pub row_of : ℕ → ℕ → ℕ
unfolding row_weight1
row_of first second = row_weight1 first + 2 * second

-- what the two messages show, where each is good or refused
unfoldable pub shown : Option ℕ → Option ℕ → Address
unfolding magazine_of row_of row_weight1
shown (some first) (some second) = Whole (magazine_of first) (row_of first second)
shown (some first) none = First (magazine_of first) (row_weight1 first)
shown none (some second) = Second second
shown none none = Unread

unfoldable pub address_of : List ℕ → Result Address WrongLength
unfolding shown message packet_byte
address_of packet =
    cond (eqb (length packet) packet_length) (Ok (shown (message (packet_byte packet 1)) (message (packet_byte packet 2)))) (Err wrong_length)

-- the paper's number and values: a refused message is an answer without a number, and what the other shows are its values
unfoldable pub address_paper : Result Address WrongLength → Paper
unfolding accepted refused_by
address_paper (Ok (Whole magazine row)) = accepted (magazine ∷ row ∷ [])
address_paper (Ok (First magazine weight1)) = record { number = none; values = magazine ∷ weight1 ∷ [] }
address_paper (Ok (Second second)) = record { number = none; values = second ∷ [] }
address_paper (Ok Unread) = record { number = none; values = [] }
address_paper (Err _) = refused_by 10 []
