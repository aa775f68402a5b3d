-- Document 02, request 3, over demand 3's runs: what a line's count of mended bytes tells. Where no Hamming byte of a line has more than one wrong bit, it is
-- how many of the bytes examined came with one.
use Rattle.std.specs.Prelude.{cond, List, [], ◌∷◌, ◌++◌, ◌≡◌, ℕ, ◌+◌, T, eqb, get_or}
use Rattle.coding.specs.Bits.{distance}
use Rattle.packet.specs.Headers.{control_bytes}
use Rattle.packet.specs.Lines.{packet_bytes}
use Rattle.packet.specs.Sent.{line_packet}
use Rattle.receiver.specs.Entries.{Entered}
use Rattle.demands.specs.Demands.{Ready, lightly}
use Rattle.demands.specs.Runs.{Run, entry_at, is_row, line_at, line_within, received_at, sent_at}

-- the count of an answer
unfoldable pub mended_of : Entered → ℕ
mended_of entry = get_or entry.answer.values 3 0

-- how many of some bytes came with a wrong bit
unfoldable pub how_many_wrong : List ℕ → List ℕ → ℕ
unfolding distance
how_many_wrong [] received = 0
how_many_wrong (byte ∷ sent) [] = 0
how_many_wrong (byte ∷ sent) (other ∷ received) = cond (eqb (distance other byte) 0) 0 1 + how_many_wrong sent received

-- of a packet, the Hamming bytes that are examined for a magazine, by the line as sent: the two of the address, and in a row 0 of the magazine the eight control
-- bytes
unfoldable pub hamming_bytes : ℕ → List ℕ → List ℕ → List ℕ
unfolding packet_bytes is_row
hamming_bytes magazine sent packet = packet_bytes packet 1 2 ++ cond (is_row magazine 0 sent) (control_bytes packet) []

-- of line k of a run
unfoldable pub wrong_at : Run → ℕ → ℕ
unfolding how_many_wrong hamming_bytes line_packet line_at
wrong_at run k =
    let sent : List ℕ = sent_at run.lines k in
    let bytes : List ℕ → List ℕ = hamming_bytes run.selection.magazine sent in
    how_many_wrong (bytes (line_packet sent)) (bytes (line_packet (received_at run.lines k)))

abbrev pub CountsTheWrong : Type 0
CountsTheWrong = (run : Run) → Ready run → (k : ℕ) → T (line_within lightly (line_at run.lines k)) → mended_of (entry_at run k) ≡ wrong_at run k
