-- A line that comes as it was sent is within any damage.
use mathlib.Core.Path.{◌≡◌, ap}
use mathlib.Core.Bool.{Bool, true, ◌||◌}
use mathlib.Core.List.{List, [], ◌∷◌}
use Prim.Native.Nat.{ℕ}
use native.Mathlib.Omega.{arith}
use borrow.Author.Tests.{eq-eqb, le-leb}
use lib.Bits.{xor_self}
use lib.Count.{ones}
use lib.Dec.{T, eqb, leb}
use lib.ListN.{get_or, length}
use Rattle.laws.specs.Every.{every, every_pair}
use Rattle.laws.proofs.Keeps.{all_five, both, either, passes}
use Rattle.coding.specs.Bits.{distance, odd}
use Rattle.grid.specs.Grid.{last_row}
use Rattle.packet.specs.Headers.{control_bytes}
use Rattle.packet.specs.Lines.{framing_place, line_length, packet_bytes}
use Rattle.packet.specs.Sent.{damage, is_byte, line_packet, near, none_or_odd, row_damage, sent_by_rules, sent_row}
use Rattle.packet.specs.Texts.{column_bytes, header_text_bytes}
use Rattle.packet.proofs.Sent.{sent-parts}

pub no_distance : (byte : ℕ) → distance byte byte ≡ 0
unfolding distance ones
no_distance byte = ap ones (xor_self byte)

near_itself : (d byte : ℕ) → T (near d byte byte)
unfolding near
near_itself d byte = passes (leb (distance byte byte) d) (le-leb (distance byte byte) d (omega (arith, no_distance byte)))

none_wrong : (byte : ℕ) → T (none_or_odd byte byte)
unfolding none_or_odd
none_wrong byte = passes (eqb (distance byte byte) 0 || odd (distance byte byte)) (ap (λ (b : Bool). b || odd (distance byte byte)) (eq-eqb (distance byte byte) 0 (no_distance byte)))

each_itself : (test : ℕ → ℕ → Bool) → ((byte : ℕ) → T (test byte byte)) → (bytes : List ℕ) → T (every_pair test bytes bytes)
unfolding every_pair
each_itself test itself [] = tt
each_itself test itself (byte ∷ others) = both (test byte byte) (every_pair test others others) (itself byte) (each_itself test itself others)

row_undamaged : (d row : ℕ) (packet : List ℕ) → T (row_damage d row packet packet)
unfolding row_damage
row_undamaged d row packet =
    either T (eqb row 0) _ _
    (both (every_pair (near d) (control_bytes packet) (control_bytes packet)) (every_pair none_or_odd (header_text_bytes packet) (header_text_bytes packet))
    (each_itself (near d) (near_itself d) (control_bytes packet)) (each_itself none_or_odd none_wrong (header_text_bytes packet)))
    (either T (leb row last_row) (every_pair none_or_odd (column_bytes packet) (column_bytes packet)) true (each_itself none_or_odd none_wrong (column_bytes packet)) tt)

pub undamaged : (d : ℕ) (line : List ℕ) → T (sent_by_rules line) → T (damage d line line)
unfolding damage
undamaged d line sent =
    let parts = sent-parts line sent in
    let code = get_or line framing_place 0 in
    all_five (eqb (length line) line_length) (every is_byte line) (leb (distance code code) 1)
    (every_pair (near d) (packet_bytes (line_packet line) 1 2) (packet_bytes (line_packet line) 1 2)) (row_damage d (sent_row line) (line_packet line) (line_packet line))
    parts.0 parts.1 (passes (leb (distance code code) 1) (le-leb (distance code code) 1 (omega (arith, no_distance code))))
    (each_itself (near d) (near_itself d) (packet_bytes (line_packet line) 1 2)) (row_undamaged d (sent_row line) (line_packet line))
