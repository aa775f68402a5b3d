-- The bytes of a packet, one by one.
use mathlib.Core.Path.{◌≡◌, ◌∙◌, ap, sym}
use mathlib.Core.List.{List, [], ◌∷◌, ◌++◌, map, map-append}
use Prim.Native.Nat.{ℕ, suc, ◌+◌, ◌-◌, ◌<◌, ◌≤◌}
use native.Mathlib.Omega.{arith}
use lib.ListN.{length, get_or, take, drop, length-drop, length-map}
use lib.Seq.{ext_get_or, get_or-drop, take-suc}
use Rattle.laws.proofs.Lists.{get_d_map, length_part, get_d_part}
use Rattle.coding.specs.Bits.{turned_byte}
use Rattle.packet.specs.Lines.{packet_bytes}

module _ (packet : List ℕ) (first count : ℕ) (fits : (first - 1) + count ≤ length packet) where
  part : List ℕ
  part = take count (drop (first - 1) packet)

  length-part-is : length part ≡ count
  unfolding part
  length-part-is = length_part packet (first - 1) count fits

  pub length_bytes : length (packet_bytes packet first count) ≡ count
  unfolding packet_bytes part
  length_bytes = length-map part turned_byte ∙ length-part-is

  pub byte_at : (k : ℕ) → k < count → get_or (packet_bytes packet first count) k 0 ≡ turned_byte (get_or packet ((first - 1) + k) 0)
  unfolding packet_bytes part
  byte_at k h =
      let inside : k < length part = rw length-part-is h in
      get_d_map turned_byte part k 0 0 inside ∙ ap turned_byte (get_d_part packet (first - 1) count k 0 h)

  -- a list that has each of them is all of them
  pub bytes_are : (xs : List ℕ) → count ≡ length xs → ((k : ℕ) → k < count → get_or xs k 0 ≡ turned_byte (get_or packet ((first - 1) + k) 0))
      → xs ≡ packet_bytes packet first count
  bytes_are xs l e =
      ext_get_or 0 xs (packet_bytes packet first count) (sym l ∙ sym length_bytes)
      (λ k h. let below : k < count = rw (← l) at h in e k below ∙ sym (byte_at k below))

-- one byte more
pub bytes_more : (packet : List ℕ) (first count : ℕ) → (first - 1) + count < length packet
    → packet_bytes packet first (suc count) ≡ packet_bytes packet first count ++ (turned_byte (get_or packet ((first - 1) + count) 0) ∷ [])
unfolding packet_bytes
bytes_more packet first count h =
    let rest = drop (first - 1) packet in
    let inside : count < length rest = omega (arith, length-drop (first - 1) packet) in
    ap (map turned_byte) (take-suc rest count 0 inside)
    ∙ (map-append turned_byte (take count rest) (get_or rest count 0 ∷ [])
    ∙ ap (λ (byte : ℕ). map turned_byte (take count rest) ++ (turned_byte byte ∷ [])) (get_or-drop (first - 1) packet count 0))
