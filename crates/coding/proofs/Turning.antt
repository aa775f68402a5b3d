-- A turned byte is a byte, whatever is turned.
use Prim.Native.Nat.{ℕ, ◌<◌}
use native.Mathlib.Omega.{arith}
use Rattle.laws.specs.Digits.{weight}
use Rattle.coding.specs.Bits.{turned_byte}

pub turned_small : (byte : ℕ) → turned_byte byte < 256
unfolding weight turned_byte
turned_small byte = omega arith
