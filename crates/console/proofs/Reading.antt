-- What a read of a part tells of the whole buffer.
use mathlib.Core.Path.{◌≡◌, subst, sym}
use mathlib.Core.List.{List}
use Prim.Native.Nat.{ℕ, ◌+◌, ◌-◌, ◌≤◌, ◌<◌}
use native.Mathlib.Omega.{arith}
use lib.ListN.{length}
use lib.Seq.{length-take-le}
use Rattle.console.specs.Read.{IsPrefixLen, Read, Within}
use Rattle.console.specs.declared.Stop.{Stop}
use Rattle.std.specs.Prelude.{Result, Ok, Err}

pub behind : (got : Result ℕ Stop) (place : ℕ) (buffer part : List ℕ) → Read got part → length part ≡ length buffer - place → Within got place buffer
behind (Ok count) place buffer part r size = λ h. (r.0, (let most = r.1 in omega arith))
behind (Err stop) place buffer part r size = tt

-- so many bytes, in the case that was found
pub some_read : {got : Result ℕ Stop} (place : ℕ) (buffer : List ℕ) {count : ℕ} → got ≡ Ok count → Within got place buffer → place < length buffer
    → (0 < count) × (place + count ≤ length buffer)
some_read place buffer e w h = subst (λ (g : Result ℕ Stop). Within g place buffer) e w h

-- a count within the buffer
pub counts : (count : ℕ) (buffer : List ℕ) → count ≤ length buffer → IsPrefixLen count buffer
counts count buffer h = (h, sym (length-take-le count buffer h))
