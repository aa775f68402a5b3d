-- All of some messages, seen one by one.
use mathlib.Core.Path.{◌≡◌, refl, ap, ◌∙◌}
use mathlib.Core.List.{List, [], ◌∷◌}
use mathlib.Core.Logic.{◌⊎◌, inl, inr, ⊎_elim}
use mathlib.Core.Option.{Option, none, some}
use Prim.Native.Nat.{ℕ, zero, suc, ◌+◌, ◌<◌}
use native.Mathlib.Nat.{le_of_suc-le-suc, not-suc-le-zero, zero-lt-suc}
use native.Mathlib.Omega.{arith}
use borrow.Author.Tests.{eq-eqb}
use lib.ListN.{length, get_or, length-map}
use Rattle.laws.proofs.Lists.{get_d_map}
use Rattle.coding.specs.Bits.{turned_byte}
use Rattle.coding.specs.Hamming.{message}
use Rattle.packet.specs.Lines.{packet_length}
use Rattle.packet.proofs.Bytes.{length_bytes, byte_at}
use Rattle.packet.specs.Headers.{all_good, before, control_bytes, header_messages, header_of, header_or}

-- one that is refused spoils them all
pub one_refused : (found : List (Option ℕ)) (k : ℕ) → k < length found → get_or found k none ≡ none → all_good found ≡ none
unfolding all_good
one_refused [] k h e = absurd (not-suc-le-zero h)
one_refused (none ∷ found) k h e = refl
one_refused (some m ∷ found) zero h e = absurd (let z : ◌≡◌ {A = ℕ} 0 1 = cc in omega arith)
one_refused (some m ∷ found) (suc k) h e = ap (before m) (one_refused found k (le_of_suc-le-suc h) e)

-- where each is good, they are all there
pub each_good : (found : List (Option ℕ)) (messages : List ℕ) → length found ≡ length messages
    → ((k : ℕ) → k < length found → get_or found k none ≡ some (get_or messages k 0)) → all_good found ≡ some messages
unfolding all_good
each_good [] [] l e = refl
each_good [] (m ∷ messages) l e = absurd (omega arith)
each_good (o ∷ found) [] l e = absurd (omega arith)
each_good (o ∷ found) (m ∷ messages) l e =
    ap (λ (x : Option ℕ). all_good (x ∷ found)) (e 0 (zero-lt-suc _))
    ∙ ap (before m) (each_good found messages (omega arith) (λ k h. e (suc k) (omega arith)))

-- where each is as was sent, or refused, they are all as sent, or spoiled
pub each_or_refused : (found : List (Option ℕ)) (messages : List ℕ) → length found ≡ length messages
    → ((k : ℕ) → k < length found → (get_or found k none ≡ some (get_or messages k 0)) ⊎ (get_or found k none ≡ none))
    → (all_good found ≡ some messages) ⊎ (all_good found ≡ none)
unfolding all_good
each_or_refused [] [] l e = inl refl
each_or_refused [] (m ∷ messages) l e = absurd (omega arith)
each_or_refused (o ∷ found) [] l e = absurd (omega arith)
each_or_refused (o ∷ found) (m ∷ messages) l e =
    ⊎_elim
    (λ good.
    ⊎_elim (λ others. inl (ap (λ (x : Option ℕ). all_good (x ∷ found)) good ∙ ap (before m) others))
    (λ others. inr (ap (λ (x : Option ℕ). all_good (x ∷ found)) good ∙ ap (before m) others))
    (each_or_refused found messages (omega arith) (λ k h. e (suc k) (omega arith))))
    (λ refused. inr (one_refused (o ∷ found) 0 (zero-lt-suc _) refused))
    (e 0 (zero-lt-suc _))

-- ---- the eight messages of a header

module _ (packet : List ℕ) (whole : length packet ≡ packet_length) where
  length-messages : length (header_messages packet) ≡ 8
  unfolding header_messages
  length-messages = length-map (control_bytes packet) message ∙ length_bytes packet 3 8 (omega arith)

  message_is : (k : ℕ) → k < 8 → get_or (header_messages packet) k none ≡ message (turned_byte (get_or packet (2 + k) 0))
  unfolding header_messages
  message_is k h =
      get_d_map message (control_bytes packet) k none 0 (rw (length_bytes packet 3 8 (omega arith)) h)
      ∙ ap message (byte_at packet 3 8 (omega arith) k h)

  pub header-or-spoiled : (messages : List ℕ) → 8 ≡ length messages
      → ((k : ℕ) → k < 8 → (message (turned_byte (get_or packet (2 + k) 0)) ≡ some (get_or messages k 0)) ⊎ (message (turned_byte (get_or packet (2 + k) 0)) ≡ none))
      → (all_good (header_messages packet) ≡ some messages) ⊎ (all_good (header_messages packet) ≡ none)
  header-or-spoiled messages l e =
      each_or_refused (header_messages packet) messages (length-messages ∙ l)
      (λ k h. let below : k < 8 = rw length-messages at h in
      ⊎_elim (λ good. inl (message_is k below ∙ good)) (λ refused. inr (message_is k below ∙ refused)) (e k below))

  pub header-spoiled : (k : ℕ) → k < 8 → message (turned_byte (get_or packet (2 + k) 0)) ≡ none → all_good (header_messages packet) ≡ none
  header-spoiled k h e = one_refused (header_messages packet) k (rw length-messages h) (message_is k h ∙ e)

  pub header-good : (messages : List ℕ) → 8 ≡ length messages
      → ((k : ℕ) → k < 8 → message (turned_byte (get_or packet (2 + k) 0)) ≡ some (get_or messages k 0))
      → all_good (header_messages packet) ≡ some messages
  header-good messages l e =
      each_good (header_messages packet) messages (length-messages ∙ l)
      (λ k h. let below : k < 8 = rw length-messages at h in message_is k below ∙ e k below)

  -- the header is what its messages give
  pub header_is : {o : Option (List ℕ)} → all_good (header_messages packet) ≡ o → header_of packet ≡ header_or o
  unfolding header_of
  header_is e = rw (eq-eqb _ _ whole, e)
