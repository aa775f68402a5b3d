-- The count of a line is the number of its odd-parity bytes, and no invented one.
use mathlib.Core.Path.{◌≡◌, refl, ◌∙◌, ap, sym}
use mathlib.Core.Bool.{Bool, true, false, cond}
use mathlib.Core.List.{List, [], ◌∷◌, map}
use mathlib.Core.Option.{Option, none, some}
use Prim.Native.Nat.{ℕ, ◌+◌, ◌%◌}
use native.Mathlib.Nat.{zero-add}
use lib.Count.{ones}
use lib.ListN.{drop}
use Rattle.coding.specs.Bits.{odd}
use Rattle.coding.specs.Characters.{character}
use Rattle.packet.specs.Texts.{header_column, text_of}
use Rattle.receiver.specs.Cells.{first_column, how_many, row_found}
use Rattle.receiver.specs.Effects.{Outcome, effected, header_taken, just_closed, taken, text_taken, unclosed}
use Rattle.receiver.specs.declared.Receiver.{Receiver}
use Rattle.receiver.specs.declared.kinds.Effect.{Effect}
use Rattle.receiver.specs.declared.kinds.Effect.TheVariants.{Nothing, Store, Open, Close, Doubt}
use Rattle.receiver.proofs.Outcomes.{by_doubt, by-effects, kind-1-stores, kind-2-opens}
use Rattle.receiver.proofs.Rows.{text_first}

-- how many bytes have an odd count of ones
unfoldable pub odd_bytes : List ℕ → ℕ
odd_bytes [] = 0
odd_bytes (byte ∷ bytes) = cond (odd (ones byte)) 1 0 + odd_bytes bytes

one_more : (is_odd : Bool) (code : ℕ) (others : List (Option ℕ)) → how_many (cond is_odd (some code) none ∷ others) ≡ cond is_odd 1 0 + how_many others
unfolding how_many
one_more true code others = refl
one_more false code others = sym (zero-add (how_many others))

count_odd : (bytes : List ℕ) → how_many (map character bytes) ≡ odd_bytes bytes
unfolding how_many odd_bytes character
count_odd [] = refl
count_odd (byte ∷ bytes) =
    one_more (odd (ones byte)) (byte % 128) (map character bytes) ∙ ap (λ (n : ℕ). cond (odd (ones byte)) 1 0 + n) (count_odd bytes)

-- of a row
pub count_is_odd_bytes : (row : ℕ) (bytes : List ℕ) → how_many (row_found row bytes) ≡ odd_bytes (drop (first_column row) bytes)
unfolding row_found
count_is_odd_bytes row bytes = count_odd (drop (first_column row) bytes)

-- ---- and so of a line

module _ (receiver : Receiver) (packet lent : List ℕ) where
  -- a stored row
  pub kind-1-count : (taken receiver packet lent).kind ≡ 1 → (taken receiver packet lent).count ≡ odd_bytes (text_of packet).bytes
  unfolding text_taken
  kind-1-count e =
      let s = kind-1-stores receiver packet lent e in
      ap (λ (o : Outcome). o.count) s.gives
      ∙ (count_is_odd_bytes s.row (text_of packet).bytes
      ∙ ap (λ (n : ℕ). odd_bytes (drop n (text_of packet).bytes)) (text_first s.row s.ours.first))

  -- a header
  pub kind-2-count : (taken receiver packet lent).kind ≡ 2 → (taken receiver packet lent).count ≡ odd_bytes (drop header_column (text_of packet).bytes)
  unfolding header_taken
  kind-2-count e =
      ap (λ (o : Outcome). o.count) (kind-2-opens receiver packet lent e).gives ∙ count_is_odd_bytes 0 (text_of packet).bytes

-- where nothing is stored nothing is counted
abbrev NoCount : Outcome → Type 0
NoCount outcome = (outcome.kind ≡ 1 → ⊥) → (outcome.kind ≡ 2 → ⊥) → outcome.count ≡ 0

no_count_by : (receiver : Receiver) (e : Effect) (bytes lent : List ℕ) → NoCount (effected receiver e bytes lent)
unfolding effected unclosed text_taken header_taken just_closed
no_count_by receiver Nothing bytes lent = λ n m. refl
no_count_by receiver (Store row) bytes lent = λ n m. absurd (n refl)
no_count_by receiver (Open header) bytes lent = λ n m. absurd (m refl)
no_count_by receiver (Close kind) bytes lent = λ n m. refl
no_count_by receiver (Doubt could) bytes lent = by_doubt receiver lent NoCount could (λ o t n m. refl) (λ o t n m. refl) (λ o n m. refl)

pub none_stored_none_counted : (receiver : Receiver) (packet lent : List ℕ) → NoCount (taken receiver packet lent)
none_stored_none_counted receiver packet lent = by-effects receiver packet lent NoCount (λ e. no_count_by receiver e (text_of packet).bytes lent)
