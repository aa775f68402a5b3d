-- A row without doubt: each of its bytes has odd parity, all are counted and all of its cells are fresh.
use mathlib.Core.Path.{◌≡◌, refl, ◌∙◌, ap, sym}
use mathlib.Core.Bool.{false}
use mathlib.Core.List.{List, [], ◌∷◌}
use mathlib.Core.Option.{Option, none, some}
use Prim.Native.Nat.{ℕ, zero, suc, ◌-◌, ◌≤◌, ◌<◌}
use native.Mathlib.Nat.{le_of_suc-le-suc, not-suc-le-zero, zero-lt-suc}
use native.Mathlib.Omega.{arith}
use borrow.Author.Tests.{ltb-false}
use lib.ListN.{get_or, length, length-replicate}
use lib.Dec.{eqb, eqb→eq}
use Rattle.laws.proofs.Keeps.{chosen}
use Rattle.coding.specs.Characters.{character}
use Rattle.packet.specs.Lines.{packet_length}
use Rattle.grid.specs.Grid.{columns, rows}
use Rattle.packet.specs.Texts.{Text, text_of}
use Rattle.packet.proofs.Bytes.{length_bytes}
use Rattle.page.specs.declared.Cells.{Cells}
use Rattle.page.specs.Lawful.{fresh}
use Rattle.receiver.specs.Cells.{first_column, how_many, one_missing, row_found, stored}
use Rattle.receiver.proofs.Laying.{count_most, missing_is}
use Rattle.receiver.proofs.Rows.{character_at, found_at, length_found, mark_at, stored-character}
use Rattle.receiver.proofs.Sized.{Sized}

-- ---- what was found

-- what was found is some character
pub record Found (o : Option ℕ) : Type 0 where
  pub code : ℕ
  pub is : o ≡ some code

pub none_missing : (found : List (Option ℕ)) → one_missing found ≡ false → (k : ℕ) → k < length found → Found (get_or found k none)
unfolding one_missing
none_missing [] e k h = absurd (not-suc-le-zero h)
none_missing (none ∷ found) e k h = absurd (let z : ◌≡◌ {A = ℕ} 0 1 = cc in omega arith)
none_missing (some c ∷ found) e zero h = record { code = c; is = refl }
none_missing (some c ∷ found) e (suc k) h = none_missing found e k (le_of_suc-le-suc h)

pub each_found : (found : List (Option ℕ)) → ((k : ℕ) → k < length found → Found (get_or found k none)) → one_missing found ≡ false
unfolding one_missing
each_found [] each = refl
each_found (none ∷ found) each = let f = each 0 (zero-lt-suc _) in absurd (let z : ◌≡◌ {A = ℕ} 0 1 = cc f.is in omega arith)
each_found (some c ∷ found) each = each_found found (λ k h. each (suc k) (omega arith))

pub all_counted : (found : List (Option ℕ)) → one_missing found ≡ false → how_many found ≡ length found
all_counted found e =
    omega (arith, count_most found, ltb-false (how_many found) (length found) (sym (missing_is found) ∙ e))

-- ---- a row

module _ (row : ℕ) (bytes : List ℕ) (whole : length bytes ≡ columns) where
  -- its columns, from the first on
  module _ (column : ℕ) (from : first_column row ≤ column) (below : column < columns) where
    pub column-found : one_missing (row_found row bytes) ≡ false → Found (character (get_or bytes column 0))
    column-found e =
        rw (found_at row bytes whole column from below) at
        (none_missing (row_found row bytes) e (column - first_column row) (omega (arith, length_found row bytes whole)))

    pub stored-fresh : (cells : Cells) → Sized cells → row < rows → one_missing (row_found row bytes) ≡ false
        → (character (get_or bytes column 0) ≡ some (character_at (stored row bytes cells) row column))
        × (mark_at (stored row bytes cells) row column ≡ fresh)
    stored-fresh cells sized inside e =
        let f = column-found e in
        let s = stored-character row bytes whole cells sized inside column from below f.code f.is in
        (f.is ∙ ap {B = Option ℕ} some (sym s.0), s.1)

-- ---- the columns of a packet are forty

pub length_text : (packet : List ℕ) → length (text_of packet).bytes ≡ columns
unfolding text_of
length_text packet =
    chosen (λ (t : Text). length t.bytes ≡ columns) (eqb (length packet) packet_length) _ _
    (λ w. length_bytes packet 3 columns (omega (arith, eqb→eq (length packet) packet_length w)))
    (λ w. length-replicate {A = ℕ} columns 0)
