-- Marks: after a clearing none is older, right after an opening none is fresh, and row 0's columns 0 to 7 stay space and never.
use mathlib.Core.Path.{◌≡◌, ◌∙◌, sym, subst}
use mathlib.Core.Bool.{Bool, true, not, ◌||◌}
use mathlib.Core.List.{List, [], ◌∷◌}
use mathlib.Core.Option.{Option, none, some}
use Prim.Native.Nat.{ℕ, zero, suc, ◌<◌}
use native.Mathlib.Omega.{arith}
use lib.Dec.{T, T_not, eqb, eqb→eq, eqb_refl, leb, leb→le}
use lib.ListN.{drop, get_or, length, length-take, take}
use lib.Seq.{get_or-take}
use Rattle.laws.specs.Every.{every, every_pair}
use Rattle.laws.proofs.Bools.{both_left, both_right, where_asked}
use Rattle.laws.proofs.Every.{every_at, every_pair_at}
use Rattle.laws.proofs.Keeps.{chosen, every_mapped, every-replicate}
use Rattle.coding.specs.Characters.{character}
use Rattle.packet.specs.Texts.{header_column, text_of}
use Rattle.packet.specs.declared.Header.{Header}
use Rattle.page.specs.Lawful.{cell_lawful, cells_lawful, fresh, highest_mark, is_fresh, is_never, never, older, space}
use Rattle.grid.specs.Grid.{cell_count}
use Rattle.page.specs.declared.Cells.{Cells}
use Rattle.receiver.specs.Cells.{age, aged, blank, first_column, kept_mark, row_found, row_place, stored}
use Rattle.receiver.specs.Entries.{lawful}
use Rattle.receiver.specs.Effects.{Outcome, clears, closed, header_taken, opened, row_stored, taken}
use Rattle.receiver.specs.Private.{LowMarks}
use Rattle.receiver.specs.declared.Receiver.{Receiver}
use Rattle.receiver.proofs.Laid.{every-laid}
use Rattle.receiver.proofs.Lawful.{parts, taken-lawful}
use Rattle.receiver.proofs.Outcomes.{kind-2-opens}

-- ---- none older after a clearing

unfoldable pub not_older : ℕ → Bool
unfolding is_fresh
not_older mark = eqb mark never || is_fresh mark

kept_not_older : (f : Option ℕ) (m c : ℕ) → T true → T (not_older m) → T (not_older (kept_mark f m c))
unfolding kept_mark not_older is_fresh
kept_not_older none m c g t = t
kept_not_older (some new) m c g t = tt

blank_not_older : T (every not_older blank.marks)
unfolding blank not_older is_fresh
blank_not_older = every-replicate not_older cell_count never tt

stored_not_older : (row : ℕ) (bytes : List ℕ) (cells : Cells) → T (every not_older cells.marks) → T (every not_older (stored row bytes cells).marks)
unfolding stored row_found
stored_not_older row bytes cells t =
    every-laid kept_mark (λ f. true) not_older kept_not_older (row_place row) (row_found row bytes) cells.marks cells.characters
    (every_mapped (λ f. true) character (λ b. tt) (drop (first_column row) bytes)) t

opened_not_older : (receiver : Receiver) (header : Header) → T (clears header) → T (every not_older (opened receiver header).cells.marks)
unfolding opened
opened_not_older receiver header t =
    chosen (λ (cells : Cells). T (every not_older cells.marks)) (clears header) blank (aged receiver.cells)
    (λ c. blank_not_older) (λ c. absurd (T_not (clears header) c t))

module _ (receiver : Receiver) (packet lent : List ℕ) where
  -- after kind 2 with C4 set every mark is never or fresh
  pub cleared-none-older : (taken receiver packet lent).kind ≡ 2 → T (clears (taken receiver packet lent).receiver.header)
      → T (every not_older (taken receiver packet lent).receiver.cells.marks)
  unfolding header_taken row_stored opened
  cleared-none-older e t =
      let o = kind-2-opens receiver packet lent e in
      subst (λ (x : Outcome). T (every not_older x.receiver.cells.marks)) (sym o.gives)
      (header-not-older o.found (subst (λ (x : Outcome). T (clears x.receiver.header)) o.gives t))
    where
      header-not-older : (found : Header) → T (clears (header_taken receiver found (text_of packet).bytes lent).receiver.header)
          → T (every not_older (header_taken receiver found (text_of packet).bytes lent).receiver.cells.marks)
      header-not-older found c =
          stored_not_older 0 (text_of packet).bytes (opened (closed receiver) found).cells (opened_not_older (closed receiver) found c)

-- cell by cell
pub none_older_at : (marks : List ℕ) → T (every not_older marks) → (k : ℕ) → get_or marks k 0 ≡ older → ⊥
unfolding every not_older is_fresh
none_older_at [] t k e = omega arith
none_older_at (m ∷ marks) t zero e = subst (λ (n : ℕ). T (eqb n never || is_fresh n)) e (both_left (not_older m) (every not_older marks) t)
none_older_at (m ∷ marks) t (suc k) e = none_older_at marks (both_right (not_older m) (every not_older marks) t) k e

-- ---- none fresh right after an opening, before its text

unfoldable pub not_fresh : ℕ → Bool
unfolding is_fresh
not_fresh mark = not (is_fresh mark)

aged_not_fresh : (m : ℕ) → T (not_fresh (age m))
unfolding age not_fresh is_fresh
aged_not_fresh m = chosen (λ (n : ℕ). T (not_fresh n)) (is_fresh m) older m (λ t. tt) (λ t. t)

pub aged_none_fresh : (cells : Cells) → T (every not_fresh (aged cells).marks)
unfolding aged
aged_none_fresh cells = every_mapped not_fresh age aged_not_fresh cells.marks

pub blank_none_fresh : T (every not_fresh blank.marks)
unfolding blank not_fresh is_fresh
blank_none_fresh = every-replicate not_fresh cell_count never tt

pub opened_none_fresh : (receiver : Receiver) (header : Header) → T (every not_fresh (opened receiver header).cells.marks)
unfolding opened
opened_none_fresh receiver header =
    chosen (λ (cells : Cells). T (every not_fresh cells.marks)) (clears header) blank (aged receiver.cells)
    (λ c. blank_none_fresh) (λ c. aged_none_fresh receiver.cells)

-- cell by cell
pub none_fresh_at : (marks : List ℕ) → T (every not_fresh marks) → (k : ℕ) → get_or marks k 0 ≡ fresh → ⊥
unfolding every not_fresh is_fresh
none_fresh_at [] t k e = omega arith
none_fresh_at (m ∷ marks) t zero e =
    T_not (eqb m fresh) (both_left (not_fresh m) (every not_fresh marks) t) (subst (λ (n : ℕ). T (eqb n fresh)) (sym e) (eqb_refl fresh))
none_fresh_at (m ∷ marks) t (suc k) e = none_fresh_at marks (both_right (not_fresh m) (every not_fresh marks) t) k e

-- ---- row 0's columns 0 to 7

module _ (receiver : Receiver) (is : T (lawful receiver)) (k : ℕ) (early : k < header_column) (inside : k < length receiver.cells.marks) where
  header-marks-never : get_or receiver.cells.marks k 0 ≡ never
  unfolding cells_lawful is_never
  header-marks-never =
      let pairs = every_pair cell_lawful receiver.cells.marks receiver.cells.characters in
      let head = every is_never (take header_column receiver.cells.marks) in
      sym (get_or-take header_column receiver.cells.marks k 0 early)
      ∙ eqb→eq (get_or (take header_column receiver.cells.marks) k 0) 0
      (every_at is_never (take header_column receiver.cells.marks) (both_right pairs head (parts receiver is).sound.1) k 0
      (simp length-take (omega arith)))

  header-columns-space : get_or receiver.cells.characters k 0 ≡ space
  unfolding cells_lawful cell_lawful
  header-columns-space =
      let pairs = every_pair cell_lawful receiver.cells.marks receiver.cells.characters in
      let head = every is_never (take header_column receiver.cells.marks) in
      let mark = get_or receiver.cells.marks k 0 in
      let code = get_or receiver.cells.characters k 0 in
      eqb→eq code space
      (where_asked (eqb mark never) (eqb code space)
      (both_right (leb mark highest_mark) (not (eqb mark never) || eqb code space)
      (every_pair_at cell_lawful receiver.cells.marks receiver.cells.characters (both_left pairs head (parts receiver is).sound.1) k 0 0 inside))
      (subst (λ (n : ℕ). T (eqb n never)) (sym header-marks-never) (eqb_refl never)))

  pub header-columns-never : (get_or receiver.cells.marks k 0 ≡ never) × (get_or receiver.cells.characters k 0 ≡ space)
  header-columns-never = (header-marks-never, header-columns-space)

-- and so after every line
pub header_columns_stay : (receiver : Receiver) → T (lawful receiver) → (packet lent : List ℕ) (k : ℕ) → k < header_column
    → k < length (taken receiver packet lent).receiver.cells.marks
    → (get_or (taken receiver packet lent).receiver.cells.marks k 0 ≡ never)
    × (get_or (taken receiver packet lent).receiver.cells.characters k 0 ≡ space)
header_columns_stay receiver is packet lent k early inside =
    header-columns-never (taken receiver packet lent).receiver (taken-lawful receiver is lent packet) k early inside

-- ---- no mark of lawful cells is above the highest

pub low_marks : (receiver : Receiver) → T (lawful receiver) → LowMarks receiver.cells.marks
unfolding cells_lawful cell_lawful
low_marks receiver is k inside =
    let pairs = every_pair cell_lawful receiver.cells.marks receiver.cells.characters in
    let head = every is_never (take header_column receiver.cells.marks) in
    let mark = get_or receiver.cells.marks k 0 in
    let code = get_or receiver.cells.characters k 0 in
    leb→le mark highest_mark
    (both_left (leb mark highest_mark) (not (eqb mark never) || eqb code space)
    (every_pair_at cell_lawful receiver.cells.marks receiver.cells.characters (both_left pairs head (parts receiver is).sound.1) k 0 0 inside))
