-- What an open page without doubt holds between two lines of a run: the header that opened it, and of each row what was sent since.
use mathlib.Core.Path.{◌≡◌, refl, sym, ap, subst, ◌∙◌}
use mathlib.Core.Logic.{◌⊎◌, inl, inr, ⊎_elim}
use mathlib.Core.Bool.{Bool, true, false, ◌&&◌}
use mathlib.Core.List.{List}
use mathlib.Core.Option.{Option, none, some}
use Prim.Native.Nat.{ℕ, zero, suc, ◌≤◌, ◌<◌}
use native.Mathlib.Decide.{ℕ_discrete}
use native.Mathlib.Omega.{arith}
use borrow.Author.Tests.{eq-eqb, lt-ltb, le-ltb}
use lib.Dec.{T, eqb, ltb, eqb→eq}
use lib.ListN.{length, get_or}
use Rattle.laws.proofs.Bools.{passed, both_left, both_right}
use Rattle.packet.specs.Sent.{damage, line_packet, sent_by_rules, sent_header, sent_magazine, sent_row, sent_text}
use Rattle.grid.specs.Grid.{columns, last_row}
use Rattle.packet.specs.Texts.{header_column, text_of}
use Rattle.packet.proofs.Sent.{received-packet}
use Rattle.page.specs.declared.Cells.{Cells}
use Rattle.page.specs.Lawful.{fresh}
use Rattle.receiver.specs.Cells.{first_column}
use Rattle.receiver.specs.Effects.{Outcome, taken, unclosed}
use Rattle.receiver.specs.Selections.{matches}
use Rattle.receiver.specs.declared.Receiver.{Receiver}
use Rattle.receiver.specs.declared.Selection.{Selection}
use Rattle.receiver.proofs.Carried.{Going, Passed, WholeRow, going_on}
use Rattle.receiver.proofs.Outcomes.{Opens, kind-2-opens}
use Rattle.receiver.proofs.Rows.{Stays, character_at, header_first, mark_at, text_first}
use Rattle.receiver.proofs.Sized.{Sized}
use Rattle.receiver.proofs.Changes.{Shown, opening-header, opening-none-fresh, opening-text, storing-header, storing-others, storing-text}
use Rattle.demands.specs.Demands.{throughout}
use Rattle.demands.specs.Runs.{Line, Run, ends_page, entry_at, is_row, kind_of, last_text, received_at, sent_at}
use Rattle.demands.proofs.Told.{anothers-row, column-sent, header-sent, length_sent, whole_sent}

-- ---- rows as they were sent

pub is_row_law : (magazine row : ℕ) (s : List ℕ) → sent_magazine s ≡ magazine → sent_row s ≡ row → T (is_row magazine row s)
unfolding is_row
is_row_law magazine row s m e = rw (eq-eqb (sent_magazine s) magazine m, eq-eqb (sent_row s) row e) tt

pub row_is : (magazine row : ℕ) (s : List ℕ) → T (is_row magazine row s) → (sent_magazine s ≡ magazine) × (sent_row s ≡ row)
unfolding is_row
row_is magazine row s t = (
  eqb→eq (sent_magazine s) magazine (both_left (eqb (sent_magazine s) magazine) (eqb (sent_row s) row) t),
  eqb→eq (sent_row s) row (both_right (eqb (sent_magazine s) magazine) (eqb (sent_row s) row) t),
)

-- the header that ends a page is our row 0
pub ends_is : (magazine : ℕ) (s : List ℕ) → T (ends_page magazine s) → (sent_magazine s ≡ magazine) × (sent_row s ≡ 0)
unfolding ends_page
ends_is magazine s t = row_is magazine 0 s t

pub is_end : (magazine : ℕ) (s : List ℕ) → sent_magazine s ≡ magazine → sent_row s ≡ 0 → T (ends_page magazine s)
unfolding ends_page
is_end magazine s m e = is_row_law magazine 0 s m e

pub header_ends : (magazine : ℕ) (s : List ℕ) → T (is_row magazine 0 s) → T (ends_page magazine s)
header_ends magazine s t = let (ours, zeroth) = row_is magazine 0 s t in is_end magazine s ours zeroth

second_fails : (a b : Bool) → (T b → ⊥) → (a && b) ≡ false
second_fails true true h = absurd (h tt)
second_fails true false h = refl
second_fails false b h = refl

module _ (magazine row : ℕ) (lines : List Line) (i : ℕ) where
  -- a line that is not of the row leaves its last text
  text-stays : (k : ℕ) → (T (is_row magazine row (sent_at lines k)) → ⊥) → last_text magazine row lines i (suc k) ≡ last_text magazine row lines i k
  unfolding last_text
  text-stays k h = rw (second_fails (ltb i k) (is_row magazine row (sent_at lines k)) h)

  -- and one that is gives it
  text-given : (k : ℕ) → i < k → T (is_row magazine row (sent_at lines k)) → last_text magazine row lines i (suc k) ≡ some (sent_text (sent_at lines k))
  unfolding last_text
  text-given k h t = rw (lt-ltb i k h, passed (is_row magazine row (sent_at lines k)) t)

  -- right after line i there is none yet
  none_yet : (j : ℕ) → j ≤ suc i → last_text magazine row lines i j ≡ none
  unfolding last_text
  none_yet zero h = refl
  none_yet (suc k) h = rw (le-ltb i k (omega arith)) (none_yet k (omega arith))

-- ---- what is held

-- a cell holds a character, fresh
abbrev pub CellIs : Cells → ℕ → ℕ → ℕ → Type 0
CellIs cells row column v = (character_at cells row column ≡ v) × (mark_at cells row column ≡ fresh)

abbrev pub RowIs : Cells → ℕ → Option (List ℕ) → Type 0
RowIs cells row (some text) = (length text ≡ columns) × ((c : ℕ) → c < columns → CellIs cells row c (get_or text c 0))
RowIs cells row none = (c : ℕ) → c < columns → mark_at cells row c ≡ fresh → ⊥

-- line i opened the page that is open before line k
pub record Opening (run : Run) (k : ℕ) (receiver : Receiver) (i : ℕ) : Type 0 where
  pub header : T (is_row run.selection.magazine 0 (sent_at run.lines i))
  pub matched : T (matches run.selection (sent_header (sent_at run.lines i)))
  pub kind : kind_of (entry_at run i) ≡ 2
  pub before : i < k
  pub none_between : (n : ℕ) → i < n → n < k → T (ends_page run.selection.magazine (sent_at run.lines n)) → ⊥
  pub numbers : receiver.header ≡ sent_header (sent_at run.lines i)
  pub text : (c : ℕ) → header_column ≤ c → c < columns → CellIs receiver.cells 0 c (get_or (sent_text (sent_at run.lines i)) c 0)
  pub rows : (row : ℕ) → 1 ≤ row → row ≤ last_row → RowIs receiver.cells row (last_text run.selection.magazine row run.lines i k)

abbrev pub Held : Run → ℕ → Receiver → Type 0
Held run k receiver = Going receiver → (i : ℕ) × Opening run k receiver i

-- ---- a row that stays

cell_stays : (before after : Cells) (row c v : ℕ) → Stays before after row c → CellIs before row c v → CellIs after row c v
cell_stays before after row c v stays was = (stays.0 ∙ was.0, stays.1 ∙ was.1)

row_stays : (before after : Cells) (row : ℕ) → ((c : ℕ) → c < columns → Stays before after row c) → (text : Option (List ℕ))
    → RowIs before row text → RowIs after row text
row_stays before after row stays (some text) was = (was.0, λ c h. cell_stays before after row c (get_or text c 0) (stays c h) (was.1 c h))
row_stays before after row stays none was = λ c h e. was c h (sym (stays c h).1 ∙ e)

one_further : (i k : ℕ) (P : ℕ → Type 0) → ((n : ℕ) → i < n → n < k → P n) → P k → (n : ℕ) → i < n → n < suc k → Dec (n ≡ k) → P n
one_further i k P below here n low h (yes e) = subst P (sym e) here
one_further i k P below here n low h (no d) = below n low (omega arith)

-- ---- one line more

module _ (run : Run) (k : ℕ) (receiver : Receiver) (lent : List ℕ) (selects : receiver.selection ≡ run.selection) (sized : Sized receiver.cells)
    (d : ℕ) (mild : d ≤ throughout) (sent : T (sent_by_rules (sent_at run.lines k)))
    (damaged : T (damage d (sent_at run.lines k) (received_at run.lines k))) where
  abbrev m : ℕ
  m = run.selection.magazine

  abbrev s : List ℕ
  s = sent_at run.lines k

  abbrev r : List ℕ
  r = received_at run.lines k

  abbrev packet : List ℕ
  packet = line_packet r

  abbrev outcome : Outcome
  outcome = taken receiver packet lent

  same-magazine : receiver.selection.magazine ≡ m
  same-magazine = ap (λ (x : Selection). x.magazine) selects

  -- a byte's character in its cell is the one that was sent
  shown-sent : (high : sent_row s ≤ last_row) (cells : Cells) (row c : ℕ) → first_column (sent_row s) ≤ c → c < columns
      → Shown (text_of packet).bytes cells row c → CellIs cells row c (get_or (sent_text s) c 0)
  shown-sent high cells row c low below shown = (column-sent d s r sent damaged high c low below (character_at cells row c) shown.0, shown.1)

  -- ---- the line opens a page

  pub opened-here : kind_of (entry_at run k) ≡ 2 → Opens receiver packet lent outcome → Going outcome.receiver
      → Opening run (suc k) outcome.receiver k
  opened-here kind opens going =
      let (magazine-is, zeroth) = whole_sent d mild s r sent damaged receiver.selection.magazine 0 opens.ours in
      let numbers : opens.found ≡ sent_header s = header-sent d mild s r sent damaged zeroth opens.found opens.read in
      record {
        header = is_row_law m 0 s (magazine-is ∙ same-magazine) zeroth;
        matched = rw (sym selects, sym numbers, opens.matched) tt;
        kind = kind;
        before = omega arith;
        none_between = λ n low h. absurd (omega arith);
        numbers = opening-header receiver packet lent outcome opens ∙ numbers;
        text =
            λ c low h.
            shown-sent (omega arith) outcome.receiver.cells 0 c (omega (arith, ap first_column zeroth, header_first)) h
            (opening-text receiver packet lent outcome opens sized going.1 c low h);
        rows =
            λ row low high.
            subst (RowIs outcome.receiver.cells row) (sym (none_yet m row run.lines k (suc k) (omega arith)))
            (λ c h. opening-none-fresh receiver packet lent outcome opens row c low h);
      }

  -- ---- the line goes by, or is stored

  module _ (i : ℕ) (was : Opening run k receiver i) where
    abbrev After : Receiver → Type 0
    After later = Opening run (suc k) later i

    -- all but the cells
    further : (later : Receiver) → later.header ≡ receiver.header → (T (ends_page m s) → ⊥)
        → ((c : ℕ) → header_column ≤ c → c < columns → CellIs later.cells 0 c (get_or (sent_text (sent_at run.lines i)) c 0))
        → ((row : ℕ) → 1 ≤ row → row ≤ last_row → RowIs later.cells row (last_text m row run.lines i (suc k)))
        → After later
    further later same not-header text rows =
        record {
          header = was.header;
          matched = was.matched;
          kind = was.kind;
          before = omega (arith, was.before);
          none_between =
              λ n low h.
              one_further i k (λ (x : ℕ). T (ends_page m (sent_at run.lines x)) → ⊥) was.none_between not-header n low h (ℕ_discrete n k);
          numbers = same ∙ was.numbers;
          text = text;
          rows = rows;
        }

    gone-by : Passed receiver packet lent outcome → After receiver
    gone-by by =
        let none : (row : ℕ) → row ≤ last_row → sent_magazine s ≡ m → sent_row s ≡ row → ⊥ =
        λ row high our e. anothers-row d mild s r sent damaged receiver.selection.magazine by.anothers (our ∙ sym same-magazine) (omega (arith, e)) in
        further receiver refl (λ t. none 0 (omega arith) (ends_is m s t).0 (ends_is m s t).1) was.text
        (λ row low high.
        subst (RowIs receiver.cells row) (sym (text-stays m row run.lines i k (λ t. none row high (row_is m row s t).0 (row_is m row s t).1)))
        (was.rows row low high))

    module _ (whole : WholeRow receiver packet lent outcome) where
      abbrev row-stored : ℕ
      row-stored = whole.stores.row

      sent-row : (sent_magazine s ≡ receiver.selection.magazine) × (sent_row s ≡ row-stored)
      sent-row = whole_sent d mild s r sent damaged receiver.selection.magazine row-stored whole.stores.ours.from

      others-stay : (row : ℕ) → (row ≡ row-stored → ⊥) → (c : ℕ) → c < columns → Stays receiver.cells outcome.receiver.cells row c
      others-stay row differs c h = storing-others receiver packet lent outcome whole.stores row c differs h

      stored_row : (row : ℕ) → 1 ≤ row → row ≤ last_row → Dec (row ≡ row-stored)
          → RowIs outcome.receiver.cells row (last_text m row run.lines i (suc k))
      stored_row row low high (yes e) =
          subst (RowIs outcome.receiver.cells row)
          (sym (text-given m row run.lines i k was.before (is_row_law m row s (sent-row.0 ∙ same-magazine) (sent-row.1 ∙ sym e)))) (
            length_sent s sent,
            (λ c h.
                shown-sent (omega (arith, sent-row.1)) outcome.receiver.cells row c
                (omega (arith, text_first (sent_row s) (omega (arith, sent-row.1)))) h
                (subst (λ (n : ℕ). Shown (text_of packet).bytes outcome.receiver.cells n c) (sym e)
                (storing-text receiver packet lent outcome whole.stores sized whole.none_missing c h))),
          )
      stored_row row low high (no differs) =
          subst (RowIs outcome.receiver.cells row)
          (sym (text-stays m row run.lines i k (λ t. differs (sym (row_is m row s t).1 ∙ sent-row.1))))
          (row_stays receiver.cells outcome.receiver.cells row (others-stay row differs) (last_text m row run.lines i k) (was.rows row low high))

      stored_here : After outcome.receiver
      stored_here =
          further outcome.receiver (storing-header receiver packet lent outcome whole.stores)
          (λ t. omega (arith, (ends_is m s t).1, sent-row.1, whole.stores.ours.first))
          (λ c low h.
          cell_stays receiver.cells outcome.receiver.cells 0 c _
          (others-stay 0 (λ e. omega (arith, whole.stores.ours.first)) c h) (was.text c low h))
          (λ row low high. stored_row row low high (ℕ_discrete row row-stored))

    pub went-by : Passed receiver packet lent outcome ⊎ WholeRow receiver packet lent outcome → After outcome.receiver
    unfolding unclosed
    went-by (inl by) = subst After (sym (ap (λ (o : Outcome). o.receiver) by.gives)) (gone-by by)
    went-by (inr whole) = stored_here whole

  -- ---- and so after any line

  pub held_after : Held run k receiver → kind_of (entry_at run k) ≡ outcome.kind → Held run (suc k) outcome.receiver
  held_after held kind going =
      ⊎_elim (λ e. (k, opened-here (kind ∙ e) (kind-2-opens receiver packet lent e) going))
      (λ on. let (i, was) = held on.0 in (i, went-by i was on.1))
      (going_on receiver packet lent (received-packet d s r damaged) going)
