-- Statement A: a page that closes clean is the one that was sent. And statement B, which follows: two equal records come from the same page.
use mathlib.Core.Path.{◌≡◌, refl, sym, ap, subst, ◌∙◌}
use mathlib.Core.Bool.{true, false, not}
use mathlib.Core.List.{List, ◌++◌}
use mathlib.Core.Option.{Option, none, some}
use Prim.Native.Nat.{ℕ, ◌+◌, ◌-◌, ◌*◌, ◌≤◌, ◌<◌}
use native.Mathlib.Decide.{dec_lt}
use native.Mathlib.Omega.{arith}
use lib.Dec.{T, not_T, eqb→eq}
use lib.ListN.{length, get_or, take, drop, replicate, get_or-replicate, length-drop, length-take, length-replicate}
use lib.Seq.{ext_get_or, get_or-drop, get_or-take, take_at}
use Rattle.std.specs.Prelude as std
use Rattle.std.specs.Prelude.{Ok, None, Some}
use Rattle.laws.specs.Every.{every}
use Rattle.laws.proofs.Keeps.{every-from}
use Rattle.laws.proofs.Lists.{get_d_part, length_part}
use Rattle.packet.specs.Sent.{damage, sent_by_rules, sent_text}
use Rattle.grid.specs.Grid.{columns, last_row, cell_count}
use Rattle.packet.specs.Texts.{header_column}
use Rattle.page.specs.Lawful.{fresh, is_fresh, never}
use Rattle.page.specs.Reading.{page_read, read_answer}
use Rattle.page.specs.Records.{record_length, record_of}
use Rattle.page.specs.declared.Cells.{Cells}
use Rattle.page.specs.declared.Page.{Page}
use Rattle.page.proofs.Trips.{length_record, page-read-back, reads-written}
use Rattle.receiver.specs.Entries.{Entered, closing_number, entered, lawful}
use Rattle.receiver.specs.Effects.{Outcome, held}
use Rattle.receiver.specs.declared.Closing.{Closing}
use Rattle.receiver.specs.declared.Closing.TheVariants as closing
use Rattle.receiver.specs.declared.Receiver.{Receiver}
use Rattle.receiver.specs.declared.Selection.{Selection}
use Rattle.receiver.proofs.Carried.{Going}
use Rattle.receiver.proofs.Closings.{Clean, clean-closing}
use Rattle.receiver.proofs.Marks.{header-columns-never}
use Rattle.receiver.proofs.Sized.{Sized}
use Rattle.receiver.proofs.Writes.{page-written}
use Rattle.demands.specs.Demands.{A, B, Follows, Holds, Ready, Received, RowHolds, record_after, throughout}
use Rattle.demands.specs.Runs.{Run, closing_of, entry_at, last_text, received_at, row_part, sent_at}
use Rattle.demands.proofs.Keeping.{Opening, RowIs, header_ends, is_end, row_is}
use Rattle.demands.proofs.Through.{Stands, closing_entered, entry-is, held_at, lent_entered, lent_at, line_at_law, mended_at, outcome_at, packet_at, receiver_at, standing}
use Rattle.demands.proofs.Told.{length_sent, whole_sent}

-- ---- a row of the page, from its cells

-- a row of some cells is a list of forty, from a column on
module _ (row : ℕ) (high : row ≤ last_row) (xs : List ℕ) (full : length xs ≡ cell_count) where
  length-row : length (row_part row xs) ≡ columns
  unfolding row_part
  length-row = length_part xs (row * columns) columns (omega arith)

  row-cell : (c : ℕ) → c < columns → get_or (row_part row xs) c 0 ≡ get_or xs (row * columns + c) 0
  unfolding row_part
  row-cell c h = get_d_part xs (row * columns) columns c 0 h

  pub row-is-list : (from : ℕ) (ys : List ℕ) → length ys ≡ columns → ((c : ℕ) → from ≤ c → c < columns → get_or xs (row * columns + c) 0 ≡ get_or ys c 0)
      → drop from (row_part row xs) ≡ drop from ys
  row-is-list from ys whole each =
      ext_get_or 0 (drop from (row_part row xs)) (drop from ys)
      (length-drop from (row_part row xs) ∙ (ap (λ (n : ℕ). n - from) (length-row ∙ sym whole) ∙ sym (length-drop from ys)))
      (λ k h.
      let below : from + k < columns = omega (arith, length-drop from (row_part row xs), length-row) in
      get_or-drop from (row_part row xs) k 0
      ∙ (row-cell (from + k) below ∙ (each (from + k) (omega arith) below ∙ sym (get_or-drop from ys k 0))))

fresh_is : (mark : ℕ) → T (is_fresh mark) → mark ≡ fresh
unfolding is_fresh
fresh_is mark t = eqb→eq mark fresh t

row_holds : (cells : Cells) → Sized cells → (row : ℕ) → row ≤ last_row → (text : Option (List ℕ)) → RowIs cells row text → RowHolds cells row text
row_holds cells full row high (some text) is = (
  row-is-list row high cells.characters full.0 0 text is.0 (λ c low h. (is.1 c h).0),
  row-is-list row high cells.marks full.1 0 (replicate columns fresh) (length-replicate columns fresh)
      (λ c low h. (is.1 c h).1 ∙ sym (get_or-replicate columns c fresh 0 h)),
)
row_holds cells full row high none is =
    every-from (λ (mark : ℕ). not (is_fresh mark)) 0 (row_part row cells.marks)
    (λ k h.
    let below : k < columns = omega (arith, length-row row high cells.marks full.1) in
    not_T (is_fresh (get_or (row_part row cells.marks) k 0))
    (λ t. is k below (sym (row-cell row high cells.marks full.1 k below) ∙ fresh_is (get_or (row_part row cells.marks) k 0) t)))

-- row 0's columns 0 to 7
pub header_columns : (receiver : Receiver) → T (lawful receiver) → Sized receiver.cells → take header_column (row_part 0 receiver.cells.marks) ≡ replicate header_column never
header_columns receiver is full =
    ext_get_or 0 (take header_column (row_part 0 receiver.cells.marks)) (replicate header_column never)
    (length-take header_column (row_part 0 receiver.cells.marks) ∙ omega (arith, length-row 0 (omega arith) receiver.cells.marks full.1))
    (λ k h.
    let early : k < header_column = omega (arith, length-take header_column (row_part 0 receiver.cells.marks)) in
    get_or-take header_column (row_part 0 receiver.cells.marks) k 0 early
    ∙ (row-cell 0 (omega arith) receiver.cells.marks full.1 k (omega arith)
    ∙ (ap (λ (n : ℕ). get_or receiver.cells.marks n 0) (omega arith)
    ∙ ((header-columns-never receiver is k early (omega (arith, full.1))).0 ∙ sym (get_or-replicate header_column k never 0 early)))))

-- ---- the page that is held

module _ (run : Run) (j : ℕ) (receiver : Receiver) (lent : List ℕ) (stands : Stands run receiver lent)
    (sure : receiver.doubt ≡ false) (i : ℕ) (opening : Opening run j receiver i) (whole : length (sent_text (sent_at run.lines i)) ≡ columns) where
  held-holds : Holds run i j (held receiver)
  unfolding held
  held-holds =
      record {
        magazine = ap (λ (x : Selection). x.magazine) stands.selects ∙ sym (row_is run.selection.magazine 0 (sent_at run.lines i) opening.header).0;
        header = opening.numbers;
        clean = ap not sure;
        header_text =
            row-is-list 0 (omega arith) receiver.cells.characters stands.sized.0 header_column (sent_text (sent_at run.lines i)) whole
            (λ c low h. (opening.text c low h).0);
        header_fresh =
            row-is-list 0 (omega arith) receiver.cells.marks stands.sized.1 header_column (replicate columns fresh) (length-replicate columns fresh)
            (λ c low h. (opening.text c low h).1 ∙ sym (get_or-replicate columns c fresh 0 h));
        header_never = header_columns receiver stands.is stands.sized;
        rows =
            λ row low high.
            row_holds receiver.cells stands.sized row high (last_text run.selection.magazine row run.lines i j) (opening.rows row low high);
      }

-- ---- exactly one

-- the line that a row 0 follows is the only one
pub one_header : (run : Run) (i k j : ℕ) → Follows run i j → Follows run k j → k ≡ i
one_header run i k j p q = by (dec_lt i k) (dec_lt k i)
  where
    by : Dec (i < k) → Dec (k < i) → k ≡ i
    by (yes less) d = absurd (p.none_between k less q.before (header_ends run.selection.magazine (sent_at run.lines k) q.header))
    by (no a) (yes less) = absurd (q.none_between i less p.before (header_ends run.selection.magazine (sent_at run.lines i) p.header))
    by (no a) (no b) = omega arith

-- ---- the clean word

clean_is : (word : std.Option Closing) → closing_number word ≡ closing_number (Some closing.Clean) → word ≡ Some closing.Clean
unfolding closing_number
clean_is std.None e = absurd (omega arith)
clean_is (std.Some closing.Clean) e = refl
clean_is (std.Some closing.Doubt) e = absurd (omega arith)

-- ---- the record

-- of a lawful receiver with a page open reads back
pub held_reads : (receiver : Receiver) → T (lawful receiver) → Sized receiver.cells → receiver.«open» ≡ true
    → (read_answer (record_of (held receiver)) ≡ Ok tt) × (page_read (record_of (held receiver)) ≡ held receiver)
unfolding held
held_reads receiver is full going = let answer = page-written receiver is (rw going tt) in
    (reads-written (held receiver) full answer, page-read-back (held receiver) full answer)

-- and lies at the start of what was lent
pub record_first : (receiver : Receiver) (lent after : List ℕ) → after ≡ record_of (held receiver) ++ drop record_length lent
    → take record_length after ≡ record_of (held receiver)
record_first receiver lent after wrote =
    ap (take record_length) wrote ∙ take_at (record_of (held receiver)) (drop record_length lent) record_length (length_record (held receiver))

-- ---- a line that closes clean

module _ (run : Run) (ready : Ready run) (j d : ℕ) (mild : d ≤ throughout) (sent : T (sent_by_rules (sent_at run.lines j)))
    (damaged : T (damage d (sent_at run.lines j) (received_at run.lines j))) (word : closing_of (entry_at run j) ≡ closing_number (Some closing.Clean)) where
  abbrev receiver : Receiver
  receiver = receiver_at run ready j

  abbrev lent : List ℕ
  lent = lent_at run ready j

  abbrev outcome : Outcome
  outcome = outcome_at run ready j

  stands : Stands run receiver lent
  stands = standing run ready j

  abbrev mended : ℕ
  mended = mended_at run ready j

  entry : entry_at run j ≡ entered outcome mended
  entry = entry-is run ready d j sent damaged

  closed-clean : Clean receiver (packet_at run ready j) lent outcome
  closed-clean =
      clean-closing receiver (packet_at run ready j) lent
      (clean_is outcome.closing
      (sym (closing_entered outcome mended) ∙ (ap closing_of (sym entry) ∙ word)))

  pub was-going : Going receiver
  was-going = (closed-clean.was_open, closed-clean.undoubted)

  record_is : record_after run j ≡ record_of (held receiver)
  record_is =
      record_first receiver lent (entry_at run j).lent (ap (λ (e : Entered). e.lent) entry ∙ (lent_entered outcome mended ∙ closed-clean.wrote))

  reads_held : (read_answer (record_of (held receiver)) ≡ Ok tt) × (page_read (record_of (held receiver)) ≡ held receiver)
  reads_held = held_reads receiver stands.is stands.sized closed-clean.was_open

  module _ (i : ℕ) (opening : Opening run j receiver i) where
    pub follows-here : Follows run i j
    follows-here =
        let (ours, zeroth) = whole_sent d mild (sent_at run.lines j) (received_at run.lines j) sent damaged
        receiver.selection.magazine 0 closed-clean.ours in
        record {
          header = opening.header;
          next = is_end run.selection.magazine (sent_at run.lines j) (ours ∙ ap (λ (x : Selection). x.magazine) stands.selects) zeroth;
          before = opening.before;
          none_between = opening.none_between;
        }

    pub received-here : T (sent_by_rules (sent_at run.lines i)) → Received run j i
    received-here by_rules =
        record {
          follows = follows-here;
          matched = opening.matched;
          kind = opening.kind;
          reads = ap read_answer record_is ∙ reads_held.0;
          holds =
              subst (Holds run i j) (sym (ap page_read record_is ∙ reads_held.1))
              (held-holds run j receiver lent stands closed-clean.undoubted i opening (length_sent (sent_at run.lines i) by_rules));
        }

-- ---- A

pub proof_a : A
proof_a run fed j closes =
    let (sent, damaged) = line_at_law run fed j closes.line in
    let going = was-going run fed.ready j throughout (omega arith) sent damaged closes.word in
    let (i, opening) = held_at run fed j (omega (arith, closes.line)) going in
    let it : Received run j i =
    received-here run fed.ready j throughout (omega arith) sent damaged closes.word i opening
    (line_at_law run fed i (omega (arith, opening.before, closes.line))).0 in
    (i, it, (λ k other. one_header run i k j it.follows other.follows))

-- ---- B

all_fresh_not : T (every (λ (mark : ℕ). not (is_fresh mark)) (replicate columns fresh)) → ⊥
unfolding every is_fresh
all_fresh_not t = t

-- one row of one page was sent with one text, or not at all
same_row : (cells : Cells) (row : ℕ) (a b : Option (List ℕ)) → RowHolds cells row a → RowHolds cells row b → a ≡ b
same_row cells row (some a) (some b) p q = ap {B = Option (List ℕ)} some (sym p.0 ∙ q.0)
same_row cells row (some a) none p q = absurd (all_fresh_not (rw p.1 at q))
same_row cells row none (some b) p q = absurd (all_fresh_not (rw q.1 at p))
same_row cells row none none p q = refl

pub proof_b : B
proof_b run other fed fed' i j k l closes closes' follows follows' same =
    let a = proof_a run fed j closes in
    let b = proof_a other fed' l closes' in
    let page : Page = page_read (record_after run j) in
    let p : Holds run i j page =
    subst (λ (n : ℕ). Holds run n j page) (one_header run i a.0 j follows a.1.follows) a.1.holds in
    let q : Holds other k l page =
    subst (λ (n : ℕ). Holds other n l page) (one_header other k b.0 l follows' b.1.follows)
    (subst (Holds other b.0 l) (ap page_read (sym same)) b.1.holds) in
    record {
      magazine = sym p.magazine ∙ q.magazine;
      header = sym p.header ∙ q.header;
      header_text = sym p.header_text ∙ q.header_text;
      rows = λ row low high. same_row page.cells row _ _ (p.rows row low high) (q.rows row low high);
    }
