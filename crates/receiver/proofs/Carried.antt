-- What a line carries over: the selection always; the cells unless a row is stored or a page opened. And a page that is open and without doubt after a
-- line was opened by it, or was so before it and the line did no harm.
use mathlib.Core.Path.{◌≡◌, refl}
use mathlib.Core.Bool.{Bool, true, false}
use mathlib.Core.List.{List}
use mathlib.Core.Logic.{◌⊎◌, inl, inr}
use Prim.Native.Nat.{ℕ}
use native.Mathlib.Omega.{arith}
use lib.ListN.{length}
use Rattle.laws.proofs.Bools.{neither}
use Rattle.laws.proofs.Keeps.{chosen, failed}
use Rattle.packet.specs.Addresses.{address_of}
use Rattle.packet.specs.Lines.{packet_length}
use Rattle.packet.specs.Texts.{text_of}
use Rattle.receiver.specs.Cells.{one_missing, row_found}
use Rattle.receiver.specs.Effects.{Outcome, closed, doubted, effected, header_taken, just_closed, opened, row_stored, shut, taken, text_taken, unclosed}
use Rattle.receiver.specs.declared.Receiver.{Receiver}
use Rattle.receiver.specs.declared.kinds.Effect.{Effect}
use Rattle.receiver.specs.declared.kinds.Effect.TheVariants.{Nothing, Store, Open, Close, Doubt}
use Rattle.receiver.proofs.Causes.{Anothers, Cause, another, no_header, other-header, page-header, page-row, spoiled-header, unopened-row, unsure-line}
use Rattle.receiver.proofs.Closings.{header_not_short}
use Rattle.receiver.proofs.Lawful.{closed_selection}
use Rattle.receiver.proofs.Outcomes.{Stores, after, by-causes, by_doubt, by-effects}
use Rattle.receiver.proofs.Sized.{closed_cells}

-- after closing no page is open
pub closed_open : (receiver : Receiver) → (closed receiver).«open» ≡ false
unfolding closed shut
closed_open receiver =
    chosen (λ (r : Receiver). r.«open» ≡ false) receiver.«open» (shut receiver) receiver (λ o. refl) (failed receiver.«open»)

selection_by : (receiver : Receiver) (e : Effect) (bytes lent : List ℕ) → (effected receiver e bytes lent).receiver.selection ≡ receiver.selection
unfolding effected unclosed text_taken header_taken just_closed row_stored opened doubted
selection_by receiver Nothing bytes lent = refl
selection_by receiver (Store row) bytes lent = refl
selection_by receiver (Open header) bytes lent = closed_selection receiver
selection_by receiver (Close kind) bytes lent = closed_selection receiver
selection_by receiver (Doubt could) bytes lent =
    by_doubt receiver lent (λ (o : Outcome). o.receiver.selection ≡ receiver.selection) could
    (λ o t. closed_selection (doubted receiver))
    (λ o t. refl)
    (λ o. refl)

pub taken_selection : (receiver : Receiver) (packet lent : List ℕ) → (taken receiver packet lent).receiver.selection ≡ receiver.selection
taken_selection receiver packet lent =
    by-effects receiver packet lent (λ (o : Outcome). o.receiver.selection ≡ receiver.selection) (λ e. selection_by receiver e (text_of packet).bytes lent)

-- cells that are neither stored to nor opened
abbrev CellsStay : Receiver → Outcome → Type 0
CellsStay receiver outcome = (outcome.kind ≡ 1 → ⊥) → (outcome.kind ≡ 2 → ⊥) → outcome.receiver.cells ≡ receiver.cells

cells_by : (receiver : Receiver) (e : Effect) (bytes lent : List ℕ) → CellsStay receiver (effected receiver e bytes lent)
unfolding effected unclosed text_taken header_taken just_closed doubted
cells_by receiver Nothing bytes lent = λ n m. refl
cells_by receiver (Store row) bytes lent = λ n m. absurd (n refl)
cells_by receiver (Open header) bytes lent = λ n m. absurd (m refl)
cells_by receiver (Close kind) bytes lent = λ n m. closed_cells receiver
cells_by receiver (Doubt could) bytes lent =
    by_doubt receiver lent (CellsStay receiver) could
    (λ o t n m. closed_cells (doubted receiver))
    (λ o t n m. refl)
    (λ o n m. refl)

pub cells_stay : (receiver : Receiver) (packet lent : List ℕ) → CellsStay receiver (taken receiver packet lent)
cells_stay receiver packet lent = by-effects receiver packet lent (CellsStay receiver) (λ e. cells_by receiver e (text_of packet).bytes lent)

-- ---- open and without doubt

abbrev pub Going : Receiver → Type 0
Going receiver = (receiver.«open» ≡ true) × (receiver.doubt ≡ false)

-- a row of the open page, none of whose bytes is missing
pub record WholeRow (receiver : Receiver) (packet lent : List ℕ) (outcome : Outcome) : Type 0 where
  pub stores : Stores receiver packet lent outcome
  pub none_missing : one_missing (row_found stores.row (text_of packet).bytes) ≡ false

-- a line that is another's
pub record Passed (receiver : Receiver) (packet lent : List ℕ) (outcome : Outcome) : Type 0 where
  pub anothers : Anothers receiver.selection.magazine (address_of packet)
  pub gives : outcome ≡ unclosed receiver 0 lent

not_both : {b : Bool} → b ≡ true → b ≡ false → ⊥
not_both p q = let z : ◌≡◌ {A = ℕ} 0 1 = cc in omega arith

doubted_doubts : (receiver : Receiver) → (doubted receiver).doubt ≡ true
unfolding doubted
doubted_doubts receiver = refl

module _ (receiver : Receiver) (packet lent : List ℕ) (whole : length packet ≡ packet_length) where
  -- how a page that goes on after a line came to do so: it was opened by it; or it went on before, and the packet was another's or a whole row
  abbrev Goes : Outcome → Type 0
  Goes outcome =
      Going outcome.receiver
      → (outcome.kind ≡ 2) ⊎ (Going receiver × (Passed receiver packet lent outcome ⊎ WholeRow receiver packet lent outcome))

  goes_by : (e : Effect) → Cause receiver packet e → Goes (after receiver packet lent e)
  unfolding effected unclosed text_taken header_taken just_closed row_stored
  goes_by e (another p) = λ g. inr (g, inl (record { anothers = p; gives = refl }))
  goes_by e (unopened-row row t o) = λ g. absurd (not_both g.0 o)
  goes_by e (no_header a r) = λ g. absurd (header_not_short packet whole r)
  goes_by e (page-row row t o) = λ g.
      let d = neither receiver.doubt (one_missing (row_found row (text_of packet).bytes)) g.1 in
      inr ((g.0, d.0), inr (record { stores = record { row = row; ours = t; was_open = o; gives = refl }; none_missing = d.1 }))
  goes_by e (page-header found a r m) = λ g. inl refl
  goes_by e (other-header found a r m) = λ g. absurd (not_both g.0 (closed_open receiver))
  goes_by e (spoiled-header a r) = λ g. absurd (not_both g.0 (closed_open receiver))
  goes_by e (unsure-line could u) =
      by_doubt receiver lent Goes could
      (λ o t g. absurd (not_both g.0 (closed_open (doubted receiver))))
      (λ o t g. absurd (not_both (doubted_doubts receiver) g.1))
      (λ o g. absurd (not_both g.0 o))

  pub going_on : Goes (taken receiver packet lent)
  going_on = by-causes receiver packet lent Goes goes_by
