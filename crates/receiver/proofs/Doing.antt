-- From what the code did to a receiver to the outcome that the definition gives.
use mathlib.Core.Path.{◌≡◌, sym, ap, ap₂, ◌∙◌, subst}
use mathlib.Core.Bool.{Bool, true, cond, ◌||◌}
use mathlib.Core.List.{List}
use Prim.Native.Nat.{ℕ, ◌-◌}
use lib.Dec.{T, ltb}
use lib.ListN.{length}
use Rattle.laws.proofs.Bools.{passed}
use Rattle.grid.specs.Grid.{columns}
use Rattle.packet.specs.declared.Header.{Header}
use Rattle.page.specs.declared.Cells.{Cells}
use Rattle.receiver.specs.Cells.{first_column, how_many, one_missing, row_found, stored}
use Rattle.receiver.specs.Effects.{Outcome, closed, doubted, just_closed, opened, opening_cells, row_stored, shut, unclosed, unsure_taken}
use Rattle.receiver.specs.Entries.{lawful}
use Rattle.receiver.specs.Kinds.{effect_due}
use Rattle.receiver.specs.Private.{Does, Ready, Storable}
use Rattle.receiver.specs.declared.Receiver.{Receiver}
use Rattle.receiver.specs.declared.effects.Done.{Done}
use Rattle.receiver.specs.declared.kinds.Effect.{Effect}
use Rattle.receiver.proofs.Causes.{Cause, another, caused, no_header, other-header, page-header, page-row, spoiled-header, unopened-row, unsure-line}
use Rattle.receiver.proofs.Laying.{missing_is}
use Rattle.receiver.proofs.Lawful.{doubted_lawful}
use Rattle.receiver.proofs.Resting.{closed_rests}
use Rattle.receiver.proofs.Rows.{length_found}

-- a lawful receiver, as the laws have it
pub ready_lawful : {receiver : Receiver} {lent : List ℕ} → Ready receiver lent → T (lawful receiver)
ready_lawful ready = rw ready.right tt

-- ---- a row

pub row_missing : (row : ℕ) (bytes : List ℕ) → length bytes ≡ columns → (count : ℕ) → count ≡ how_many (row_found row bytes) → (missing : Bool)
    → missing ≡ ltb count (columns - first_column row) → missing ≡ one_missing (row_found row bytes)
row_missing row bytes whole count counted missing e =
    e ∙ (ap₂ ltb counted (sym (length_found row bytes whole)) ∙ sym (missing_is (row_found row bytes)))

module _ (receiver : Receiver) (row : ℕ) (bytes : List ℕ) (missing : Bool) (cells : Cells) (m : missing ≡ one_missing (row_found row bytes)) where
  pub row-joined : cells ≡ stored row bytes receiver.cells
      → record {
        selection = receiver.selection;
        «open» = receiver.«open»;
        doubt = receiver.doubt || missing;
        header = receiver.header;
        cells = cells;
      } ≡ row_stored receiver row bytes
  unfolding row_stored
  row-joined e =
      λ i.
      record {
        selection = receiver.selection;
        «open» = receiver.«open»;
        doubt = receiver.doubt || m i;
        header = receiver.header;
        cells = e i;
      }

-- a page opened by its header, and the header's row stored
pub header_joined : (receiver : Receiver) → T (lawful receiver) → (header : Header) (bytes : List ℕ) (missing : Bool) (cells : Cells)
    → missing ≡ one_missing (row_found 0 bytes) → cells ≡ stored 0 bytes (opening_cells receiver.cells header)
    → record { selection = receiver.selection; «open» = true; doubt = missing; header = header; cells = cells }
    ≡ row_stored (opened (closed receiver) header) 0 bytes
unfolding shut opened
header_joined receiver is header bytes missing cells m e =
    row-joined (opened (shut receiver) header) 0 bytes missing cells m e
    ∙ ap (λ (r : Receiver). row_stored (opened r header) 0 bytes) (sym (closed_rests receiver is))

-- ---- doubt

-- where a page is open and the line could have been row 0
pub unsure_closes : (receiver : Receiver) (could : Bool) (lent : List ℕ) → receiver.«open» ≡ true → could ≡ true → {done : Done} {after : Receiver} {left : List ℕ}
    → Does (just_closed (doubted receiver) 4 lent) done after left → Does (unsure_taken receiver could lent) done after left
unfolding unsure_taken
unsure_closes receiver could lent o c {done} {after} {left} d = subst (λ (outcome : Outcome). Does outcome done after left) (sym (ap₂ by_tests o c)) d
  where
    by_tests : Bool → Bool → Outcome
    by_tests is_open closes =
        cond is_open (cond closes (just_closed (doubted receiver) 4 lent) (unclosed (doubted receiver) 4 lent)) (unclosed receiver 4 lent)

-- an open page stays ready in doubt
pub ready_doubted : (receiver : Receiver) (lent : List ℕ) → Ready receiver lent → receiver.«open» ≡ true → Ready (doubted receiver) lent
unfolding doubted
ready_doubted receiver lent ready o =
    record {
      right = passed (lawful (doubted receiver)) (doubted_lawful receiver (ready_lawful ready) (rw o tt));
      room = ready.room;
    }

-- ---- a row that is due has its cells

storable_by : (receiver : Receiver) (packet : List ℕ) (e : Effect) → Cause receiver packet e → Storable e
storable_by receiver packet e (another p) = tt
storable_by receiver packet e (unopened-row row t o) = tt
storable_by receiver packet e (no_header a r) = tt
storable_by receiver packet e (page-row row t o) = t.last
storable_by receiver packet e (page-header found a r m) = tt
storable_by receiver packet e (other-header found a r m) = tt
storable_by receiver packet e (spoiled-header a r) = tt
storable_by receiver packet e (unsure-line could u) = tt

pub due_storable : (receiver : Receiver) (packet : List ℕ) → Storable (effect_due receiver packet)
due_storable receiver packet = storable_by receiver packet (effect_due receiver packet) (caused receiver packet)
