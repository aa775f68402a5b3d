-- The cells of a new receiver are the grid's, and every line keeps them so many.
use mathlib.Core.Path.{◌≡◌, refl, ◌∙◌}
use mathlib.Core.List.{List}
use Prim.Native.Nat.{ℕ}
use lib.ListN.{length, length-map, length-replicate}
use Rattle.laws.proofs.Keeps.{chosen}
use Rattle.packet.specs.Texts.{text_of}
use Rattle.packet.specs.declared.Header.{Header}
use Rattle.page.specs.Lawful.{never, space}
use Rattle.grid.specs.Grid.{cell_count}
use Rattle.page.specs.declared.Cells.{Cells}
use Rattle.receiver.specs.Cells.{age, aged, blank, kept_character, kept_mark, row_found, row_place, stored}
use Rattle.receiver.specs.Entries.{new_receiver}
use Rattle.receiver.specs.Effects.{Outcome, clears, closed, doubted, effected, header_taken, just_closed, opened, row_stored, shut, taken, text_taken, unclosed}
use Rattle.receiver.specs.declared.Receiver.{Receiver}
use Rattle.receiver.specs.declared.Selection.{Selection}
use Rattle.receiver.specs.declared.kinds.Effect.{Effect}
use Rattle.receiver.specs.declared.kinds.Effect.TheVariants.{Nothing, Store, Open, Close, Doubt}
use Rattle.receiver.proofs.Laid.{length-laid}
use Rattle.receiver.proofs.Outcomes.{by_doubt, by-effects}

abbrev pub Sized : Cells → Type 0
Sized cells = (length cells.characters ≡ cell_count) × (length cells.marks ≡ cell_count)

pub blank_sized : Sized blank
unfolding blank
blank_sized = (length-replicate cell_count space, length-replicate cell_count never)

pub aged_sized : (cells : Cells) → Sized cells → Sized (aged cells)
unfolding aged
aged_sized cells s = (s.0, length-map cells.marks age ∙ s.1)

pub stored_sized : (row : ℕ) (bytes : List ℕ) (cells : Cells) → Sized cells → Sized (stored row bytes cells)
unfolding stored
stored_sized row bytes cells s = (
  length-laid kept_character (row_place row) (row_found row bytes) cells.characters cells.marks ∙ s.0,
  length-laid kept_mark (row_place row) (row_found row bytes) cells.marks cells.characters ∙ s.1,
)

pub new_sized : (selection : Selection) → Sized (new_receiver selection).cells
unfolding new_receiver
new_sized selection = blank_sized

pub closed_cells : (receiver : Receiver) → (closed receiver).cells ≡ receiver.cells
unfolding closed shut
closed_cells receiver =
    chosen (λ (r : Receiver). r.cells ≡ receiver.cells) receiver.«open» (shut receiver) receiver (λ o. refl) (λ o. refl)

pub opened_sized : (receiver : Receiver) (header : Header) → Sized receiver.cells → Sized (opened receiver header).cells
unfolding opened
opened_sized receiver header s =
    chosen Sized (clears header) blank (aged receiver.cells) (λ c. blank_sized) (λ c. aged_sized receiver.cells s)

module _ (receiver : Receiver) (is : Sized receiver.cells) where
  closed-sized : Sized (closed receiver).cells
  closed-sized = rw (closed_cells receiver) is

  effected-sized : (e : Effect) (bytes lent : List ℕ) → Sized (effected receiver e bytes lent).receiver.cells
  unfolding effected unclosed text_taken header_taken just_closed row_stored doubted
  effected-sized Nothing bytes lent = is
  effected-sized (Store row) bytes lent = stored_sized row bytes receiver.cells is
  effected-sized (Open header) bytes lent =
      stored_sized 0 bytes (opened (closed receiver) header).cells (opened_sized (closed receiver) header closed-sized)
  effected-sized (Close kind) bytes lent = closed-sized
  effected-sized (Doubt could) bytes lent =
      by_doubt receiver lent (λ (o : Outcome). Sized o.receiver.cells) could
      (λ o t. rw (closed_cells (doubted receiver)) is)
      (λ o t. is)
      (λ o. is)

  pub taken-sized : (packet lent : List ℕ) → Sized (taken receiver packet lent).receiver.cells
  taken-sized packet lent =
      by-effects receiver packet lent (λ (o : Outcome). Sized o.receiver.cells) (λ e. effected-sized e (text_of packet).bytes lent)
