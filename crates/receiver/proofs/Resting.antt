-- A lawful receiver with no page open: without doubt and with digits, time and control bits 0, so that closing leaves just this state, and a line of kind
-- 4 changes nothing. And the sizes of a line's kind and count.
use mathlib.Core.Path.{◌≡◌, refl, ap, subst, sym}
use mathlib.Core.Bool.{Bool, false, cond, not, ◌&&◌}
use mathlib.Core.List.{List}
use Prim.Native.Nat.{ℕ, ◌≤◌, ◌<◌}
use native.Mathlib.Omega.{arith}
use lib.Dec.{T, eqb, eqb→eq, lit<, lit≤}
use lib.ListN.{get_or}
use Rattle.laws.proofs.Bools.{both_left, both_right}
use Rattle.laws.proofs.Every.{every_at}
use Rattle.laws.proofs.Keeps.{chosen, chosen_second, failed}
use Rattle.packet.specs.Headers.{header_values, zero_header}
use Rattle.grid.specs.Grid.{columns}
use Rattle.packet.specs.Texts.{text_of}
use Rattle.packet.specs.declared.Header.{Header}
use Rattle.receiver.specs.Cells.{how_many, row_found}
use Rattle.receiver.specs.Entries.{is_zero, lawful, state_lawful, state_of}
use Rattle.receiver.specs.Effects.{Outcome, closed, doubted, effected, header_taken, just_closed, shut, taken, text_taken, unclosed, unsure_taken}
use Rattle.receiver.specs.Selections.{matches}
use Rattle.receiver.specs.declared.Receiver.{Receiver}
use Rattle.receiver.specs.declared.kinds.Effect.{Effect}
use Rattle.receiver.specs.declared.kinds.Effect.TheVariants.{Nothing, Store, Open, Close, Doubt}
use Rattle.receiver.proofs.Lawful.{parts}
use Rattle.receiver.proofs.Laying.{count_most}
use Rattle.receiver.proofs.Outcomes.{by_doubt, by-effects}
use Rattle.receiver.proofs.Rows.{length_found}
use Rattle.receiver.proofs.Undoubted.{length_text}

-- ---- none open

-- a header whose values are all 0 is the zero header
zero_header_law : (header : Header) → T (is_zero header) → header ≡ zero_header
unfolding is_zero header_values zero_header
zero_header_law header t =
    let tens = value 0 (lit< tt) in
    let units = value 1 (lit< tt) in
    let hoursTens = value 2 (lit< tt) in
    let hoursUnits = value 3 (lit< tt) in
    let minutesTens = value 4 (lit< tt) in
    let minutesUnits = value 5 (lit< tt) in
    let control = value 6 (lit< tt) in
    λ i.
    record {
      tens = tens i;
      units = units i;
      hours_tens = hoursTens i;
      hours_units = hoursUnits i;
      minutes_tens = minutesTens i;
      minutes_units = minutesUnits i;
      control = control i;
    }
  where
    value : (k : ℕ) → k < 7 → get_or (header_values header) k 0 ≡ 0
    value k h = sym (eqb→eq 0 (get_or (header_values header) k 0) (every_at (eqb 0) (header_values header) t k 0 h))

module _ (receiver : Receiver) (is : T (lawful receiver)) where
  pub none-open-rests : receiver.«open» ≡ false → receiver ≡ shut receiver
  unfolding state_lawful state_of shut
  none-open-rests o =
      let resting = not receiver.doubt && is_zero receiver.header in
      let shut-now = subst (λ (b : Bool). T (not b)) (sym o) tt in
      let state = chosen_second receiver.«open» (matches receiver.selection receiver.header) resting shut-now (parts receiver is).state in
      let doubt = failed receiver.doubt (both_left (not receiver.doubt) (is_zero receiver.header) state) in
      let header = zero_header_law receiver.header (both_right (not receiver.doubt) (is_zero receiver.header) state) in
      λ i.
      record {
        selection = receiver.selection;
        «open» = o i;
        doubt = doubt i;
        header = header i;
        cells = receiver.cells;
      }

  -- after closing, whether a page was open or not, digits, time, control bits and doubt are 0, and the cells stay
  pub closed_rests : closed receiver ≡ shut receiver
  unfolding closed
  closed_rests =
      chosen (λ (r : Receiver). r ≡ shut receiver) receiver.«open» (shut receiver) receiver (λ o. refl)
      (λ o. none-open-rests (failed receiver.«open» o))

-- an unsure line with none open is of kind 4 and changes nothing
pub unsure_unopened : (receiver : Receiver) (could : Bool) (lent : List ℕ) → receiver.«open» ≡ false → unsure_taken receiver could lent ≡ unclosed receiver 4 lent
unfolding unsure_taken
unsure_unopened receiver could lent o = ap by o
  where
    by : Bool → Outcome
    by is_open =
        cond is_open (cond could (just_closed (doubted receiver) 4 lent) (unclosed (doubted receiver) 4 lent)) (unclosed receiver 4 lent)

-- ---- sizes

row_count : (packet : List ℕ) (row : ℕ) → how_many (row_found row (text_of packet).bytes) ≤ columns
row_count packet row =
    omega (arith, count_most (row_found row (text_of packet).bytes), length_found row (text_of packet).bytes (length_text packet))

counted_by : (receiver : Receiver) (packet lent : List ℕ) (e : Effect) → (effected receiver e (text_of packet).bytes lent).count ≤ columns
unfolding effected unclosed text_taken header_taken just_closed
counted_by receiver packet lent Nothing = lit≤ tt
counted_by receiver packet lent (Store row) = row_count packet row
counted_by receiver packet lent (Open header) = row_count packet 0
counted_by receiver packet lent (Close kind) = lit≤ tt
counted_by receiver packet lent (Doubt could) =
    by_doubt receiver lent (λ (o : Outcome). o.count ≤ columns) could (λ o t. lit≤ tt) (λ o t. lit≤ tt) (λ o. lit≤ tt)

pub count_at_most : (receiver : Receiver) (packet lent : List ℕ) → (taken receiver packet lent).count ≤ columns
count_at_most receiver packet lent = by-effects receiver packet lent (λ (o : Outcome). o.count ≤ columns) (counted_by receiver packet lent)
