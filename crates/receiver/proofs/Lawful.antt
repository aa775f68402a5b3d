-- A lawful receiver stays lawful: a new one is, and every line keeps all that 18 asks, so that 18 never arises from our own hands.
use mathlib.Core.Path.{◌≡◌, refl, subst, sym}
use mathlib.Core.Bool.{false, not, ◌&&◌}
use mathlib.Core.List.{List}
use Prim.Native.Nat.{ℕ, ◌≤◌}
use lib.Dec.{T, T_not, leb, leb→le}
use Rattle.laws.proofs.Bools.{both_left, both_right}
use Rattle.laws.proofs.Keeps.{both, chosen, chosen_first, first_chosen}
use Rattle.packet.specs.Headers.{zero_header}
use Rattle.packet.specs.Texts.{text_of}
use Rattle.packet.specs.declared.Header.{Header}
use Rattle.page.specs.Lawful.{cells_fit, cells_lawful, header_fits}
use Rattle.receiver.specs.Cells.{aged, blank}
use Rattle.receiver.specs.Entries.{is_zero, lawful, made, new_receiver, state_lawful, state_of, zero_receiver}
use Rattle.receiver.specs.Effects.{Outcome, clears, closed, doubted, effected, header_taken, just_closed, opened, row_stored, shut, taken, text_taken, unclosed}
use Rattle.receiver.specs.Selections.{in_range, matches, when_in_range}
use Rattle.receiver.specs.declared.Receiver.{Receiver}
use Rattle.receiver.specs.declared.Selection.{Selection}
use Rattle.receiver.specs.declared.kinds.Effect.{Effect}
use Rattle.receiver.proofs.Causes.{Cause, another, no_header, other-header, page-header, page-row, spoiled-header, unopened-row, unsure-line}
use Rattle.receiver.proofs.Fits.{header_fits_law}
use Rattle.receiver.proofs.Outcomes.{after, by-causes, by_doubt}
use Rattle.receiver.proofs.Sound.{Sound, aged_sound, blank_sound, stored_sound}

-- ---- what 18 asks, part by part

pub record Parts (receiver : Receiver) : Type 0 where
  pub range : T (in_range receiver.selection)
  pub state : T (state_lawful receiver)
  pub fits : T (header_fits receiver.header)
  pub sound : Sound receiver.cells

pub parts : (receiver : Receiver) → T (lawful receiver) → Parts receiver
unfolding lawful
parts receiver t =
    let a = in_range receiver.selection in
    let b = state_lawful receiver in
    let c = header_fits receiver.header in
    let d = cells_fit receiver.cells in
    let e = cells_lawful receiver.cells in
    let abcd = both_left (a && b && c && d) e t in
    let abc = both_left (a && b && c) d abcd in
    let ab = both_left (a && b) c abc in
    record {
      range = both_left a b ab;
      state = both_right a b ab;
      fits = both_right (a && b) c abc;
      sound = (both_right (a && b && c) d abcd, both_right (a && b && c && d) e t);
    }

pub whole : (receiver : Receiver) → Parts receiver → T (lawful receiver)
unfolding lawful
whole receiver p =
    let a = in_range receiver.selection in
    let b = state_lawful receiver in
    let c = header_fits receiver.header in
    let d = cells_fit receiver.cells in
    let e = cells_lawful receiver.cells in
    both (a && b && c && d) e (both (a && b && c) d (both (a && b) c (both a b p.range p.state) p.fits) p.sound.0) p.sound.1

-- our magazine is 1 to 8
pub our_magazine : (receiver : Receiver) → T (lawful receiver) → (1 ≤ receiver.selection.magazine) × (receiver.selection.magazine ≤ 8)
unfolding in_range
our_magazine receiver t =
    let low = leb 1 receiver.selection.magazine in
    let high = leb receiver.selection.magazine 8 in
    let tens = leb receiver.selection.tens 9 in
    let units = leb receiver.selection.units 9 in
    let four = both_left (low && high && tens && units) (when_in_range receiver.selection.when) (parts receiver t).range in
    let two = both_left (low && high) tens (both_left (low && high && tens) units four) in
    (leb→le 1 receiver.selection.magazine (both_left low high two), leb→le receiver.selection.magazine 8 (both_right low high two))

zero_fits : T (header_fits zero_header)
unfolding header_fits zero_header
zero_fits = tt

zero_is_zero : T (is_zero zero_header)
unfolding is_zero zero_header
zero_is_zero = tt

-- ---- a new receiver

pub new_lawful : (selection : Selection) → T (in_range selection) → T (lawful (new_receiver selection))
unfolding new_receiver state_lawful state_of
new_lawful selection t =
    whole (new_receiver selection) (record { range = t; state = zero_is_zero; fits = zero_fits; sound = blank_sound })

-- as the constructor makes it; what stands beside a refused selection is not lawful, so that its lines are refused too
pub made_lawful : (selection : Selection) → T (in_range selection) → T (lawful (made selection))
unfolding made
made_lawful selection t =
    chosen (λ (r : Receiver). T (lawful r)) (in_range selection) (new_receiver selection) zero_receiver (new_lawful selection)
    (λ n. absurd (T_not (in_range selection) n t))

pub zero_unlawful : lawful zero_receiver ≡ false
unfolding lawful zero_receiver
zero_unlawful = refl

-- ---- closing, opening, storing and doubting

pub shut_lawful : (receiver : Receiver) → T (lawful receiver) → T (lawful (shut receiver))
unfolding shut state_lawful state_of
shut_lawful receiver t =
    let p = parts receiver t in
    whole (shut receiver) (record { range = p.range; state = zero_is_zero; fits = zero_fits; sound = p.sound })

pub closed_lawful : (receiver : Receiver) → T (lawful receiver) → T (lawful (closed receiver))
unfolding closed
closed_lawful receiver t =
    chosen (λ (r : Receiver). T (lawful r)) receiver.«open» (shut receiver) receiver (λ o. shut_lawful receiver t) (λ o. t)

-- closing keeps the selection
pub closed_selection : (receiver : Receiver) → (closed receiver).selection ≡ receiver.selection
unfolding closed shut
closed_selection receiver =
    chosen (λ (r : Receiver). r.selection ≡ receiver.selection) receiver.«open» (shut receiver) receiver (λ o. refl) (λ o. refl)

pub opened_lawful : (receiver : Receiver) (header : Header) → T (lawful receiver) → T (matches receiver.selection header)
    → T (header_fits header) → T (lawful (opened receiver header))
unfolding opened state_lawful state_of
opened_lawful receiver header t m f =
    let p = parts receiver t in
    whole (opened receiver header)
    (record {
      range = p.range;
      state = m;
      fits = f;
      sound = chosen Sound (clears header) blank (aged receiver.cells) (λ c. blank_sound) (λ c. aged_sound receiver.cells p.sound);
    })

pub opened_open : (receiver : Receiver) (header : Header) → T (opened receiver header).«open»
unfolding opened
opened_open receiver header = tt

-- the header of an open page matches
pub open_matches : (receiver : Receiver) → T (lawful receiver) → T receiver.«open» → T (matches receiver.selection receiver.header)
unfolding state_lawful state_of
open_matches receiver t o =
    chosen_first receiver.«open» (matches receiver.selection receiver.header) (not receiver.doubt && is_zero receiver.header) o
    (parts receiver t).state

pub stored_lawful : (receiver : Receiver) (row : ℕ) (bytes : List ℕ) → T (lawful receiver) → T receiver.«open»
    → T (lawful (row_stored receiver row bytes))
unfolding row_stored state_lawful state_of
stored_lawful receiver row bytes t o =
    let p = parts receiver t in
    whole (row_stored receiver row bytes)
    (record {
      range = p.range;
      state = first_chosen receiver.«open» (matches receiver.selection receiver.header) _ o (open_matches receiver t o);
      fits = p.fits;
      sound = stored_sound row bytes receiver.cells p.sound;
    })

pub doubted_lawful : (receiver : Receiver) → T (lawful receiver) → T receiver.«open» → T (lawful (doubted receiver))
unfolding doubted state_lawful state_of
doubted_lawful receiver t o =
    let p = parts receiver t in
    whole (doubted receiver)
    (record {
      range = p.range;
      state = first_chosen receiver.«open» (matches receiver.selection receiver.header) _ o (open_matches receiver t o);
      fits = p.fits;
      sound = p.sound;
    })

-- ---- one line

module _ (receiver : Receiver) (is : T (lawful receiver)) (lent : List ℕ) where
  header-taken-lawful : (found : Header) (bytes : List ℕ) → T (header_fits found) → T (matches receiver.selection found)
      → T (lawful (header_taken receiver found bytes lent).receiver)
  unfolding header_taken
  header-taken-lawful found bytes f m =
      stored_lawful (opened (closed receiver) found) 0 bytes
      (opened_lawful (closed receiver) found (closed_lawful receiver is)
      (subst (λ (s : Selection). T (matches s found)) (sym (closed_selection receiver)) m) f)
      (opened_open (closed receiver) found)

  lawful_by : (packet : List ℕ) (e : Effect) → Cause receiver packet e → T (lawful (after receiver packet lent e).receiver)
  unfolding effected unclosed text_taken just_closed
  lawful_by packet e (another p) = is
  lawful_by packet e (unopened-row row t o) = is
  lawful_by packet e (no_header a r) = is
  lawful_by packet e (page-row row t o) = stored_lawful receiver row (text_of packet).bytes is (rw o tt)
  lawful_by packet e (page-header found a r m) = header-taken-lawful found (text_of packet).bytes (header_fits_law packet found r) (rw m tt)
  lawful_by packet e (other-header found a r m) = closed_lawful receiver is
  lawful_by packet e (spoiled-header a r) = closed_lawful receiver is
  lawful_by packet e (unsure-line could u) =
      by_doubt receiver lent (λ (o : Outcome). T (lawful o.receiver)) could
      (λ o t. closed_lawful (doubted receiver) (doubted_lawful receiver is (rw o tt)))
      (λ o t. doubted_lawful receiver is (rw o tt))
      (λ o. is)

  -- a lawful receiver stays lawful, whatever the packet
  pub taken-lawful : (packet : List ℕ) → T (lawful (taken receiver packet lent).receiver)
  taken-lawful packet = by-causes receiver packet lent (λ (o : Outcome). T (lawful o.receiver)) (lawful_by packet)
