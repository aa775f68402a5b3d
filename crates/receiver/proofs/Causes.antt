-- The table of kinds: which addresses show what, and back; and why a line has its effect.
use mathlib.Core.Path.{◌≡◌, refl, ◌∙◌, ap, subst}
use mathlib.Core.Bool.{Bool, true, false, cond, not}
use mathlib.Core.List.{List}
use Prim.Native.Nat.{ℕ, zero, suc, ◌≤◌, ◌<◌}
use native.Mathlib.Omega.{arith}
use borrow.Author.Tests.{eq-eqb, le-leb, lt-leb, ne_eqb}
use lib.Dec.{T, T_not, eqb, eqb→eq, eqb_refl, leb, leb→le, nleb→lt}
use Rattle.std.specs.Prelude.{Result, Ok, Err}
use Rattle.laws.proofs.Bools.{passed}
use Rattle.laws.proofs.Keeps.{chosen, failed}
use Rattle.grid.specs.Grid.{last_row}
use Rattle.packet.specs.Addresses.{address_of}
use Rattle.packet.specs.Headers.{header_of}
use Rattle.packet.specs.Lines.{wrong_length}
use Rattle.packet.specs.declared.Address.{Address}
use Rattle.packet.specs.declared.Address.TheVariants.{First, Second, Unread, Whole}
use Rattle.packet.specs.declared.WrongLength.{WrongLength}
use Rattle.packet.specs.declared.Header.{Header}
use Rattle.packet.specs.declared.HeaderError.{HeaderError}
use Rattle.packet.specs.declared.HeaderError.TheVariants as header
use Rattle.receiver.specs.Kinds.{effect_due, effect_of, first_harmless, header_effect, seen, seen_ours, seen_whole}
use Rattle.receiver.specs.Selections.{matches}
use Rattle.receiver.specs.declared.Receiver.{Receiver}
use Rattle.receiver.specs.declared.Selection.{Selection}
use Rattle.receiver.specs.declared.kinds.Effect.{Effect}
use Rattle.receiver.specs.declared.kinds.Effect.TheVariants.{Nothing, Store, Open, Close, Doubt}
use Rattle.receiver.specs.declared.kinds.Seen.{Seen}
use Rattle.receiver.specs.declared.kinds.Seen.TheVariants.{Another, OurRow, OurHeader, Unsure}

-- ---- back: what was seen shows the address

-- row 1 to the last of our magazine
pub record OurText (ours : ℕ) (a : Result Address WrongLength) (row : ℕ) : Type 0 where
  pub from : a ≡ Ok (Whole ours row)
  pub first : 1 ≤ row
  pub last : row ≤ last_row

-- another's line
pub data Anothers (ours : ℕ) (a : Result Address WrongLength) : Type 0 where
  -- another magazine
  other_magazine : (magazine row : ℕ) → a ≡ Ok (Whole magazine row) → (magazine ≡ ours → ⊥) → Anothers ours a
  -- a row past the last
  late_row : (magazine row : ℕ) → a ≡ Ok (Whole magazine row) → last_row < row → Anothers ours a
  -- a first message good and of another magazine
  other_first : (magazine weight1 : ℕ) → a ≡ Ok (First magazine weight1) → (magazine ≡ ours → ⊥) → Anothers ours a
  -- a second message both of whose rows are such
  harmless_second : (second : ℕ) → a ≡ Ok (Second second) → first_harmless ≤ second → Anothers ours a
  -- no packet of 42 bytes
  no_packet : a ≡ Err wrong_length → Anothers ours a

-- an address message refused, that may be ours: whether it could be row 0 is what the good message shows
pub data MayBeOurs (ours : ℕ) (a : Result Address WrongLength) (could : Bool) : Type 0 where
  first_good : (weight1 : ℕ) → a ≡ Ok (First ours weight1) → could ≡ eqb weight1 0 → MayBeOurs ours a could
  second_good : (second : ℕ) → a ≡ Ok (Second second) → second < first_harmless → could ≡ eqb second 0 → MayBeOurs ours a could
  none_good : a ≡ Ok Unread → could ≡ true → MayBeOurs ours a could

abbrev Origin : ℕ → Result Address WrongLength → Seen → Type 0
Origin ours a Another = Anothers ours a
Origin ours a (OurRow row) = OurText ours a row
Origin ours a OurHeader = a ≡ Ok (Whole ours 0)
Origin ours a (Unsure could) = MayBeOurs ours a could

abbrev pub as_whole : ℕ → ℕ → Result Address WrongLength
as_whole magazine row = Ok (Whole magazine row)

abbrev pub as_first : ℕ → ℕ → Result Address WrongLength
as_first magazine weight1 = Ok (First magazine weight1)

not_zero : (n : ℕ) → T (not (eqb n 0)) → 1 ≤ n
not_zero zero t = absurd t
not_zero (suc n) t = omega arith

not_equal : (m n : ℕ) → T (not (eqb m n)) → m ≡ n → ⊥
not_equal m n t e = T_not (eqb m n) t (subst (λ (k : ℕ). T (eqb m k)) e (eqb_refl m))

module _ (ours : ℕ) where
  origin-whole : (magazine row : ℕ) → Origin ours (Ok (Whole magazine row)) (seen_whole ours magazine row)
  unfolding seen_whole seen_ours
  origin-whole magazine row =
      chosen P (eqb magazine ours) our_row Another
      (λ m.
      let same : magazine ≡ ours = eqb→eq magazine ours m in
      chosen P (eqb row 0) OurHeader late
      (λ z. ap (λ (n : ℕ). as_whole n row) same ∙ ap (as_whole ours) (eqb→eq row 0 z))
      (λ z.
      chosen P (leb row last_row) (OurRow row) Another
      (λ t. record { from = ap (λ (n : ℕ). as_whole n row) same; first = not_zero row z; last = leb→le row last_row t })
      (λ t. late_row magazine row refl (nleb→lt row last_row t))))
      (λ m. other_magazine magazine row refl (not_equal magazine ours m))
    where
      P : Seen → Type 0
      P = Origin ours (Ok (Whole magazine row))

      late : Seen
      late = cond (leb row last_row) (OurRow row) Another

      our_row : Seen
      our_row = cond (eqb row 0) OurHeader late

  origin : (a : Result Address WrongLength) → Origin ours a (seen ours a)
  unfolding seen
  origin (Ok (Whole magazine row)) = origin-whole magazine row
  origin (Ok (First magazine weight1)) =
      chosen (Origin ours (Ok (First magazine weight1))) (eqb magazine ours) (Unsure (eqb weight1 0)) Another
      (λ m. first_good weight1 (ap (λ (n : ℕ). as_first n weight1) (eqb→eq magazine ours m)) refl)
      (λ m. other_first magazine weight1 refl (not_equal magazine ours m))
  origin (Ok (Second second)) =
      chosen (Origin ours (Ok (Second second))) (leb first_harmless second) Another (Unsure (eqb second 0))
      (λ h. harmless_second second refl (leb→le first_harmless second h))
      (λ h. second_good second refl (nleb→lt first_harmless second h) refl)
  origin (Ok Unread) = none_good refl refl
  origin (Err short) = no_packet refl

  -- ---- and forth

  pub sees-other : (magazine row : ℕ) → (magazine ≡ ours → ⊥) → seen ours (Ok (Whole magazine row)) ≡ Another
  unfolding seen seen_whole seen_ours
  sees-other magazine row other = rw (ne_eqb magazine ours other)

  pub sees-late : (magazine row : ℕ) → last_row < row → seen ours (Ok (Whole magazine row)) ≡ Another
  unfolding seen seen_whole seen_ours
  sees-late magazine row late =
      rw (ne_eqb row 0 (λ e. omega arith), lt-leb row last_row late)
      (chosen (λ (s : Seen). s ≡ Another) (eqb magazine ours) Another Another (λ t. refl) (λ t. refl))

  pub sees-header : seen ours (Ok (Whole ours 0)) ≡ OurHeader
  unfolding seen seen_whole seen_ours
  sees-header = rw (eq-eqb ours ours refl)

  pub sees-text : (row : ℕ) → 1 ≤ row → row ≤ last_row → seen ours (Ok (Whole ours row)) ≡ OurRow row
  unfolding seen seen_whole seen_ours
  sees-text row first last = rw (eq-eqb ours ours refl, ne_eqb row 0 (λ e. omega arith), le-leb row last_row last)

  pub sees-first-other : (magazine weight1 : ℕ) → (magazine ≡ ours → ⊥) → seen ours (Ok (First magazine weight1)) ≡ Another
  unfolding seen
  sees-first-other magazine weight1 other = rw (ne_eqb magazine ours other)

  pub sees-first : (weight1 : ℕ) → seen ours (Ok (First ours weight1)) ≡ Unsure (eqb weight1 0)
  unfolding seen
  sees-first weight1 = rw (eq-eqb ours ours refl)

  pub sees-harmless : (second : ℕ) → first_harmless ≤ second → seen ours (Ok (Second second)) ≡ Another
  unfolding seen
  sees-harmless second h = rw (le-leb first_harmless second h)

  pub sees-second : (second : ℕ) → second < first_harmless → seen ours (Ok (Second second)) ≡ Unsure (eqb second 0)
  unfolding seen
  sees-second second h = rw (lt-leb first_harmless second h)

  pub sees-unread : seen ours (Ok Unread) ≡ Unsure true
  unfolding seen
  sees-unread = refl

-- ---- why a line has its effect

module _ (receiver : Receiver) (packet : List ℕ) where
  abbrev ours : ℕ
  ours = receiver.selection.magazine

  -- our row 0
  abbrev pub OursZero : Type 0
  OursZero = address_of packet ≡ Ok (Whole ours 0)

  pub data Cause : Effect → Type 0 where
    another : Anothers ours (address_of packet) → Cause Nothing
    unopened-row : (row : ℕ) → OurText ours (address_of packet) row → receiver.«open» ≡ false → Cause Nothing
    no_header : OursZero → header_of packet ≡ Err header.WrongLength → Cause Nothing
    page-row : (row : ℕ) → OurText ours (address_of packet) row → receiver.«open» ≡ true → Cause (Store row)
    page-header : (found : Header) → OursZero → header_of packet ≡ Ok found → matches receiver.selection found ≡ true → Cause (Open found)
    other-header : (found : Header) → OursZero → header_of packet ≡ Ok found → matches receiver.selection found ≡ false → Cause (Close 3)
    spoiled-header : OursZero → header_of packet ≡ Err header.Spoiled → Cause (Close 5)
    unsure-line : (could : Bool) → MayBeOurs ours (address_of packet) could → Cause (Doubt could)

  header-cause : OursZero → (read : Result Header HeaderError) → header_of packet ≡ read → Cause (header_effect receiver.selection read)
  unfolding header_effect
  header-cause a (Ok found) e =
      chosen Cause (matches receiver.selection found) (Open found) (Close 3)
      (λ m. page-header found a e (passed (matches receiver.selection found) m))
      (λ m. other-header found a e (failed (matches receiver.selection found) m))
  header-cause a (Err header.Spoiled) e = spoiled-header a e
  header-cause a (Err header.WrongLength) e = no_header a e

  by-seen : (s : Seen) → Origin ours (address_of packet) s → Cause (effect_of receiver.selection receiver.«open» s (header_of packet))
  unfolding effect_of
  by-seen Another o = another o
  by-seen (OurRow row) o =
      chosen Cause receiver.«open» (Store row) Nothing
      (λ t. page-row row o (passed receiver.«open» t))
      (λ t. unopened-row row o (failed receiver.«open» t))
  by-seen OurHeader o = header-cause o (header_of packet) refl
  by-seen (Unsure could) o = unsure-line could o

  pub caused : Cause (effect_due receiver packet)
  unfolding effect_due
  caused = by-seen (seen ours (address_of packet)) (origin ours (address_of packet))

  -- ---- and forth: the effect of what was seen

  due-by : {s : Seen} → seen ours (address_of packet) ≡ s
      → effect_due receiver packet ≡ effect_of receiver.selection receiver.«open» s (header_of packet)
  unfolding effect_due
  due-by e = ap (λ (s : Seen). effect_of receiver.selection receiver.«open» s (header_of packet)) e

  pub due-another : seen ours (address_of packet) ≡ Another → effect_due receiver packet ≡ Nothing
  unfolding effect_of
  due-another e = due-by e

  pub due-row : {row : ℕ} {is_open : Bool} → seen ours (address_of packet) ≡ OurRow row → receiver.«open» ≡ is_open
      → effect_due receiver packet ≡ cond is_open (Store row) Nothing
  unfolding effect_of
  due-row {row} e o = due-by e ∙ ap (λ (b : Bool). cond b (Store row) Nothing) o

  pub due-header : {read : Result Header HeaderError} → seen ours (address_of packet) ≡ OurHeader → header_of packet ≡ read
      → effect_due receiver packet ≡ header_effect receiver.selection read
  unfolding effect_of
  due-header e r = due-by e ∙ ap (header_effect receiver.selection) r

  pub due-unsure : {could : Bool} → seen ours (address_of packet) ≡ Unsure could → effect_due receiver packet ≡ Doubt could
  unfolding effect_of
  due-unsure e = due-by e

-- a header that was read, by whether it is the selected page's
pub header_effect_law : (selection : Selection) (found : Header) {is : Bool} → matches selection found ≡ is
    → header_effect selection (Ok found) ≡ cond is (Open found) (Close 3)
unfolding header_effect
header_effect_law selection found e = ap (λ (b : Bool). cond b (Open found) (Close 3)) e
