-- What a line's closing word shows of the receiver and of the lent record: only a closing writes, and what it writes is the page that was held; every row 0
-- of ours closes.
use mathlib.Core.Path.{◌≡◌, refl, ◌∙◌, ap, ap₂, subst, sym}
use mathlib.Core.Bool.{Bool, true, false, cond}
use mathlib.Core.List.{List, ◌++◌}
use mathlib.Core.Option.{Option, none, some}
use Prim.Native.Nat.{ℕ, ◌≤◌}
use native.Mathlib.Omega.{arith}
use borrow.Author.Tests.{eq-eqb}
use lib.ListN.{drop, length, length-append, length-drop}
use lib.Seq.{drop_at}
use Rattle.std.specs.Prelude as std
use Rattle.std.specs.Prelude.{None, Some, Result, Ok, Err}
use Rattle.laws.proofs.Keeps.{chosen}
use Rattle.packet.specs.Headers.{all_good, header_messages, header_of, header_or}
use Rattle.packet.specs.Lines.{packet_length}
use Rattle.packet.specs.Texts.{text_of}
use Rattle.packet.specs.declared.Header.{Header}
use Rattle.packet.specs.declared.HeaderError.{HeaderError}
use Rattle.packet.specs.declared.HeaderError.TheVariants as header
use Rattle.page.specs.Records.{record_length, record_of}
use Rattle.page.proofs.Trips.{length_record}
use Rattle.receiver.specs.Effects.{Outcome, closing_word, doubted, effected, header_taken, held, just_closed, lent_after, taken, text_taken, unclosed, word_of}
use Rattle.receiver.specs.Selections.{matches}
use Rattle.receiver.specs.declared.Closing.{Closing}
use Rattle.receiver.specs.declared.Closing.TheVariants as closing
use Rattle.receiver.specs.declared.Receiver.{Receiver}
use Rattle.receiver.specs.declared.kinds.Effect.{Effect}
use Rattle.receiver.specs.declared.kinds.Effect.TheVariants.{Nothing, Store, Open, Close, Doubt}
use Rattle.receiver.specs.declared.kinds.Seen.TheVariants.{OurHeader}
use Rattle.receiver.proofs.Causes.{Cause, OursZero, another, no_header, other-header, page-header, page-row, spoiled-header, unopened-row, unsure-line}
use Rattle.receiver.proofs.Outcomes.{after, by-causes, by_doubt, by-effects, seen_by, taken-opens, taken-other, taken-spoiled}

-- ---- closing words

word_none : (is_open doubt : Bool) → word_of is_open doubt ≡ None → is_open ≡ false
unfolding word_of
word_none true true e = cc
word_none true false e = cc
word_none false doubt e = refl

word_clean : (is_open doubt : Bool) → word_of is_open doubt ≡ Some closing.Clean → (is_open ≡ true) × (doubt ≡ false)
unfolding word_of
word_clean true true e = (cc, cc)
word_clean true false e = (refl, refl)
word_clean false doubt e = (cc, cc)

module _ (receiver : Receiver) where
  -- none: no page was open
  pub none-was-open : closing_word receiver ≡ None → receiver.«open» ≡ false
  unfolding closing_word
  none-was-open = word_none receiver.«open» receiver.doubt

  pub none_open : receiver.«open» ≡ false → closing_word receiver ≡ None
  unfolding closing_word word_of
  none_open o = ap (λ (b : Bool). word_of b receiver.doubt) o

  -- clean: one was, and without doubt
  pub clean-was-open : closing_word receiver ≡ Some closing.Clean → (receiver.«open» ≡ true) × (receiver.doubt ≡ false)
  unfolding closing_word
  clean-was-open = word_clean receiver.«open» receiver.doubt

  module _ (lent : List ℕ) where
    pub lent-shut : receiver.«open» ≡ false → lent_after receiver lent ≡ lent
    unfolding lent_after
    lent-shut o = ap (λ (b : Bool). cond b (record_of (held receiver) ++ drop record_length lent) lent) o

    pub none-writes-nothing : closing_word receiver ≡ None → lent_after receiver lent ≡ lent
    none-writes-nothing e = lent-shut (none-was-open e)

    pub lent-open : receiver.«open» ≡ true → lent_after receiver lent ≡ record_of (held receiver) ++ drop record_length lent
    unfolding lent_after
    lent-open o = ap (λ (b : Bool). cond b (record_of (held receiver) ++ drop record_length lent) lent) o

    pub lent-past : drop record_length (lent_after receiver lent) ≡ drop record_length lent
    unfolding lent_after
    lent-past =
        chosen (λ (xs : List ℕ). drop record_length xs ≡ drop record_length lent) receiver.«open» (record_of (held receiver) ++ drop record_length lent) lent
        (λ o. drop_at (record_of (held receiver)) (drop record_length lent) record_length (length_record (held receiver)))
        (λ o. refl)

    pub lent_length : record_length ≤ length lent → length (lent_after receiver lent) ≡ length lent
    unfolding lent_after
    lent_length h =
        chosen (λ (xs : List ℕ). length xs ≡ length lent) receiver.«open» (record_of (held receiver) ++ drop record_length lent) lent
        (λ o.
        omega (
          arith,
          length-append (record_of (held receiver)) (drop record_length lent),
          length_record (held receiver),
          length-drop record_length lent,
        ))
        (λ o. refl)

-- a page that is in doubt never closes clean
doubt_not_clean : (receiver : Receiver) → closing_word (doubted receiver) ≡ Some closing.Clean → ⊥
unfolding doubted
doubt_not_clean receiver e = let z : ◌≡◌ {A = ℕ} 0 1 = cc (clean-was-open (doubted receiver) e).1 in omega arith

-- a closing that is clean: an open page without doubt, our row 0, and its record
pub record Clean (receiver : Receiver) (packet lent : List ℕ) (outcome : Outcome) : Type 0 where
  pub was_open : receiver.«open» ≡ true
  pub undoubted : receiver.doubt ≡ false
  pub ours : OursZero receiver packet
  pub wrote : outcome.lent ≡ record_of (held receiver) ++ drop record_length lent

module _ (receiver : Receiver) (lent : List ℕ) where
  written-only : (e : Effect) (bytes : List ℕ) → (effected receiver e bytes lent).closing ≡ None → (effected receiver e bytes lent).lent ≡ lent
  unfolding effected unclosed text_taken header_taken just_closed
  written-only Nothing bytes = λ c. refl
  written-only (Store row) bytes = λ c. refl
  written-only (Open header) bytes = λ c. none-writes-nothing receiver lent c
  written-only (Close kind) bytes = λ c. none-writes-nothing receiver lent c
  written-only (Doubt could) bytes =
      by_doubt receiver lent (λ (o : Outcome). o.closing ≡ None → o.lent ≡ lent) could
      (λ o t e. none-writes-nothing (doubted receiver) lent e)
      (λ o t e. refl)
      (λ o e. refl)

  past_by : (e : Effect) (bytes : List ℕ) → drop record_length (effected receiver e bytes lent).lent ≡ drop record_length lent
  unfolding effected unclosed text_taken header_taken just_closed
  past_by Nothing bytes = refl
  past_by (Store row) bytes = refl
  past_by (Open header) bytes = lent-past receiver lent
  past_by (Close kind) bytes = lent-past receiver lent
  past_by (Doubt could) bytes =
      by_doubt receiver lent (λ (o : Outcome). drop record_length o.lent ≡ drop record_length lent) could
      (λ o t. lent-past (doubted receiver) lent)
      (λ o t. refl)
      (λ o. refl)

  length-by : record_length ≤ length lent → (e : Effect) (bytes : List ℕ) → length (effected receiver e bytes lent).lent ≡ length lent
  unfolding effected unclosed text_taken header_taken just_closed
  length-by h Nothing bytes = refl
  length-by h (Store row) bytes = refl
  length-by h (Open header) bytes = lent_length receiver lent h
  length-by h (Close kind) bytes = lent_length receiver lent h
  length-by h (Doubt could) bytes =
      by_doubt receiver lent (λ (o : Outcome). length o.lent ≡ length lent) could
      (λ o t. lent_length (doubted receiver) lent h)
      (λ o t. refl)
      (λ o. refl)

module _ (receiver : Receiver) (packet lent : List ℕ) where
  -- no other line touches the lent record
  pub only-closing-writes : (taken receiver packet lent).closing ≡ None → (taken receiver packet lent).lent ≡ lent
  only-closing-writes =
      by-effects receiver packet lent (λ (o : Outcome). o.closing ≡ None → o.lent ≡ lent) (λ e. written-only receiver lent e (text_of packet).bytes)

  -- and none touches what lies past the record
  pub past-stays : drop record_length (taken receiver packet lent).lent ≡ drop record_length lent
  past-stays =
      by-effects receiver packet lent (λ (o : Outcome). drop record_length o.lent ≡ drop record_length lent)
      (λ e. past_by receiver lent e (text_of packet).bytes)

  pub length-stays : record_length ≤ length lent → length (taken receiver packet lent).lent ≡ length lent
  length-stays h =
      by-effects receiver packet lent (λ (o : Outcome). length o.lent ≡ length lent) (λ e. length-by receiver lent h e (text_of packet).bytes)

  none-not-clean : ◌≡◌ {A = std.Option Closing} None (Some closing.Clean) → ⊥
  none-not-clean e = let z : ◌≡◌ {A = ℕ} 0 1 = cc in omega arith

  closed-clean : OursZero receiver packet → {o : Outcome} → o.lent ≡ lent_after receiver lent → closing_word receiver ≡ Some closing.Clean → Clean receiver packet lent o
  closed-clean a l e =
      let w = clean-was-open receiver e in
      record { was_open = w.0; undoubted = w.1; ours = a; wrote = l ∙ lent-open receiver lent w.0 }

  abbrev IfClean : Outcome → Type 0
  IfClean outcome = outcome.closing ≡ Some closing.Clean → Clean receiver packet lent outcome

  clean-by : (e : Effect) → Cause receiver packet e → IfClean (after receiver packet lent e)
  unfolding effected unclosed text_taken header_taken just_closed
  clean-by e (another p) = λ c. absurd (none-not-clean c)
  clean-by e (unopened-row row t o) = λ c. absurd (none-not-clean c)
  clean-by e (no_header a r) = λ c. absurd (none-not-clean c)
  clean-by e (page-row row t o) = λ c. absurd (none-not-clean c)
  clean-by e (page-header found a r m) = λ c. closed-clean a refl c
  clean-by e (other-header found a r m) = λ c. closed-clean a refl c
  clean-by e (spoiled-header a r) = λ c. closed-clean a refl c
  clean-by e (unsure-line could u) =
      by_doubt receiver lent IfClean could
      (λ o t c. absurd (doubt_not_clean receiver c))
      (λ o t c. absurd (none-not-clean c))
      (λ o c. absurd (none-not-clean c))

  pub clean-closing : (taken receiver packet lent).closing ≡ Some closing.Clean → Clean receiver packet lent (taken receiver packet lent)
  clean-closing = by-causes receiver packet lent IfClean clean-by

-- ---- every row 0 of ours closes

-- a packet of 42 bytes has a header, good or spoiled
or_not_short : (found : Option (List ℕ)) → header_or found ≡ Err header.WrongLength → ⊥
unfolding header_or
or_not_short none e = let z : ◌≡◌ {A = ℕ} 0 1 = cc in omega arith
or_not_short (some messages) e = let z : ◌≡◌ {A = ℕ} 0 1 = cc in omega arith

pub header_not_short : (packet : List ℕ) → length packet ≡ packet_length → header_of packet ≡ Err header.WrongLength → ⊥
unfolding header_of
header_not_short packet whole e =
    or_not_short (all_good (header_messages packet))
    (sym (ap (λ (b : Bool). cond b (header_or (all_good (header_messages packet))) (Err header.WrongLength)) (eq-eqb (length packet) packet_length whole)) ∙ e)

module _ (receiver : Receiver) (packet lent : List ℕ) (ours : seen_by receiver packet lent ≡ OurHeader) (whole : length packet ≡ packet_length) where
  -- the closing of what was held
  abbrev Closes : Outcome → Type 0
  Closes outcome = (outcome.closing ≡ closing_word receiver) × (outcome.lent ≡ lent_after receiver lent)

  read-closes : (read : Result Header HeaderError) → header_of packet ≡ read → Closes (taken receiver packet lent)
  unfolding header_taken just_closed
  read-closes (Ok found) r = by (matches receiver.selection found) refl
    where
      by : (is : Bool) → matches receiver.selection found ≡ is → Closes (taken receiver packet lent)
      by true m = subst Closes (sym (taken-opens receiver packet lent found ours r m)) (refl, refl)
      by false m = subst Closes (sym (taken-other receiver packet lent found ours r m)) (refl, refl)
  read-closes (Err header.Spoiled) r = subst Closes (sym (taken-spoiled receiver packet lent ours r)) (refl, refl)
  read-closes (Err header.WrongLength) r = absurd (header_not_short packet whole r)

  pub header-closes : ((taken receiver packet lent).closing ≡ closing_word receiver) × ((taken receiver packet lent).lent ≡ lent_after receiver lent)
  header-closes = read-closes (header_of packet) refl

-- an open page without doubt closes clean
pub closes_clean : (receiver : Receiver) → receiver.«open» ≡ true → receiver.doubt ≡ false → closing_word receiver ≡ Some closing.Clean
unfolding closing_word word_of
closes_clean receiver o d = ap₂ word_of o d
