-- From the effects of the table to a line: what holds after each effect holds after every line; and what holds after each effect with what led to it. And
-- what each kind shows.
use mathlib.Core.Path.{◌≡◌, refl, ◌∙◌, ap, subst, sym}
use mathlib.Core.Bool.{Bool, true, false}
use mathlib.Core.List.{List}
use Prim.Native.Nat.{ℕ, zero, suc, ◌≤◌}
use lib.Dec.{lit≤}
use Rattle.std.specs.Prelude.{Ok, Err}
use Rattle.laws.proofs.Bools.{passed}
use Rattle.laws.proofs.Keeps.{chosen, failed}
use Rattle.packet.specs.Addresses.{address_of}
use Rattle.packet.specs.Headers.{header_of}
use Rattle.packet.specs.Texts.{text_of}
use Rattle.packet.specs.declared.Header.{Header}
use Rattle.packet.specs.declared.HeaderError.TheVariants as header
use Rattle.receiver.specs.Effects.{Outcome, doubted, effected, header_taken, just_closed, taken, text_taken, unclosed, unsure_taken}
use Rattle.receiver.specs.Kinds.{effect_due, header_effect, seen}
use Rattle.receiver.specs.Selections.{matches}
use Rattle.receiver.specs.declared.Receiver.{Receiver}
use Rattle.receiver.specs.declared.kinds.Effect.{Effect}
use Rattle.receiver.specs.declared.kinds.Seen.{Seen}
use Rattle.receiver.specs.declared.kinds.Seen.TheVariants.{Another, OurRow, OurHeader}
use Rattle.receiver.proofs.Causes.{Cause, MayBeOurs, OurText, OursZero, caused, due-another, due-header, due-row, header_effect_law}
use Rattle.receiver.proofs.Causes.{another, no_header, other-header, page-header, page-row, spoiled-header, unopened-row, unsure-line}

module _ (receiver : Receiver) (packet lent : List ℕ) where
  -- what the effect of a line gives
  abbrev pub after : Effect → Outcome
  after effect = effected receiver effect (text_of packet).bytes lent

  -- by effects
  pub by-effects : (P : Outcome → Type 0) → ((e : Effect) → P (after e)) → P (taken receiver packet lent)
  unfolding taken
  by-effects P each = each (effect_due receiver packet)

  -- by effects with their causes
  pub by-causes : (P : Outcome → Type 0) → ((e : Effect) → Cause receiver packet e → P (after e)) → P (taken receiver packet lent)
  unfolding taken
  by-causes P each = each (effect_due receiver packet) (caused receiver packet)

  taken-due : {e : Effect} → effect_due receiver packet ≡ e → taken receiver packet lent ≡ after e
  unfolding taken
  taken-due e = ap after e

-- the three outcomes of doubt
pub by_doubt : (receiver : Receiver) (lent : List ℕ) (P : Outcome → Type 0) (could : Bool)
    → (receiver.«open» ≡ true → could ≡ true → P (just_closed (doubted receiver) 4 lent))
    → (receiver.«open» ≡ true → could ≡ false → P (unclosed (doubted receiver) 4 lent))
    → (receiver.«open» ≡ false → P (unclosed receiver 4 lent)) → P (unsure_taken receiver could lent)
unfolding unsure_taken
by_doubt receiver lent P could closes stays rests =
    chosen P receiver.«open» _ (unclosed receiver 4 lent)
    (λ o.
    chosen P could (just_closed (doubted receiver) 4 lent) (unclosed (doubted receiver) 4 lent)
    (λ t. closes (passed receiver.«open» o) (passed could t))
    (λ t. stays (passed receiver.«open» o) (failed could t)))
    (λ o. rests (failed receiver.«open» o))

-- ---- what each kind shows

-- kind 1: a row stored
pub record Stores (receiver : Receiver) (packet lent : List ℕ) (outcome : Outcome) : Type 0 where
  pub row : ℕ
  pub ours : OurText receiver.selection.magazine (address_of packet) row
  pub was_open : receiver.«open» ≡ true
  pub gives : outcome ≡ text_taken receiver row (text_of packet).bytes lent

-- kind 2: a page opened by its header
pub record Opens (receiver : Receiver) (packet lent : List ℕ) (outcome : Outcome) : Type 0 where
  pub found : Header
  pub ours : OursZero receiver packet
  pub read : header_of packet ≡ Ok found
  pub matched : matches receiver.selection found ≡ true
  pub gives : outcome ≡ header_taken receiver found (text_of packet).bytes lent

-- kind 3: another page's header
pub record Others (receiver : Receiver) (packet lent : List ℕ) (outcome : Outcome) : Type 0 where
  pub found : Header
  pub ours : OursZero receiver packet
  pub read : header_of packet ≡ Ok found
  pub unmatched : matches receiver.selection found ≡ false
  pub gives : outcome ≡ just_closed receiver 3 lent

-- kind 4: a line that may be ours
pub record Unsures (receiver : Receiver) (packet lent : List ℕ) (outcome : Outcome) : Type 0 where
  pub could : Bool
  pub may : MayBeOurs receiver.selection.magazine (address_of packet) could
  pub gives : outcome ≡ unsure_taken receiver could lent

-- kind 5: our row 0, spoiled
pub record Spoils (receiver : Receiver) (packet lent : List ℕ) (outcome : Outcome) : Type 0 where
  pub ours : OursZero receiver packet
  pub read : header_of packet ≡ Err header.Spoiled
  pub gives : outcome ≡ just_closed receiver 5 lent

-- an unsure line is of kind 4, whatever it does
pub unsure_kind : (receiver : Receiver) (could : Bool) (lent : List ℕ) → (unsure_taken receiver could lent).kind ≡ 4
unfolding unclosed just_closed
unsure_kind receiver could lent = by_doubt receiver lent (λ (o : Outcome). o.kind ≡ 4) could (λ o t. refl) (λ o t. refl) (λ o. refl)

module _ (receiver : Receiver) (packet lent : List ℕ) where
  -- what each kind shows of the line; there are no others
  abbrev Shown : ℕ → Outcome → Type 0
  Shown zero outcome = outcome ≡ unclosed receiver 0 lent
  Shown (suc zero) outcome = Stores receiver packet lent outcome
  Shown (suc (suc zero)) outcome = Opens receiver packet lent outcome
  Shown (suc (suc (suc zero))) outcome = Others receiver packet lent outcome
  Shown (suc (suc (suc (suc zero)))) outcome = Unsures receiver packet lent outcome
  Shown (suc (suc (suc (suc (suc zero))))) outcome = Spoils receiver packet lent outcome
  Shown (suc (suc (suc (suc (suc (suc kind)))))) outcome = ⊥

  shown_by : (e : Effect) → Cause receiver packet e → Shown (after receiver packet lent e).kind (after receiver packet lent e)
  unfolding effected unclosed text_taken header_taken just_closed
  shown_by e (another p) = refl
  shown_by e (unopened-row row t o) = refl
  shown_by e (no_header a r) = refl
  shown_by e (page-row row t o) = record { row = row; ours = t; was_open = o; gives = refl }
  shown_by e (page-header found a r m) = record { found = found; ours = a; read = r; matched = m; gives = refl }
  shown_by e (other-header found a r m) = record { found = found; ours = a; read = r; unmatched = m; gives = refl }
  shown_by e (spoiled-header a r) = record { ours = a; read = r; gives = refl }
  shown_by e (unsure-line could u) =
      subst (λ (k : ℕ). Shown k (unsure_taken receiver could lent)) (sym (unsure_kind receiver could lent))
      (record { could = could; may = u; gives = refl })

  kind-shows : {kind : ℕ} → (taken receiver packet lent).kind ≡ kind → Shown kind (taken receiver packet lent)
  kind-shows e =
      subst (λ (k : ℕ). Shown k (taken receiver packet lent)) e
      (by-causes receiver packet lent (λ (o : Outcome). Shown o.kind o) shown_by)

  -- kind 0: none
  pub kind-0-nothing : (taken receiver packet lent).kind ≡ 0 → taken receiver packet lent ≡ unclosed receiver 0 lent
  kind-0-nothing e = kind-shows e

  pub kind-1-stores : (taken receiver packet lent).kind ≡ 1 → Stores receiver packet lent (taken receiver packet lent)
  kind-1-stores e = kind-shows e

  pub kind-2-opens : (taken receiver packet lent).kind ≡ 2 → Opens receiver packet lent (taken receiver packet lent)
  kind-2-opens e = kind-shows e

  pub kind-3-closes : (taken receiver packet lent).kind ≡ 3 → Others receiver packet lent (taken receiver packet lent)
  kind-3-closes e = kind-shows e

  pub kind-4-unsure : (taken receiver packet lent).kind ≡ 4 → Unsures receiver packet lent (taken receiver packet lent)
  kind-4-unsure e = kind-shows e

  pub kind-5-closes : (taken receiver packet lent).kind ≡ 5 → Spoils receiver packet lent (taken receiver packet lent)
  kind-5-closes e = kind-shows e

  -- and no line is of another kind
  pub kind-most : (taken receiver packet lent).kind ≤ 5
  kind-most = most (taken receiver packet lent).kind (kind-shows refl)
    where
      most : (kind : ℕ) → Shown kind (taken receiver packet lent) → kind ≤ 5
      most zero s = lit≤ tt
      most (suc zero) s = lit≤ tt
      most (suc (suc zero)) s = lit≤ tt
      most (suc (suc (suc zero))) s = lit≤ tt
      most (suc (suc (suc (suc zero)))) s = lit≤ tt
      most (suc (suc (suc (suc (suc zero))))) s = lit≤ tt
      most (suc (suc (suc (suc (suc (suc kind)))))) s = absurd s

-- ---- and forth: from what was seen to the outcome

module _ (receiver : Receiver) (packet lent : List ℕ) where
  abbrev pub seen_by : Seen
  seen_by = seen receiver.selection.magazine (address_of packet)

  pub taken-another : seen_by ≡ Another → taken receiver packet lent ≡ unclosed receiver 0 lent
  unfolding effected
  taken-another e = taken-due receiver packet lent (due-another receiver packet e)

  pub taken-text : {row : ℕ} → seen_by ≡ OurRow row → receiver.«open» ≡ true
      → taken receiver packet lent ≡ text_taken receiver row (text_of packet).bytes lent
  unfolding effected
  taken-text e o = taken-due receiver packet lent (due-row receiver packet e o)

  pub taken-opens : (found : Header) → seen_by ≡ OurHeader → header_of packet ≡ Ok found
      → matches receiver.selection found ≡ true → taken receiver packet lent ≡ header_taken receiver found (text_of packet).bytes lent
  unfolding effected
  taken-opens found e r m =
      taken-due receiver packet lent (due-header receiver packet e r ∙ header_effect_law receiver.selection found m)

  pub taken-other : (found : Header) → seen_by ≡ OurHeader → header_of packet ≡ Ok found
      → matches receiver.selection found ≡ false → taken receiver packet lent ≡ just_closed receiver 3 lent
  unfolding effected
  taken-other found e r m =
      taken-due receiver packet lent (due-header receiver packet e r ∙ header_effect_law receiver.selection found m)

  pub taken-spoiled : seen_by ≡ OurHeader → header_of packet ≡ Err header.Spoiled → taken receiver packet lent ≡ just_closed receiver 5 lent
  unfolding effected header_effect
  taken-spoiled e r = taken-due receiver packet lent (due-header receiver packet e r)
