-- Statement C: with at most one wrong bit in each Hamming byte and no wrong character byte, a page opens with all its characters and closes clean, and
-- the record holds it.
use mathlib.Core.Path.{◌≡◌, refl, sym, ap, ap₂, subst, ◌∙◌}
use mathlib.Core.Bool.{false, ◌||◌}
use mathlib.Core.List.{List}
use Prim.Native.Nat.{ℕ, zero, suc, ◌≤◌, ◌<◌}
use native.Mathlib.Decide.{dec_le, ℕ_discrete}
use native.Mathlib.Omega.{arith}
use lib.Dec.{T}
use Rattle.std.specs.Prelude.{Some, Ok}
use Rattle.laws.proofs.Bools.{passed}
use Rattle.grid.specs.Grid.{last_row}
use Rattle.packet.specs.Addresses.{address_of}
use Rattle.packet.specs.Sent.{damage, line_packet, sent_by_rules, sent_header, sent_magazine, sent_row}
use Rattle.packet.specs.Texts.{text_of}
use Rattle.packet.specs.declared.Address.TheVariants.{Whole}
use Rattle.packet.proofs.Sent.{address-one, header-one, received-packet}
use Rattle.receiver.specs.Cells.{one_missing, row_found}
use Rattle.receiver.specs.Effects.{Outcome, header_taken, taken, unclosed}
use Rattle.receiver.specs.Entries.{closing_number}
use Rattle.receiver.specs.Selections.{matches}
use Rattle.receiver.specs.declared.Closing.TheVariants as closing
use Rattle.receiver.specs.declared.Receiver.{Receiver}
use Rattle.receiver.specs.declared.Selection.{Selection}
use Rattle.receiver.proofs.Addressed.{late-goes-by, opens-page, other-goes-by, stores-text, zeroth-closes}
use Rattle.receiver.proofs.Carried.{Going}
use Rattle.receiver.proofs.Causes.{as_whole, OurText}
use Rattle.receiver.proofs.Changes.{opening-count, opening-doubt, opening-open, storing-doubt, storing-open}
use Rattle.receiver.proofs.Closings.{closes_clean}
use Rattle.receiver.proofs.Outcomes.{Opens, Stores}
use Rattle.demands.specs.Demands.{C, Follows, Light, Passes, Ready, Received, lightly}
use Rattle.demands.specs.Runs.{Run, character_bytes, closing_of, count_of, entry_at, kind_of, line_at, received_at, sent_at}
use Rattle.demands.proofs.Closings.{follows-here, one_header, received-here}
use Rattle.demands.proofs.Keeping.{Held, Opening, ends_is, is_end, is_row_law, opened-here, row_is}
use Rattle.demands.proofs.Through.{closing_entered, count_entered, entry-is, held-further, kind_entered, lent_at, line_within_law, mended_at, outcome_at, receiver-after, receiver_at, standing}
use Rattle.demands.proofs.Told.{kept-found}

-- ---- one line within one wrong bit

module _ (receiver : Receiver) (s r lent : List ℕ) (sent : T (sent_by_rules s)) (damaged : T (damage lightly s r)) where
  abbrev packet : List ℕ
  packet = line_packet r

  abbrev outcome : Outcome
  outcome = taken receiver packet lent

  abbrev ours : Type 0
  ours = sent_magazine s ≡ receiver.selection.magazine

  -- the address is the one that was sent
  address_is : address_of packet ≡ Ok (Whole (sent_magazine s) (sent_row s))
  address_is = address-one lightly s r sent damaged (omega arith)

  our-address : (row : ℕ) → ours → sent_row s ≡ row → address_of packet ≡ Ok (Whole receiver.selection.magazine row)
  our-address row our e = address_is ∙ (λ i. as_whole (our i) (e i))

  -- ---- a line that is not our row 0 leaves no doubt

  gone-by : outcome ≡ unclosed receiver 0 lent → Going receiver → Going outcome.receiver
  unfolding unclosed
  gone-by e going = subst (λ (o : Outcome). Going o.receiver) (sym e) going

  stored-going : ours → 1 ≤ sent_row s → sent_row s ≤ last_row → character_bytes (sent_row s) r ≡ character_bytes (sent_row s) s
      → Going receiver → Going outcome.receiver
  stored-going our first last kept going =
      let text : OurText receiver.selection.magazine (address_of packet) (sent_row s) =
      record { from = our-address (sent_row s) our refl; first = first; last = last } in
      let stores : Stores receiver packet lent outcome = stores-text receiver packet lent (sent_row s) text going.0 in (
        storing-open receiver packet lent outcome stores ∙ going.0,
        storing-doubt receiver packet lent outcome stores ∙ ap₂ ◌||◌ going.1 (kept-found lightly s r sent damaged last kept),
      )

  stays-going : (ours → sent_row s ≡ 0 → ⊥) → (ours → 1 ≤ sent_row s → sent_row s ≤ last_row → character_bytes (sent_row s) r ≡ character_bytes (sent_row s) s)
      → Going receiver → Going outcome.receiver
  stays-going not-header kept going = by (ℕ_discrete (sent_magazine s) receiver.selection.magazine) (dec_le (sent_row s) last_row)
    where
      by : Dec ours → Dec (sent_row s ≤ last_row) → Going outcome.receiver
      by (no other) high = gone-by (other-goes-by receiver packet lent (sent_magazine s) (sent_row s) address_is other) going
      by (yes our) (no late) = gone-by (late-goes-by receiver packet lent (sent_magazine s) (sent_row s) address_is (omega arith)) going
      by (yes our) (yes last) =
          let later : sent_row s ≡ 0 → ⊥ = not-header our in
          let first : 1 ≤ sent_row s = omega arith in
          stored-going our first last (kept our first last) going

  -- ---- our row 0

  module _ (our : ours) (zeroth : sent_row s ≡ 0) where
    -- closes what is open without doubt
    closes : Going receiver → outcome.closing ≡ Some closing.Clean
    closes going =
        zeroth-closes receiver packet lent (our-address 0 our zeroth) (received-packet lightly s r damaged) ∙ closes_clean receiver going.0 going.1

    -- and opens a page, where it matches
    opens : T (matches receiver.selection (sent_header s)) → Opens receiver packet lent outcome
    opens matched =
        opens-page receiver packet lent (our-address 0 our zeroth) (sent_header s) (header-one lightly s r sent damaged zeroth (omega arith))
        (passed (matches receiver.selection (sent_header s)) matched)

    none_lost : character_bytes (sent_row s) r ≡ character_bytes (sent_row s) s → one_missing (row_found 0 (text_of packet).bytes) ≡ false
    none_lost kept =
        subst (λ (n : ℕ). one_missing (row_found n (text_of packet).bytes) ≡ false) zeroth (kept-found lightly s r sent damaged (omega arith) kept)

opens_kind : (receiver : Receiver) (packet lent : List ℕ) (o : Outcome) → Opens receiver packet lent o → o.kind ≡ 2
unfolding header_taken
opens_kind receiver packet lent o opens = ap (λ (x : Outcome). x.kind) opens.gives

-- ---- from a header to the next one

module _ (run : Run) (ready : Ready run) (i j : ℕ) (matched : T (matches run.selection (sent_header (sent_at run.lines i))))
    (follows : Follows run i j) (light : Light run i j) where
  abbrev m : ℕ
  m = run.selection.magazine

  abbrev s : ℕ → List ℕ
  s k = sent_at run.lines k

  abbrev r : ℕ → List ℕ
  r k = received_at run.lines k

  abbrev before : ℕ → Receiver
  before k = receiver_at run ready k

  lines-one : (k : ℕ) → i ≤ k → k ≤ j → T (sent_by_rules (s k)) × T (damage lightly (s k) (r k))
  lines-one k low h = line_within_law lightly (line_at run.lines k) (light.single k low h)

  same-magazine : (k : ℕ) → (before k).selection.magazine ≡ m
  same-magazine k = ap (λ (x : Selection). x.magazine) (standing run ready k).selects

  in-time : i ≤ j
  in-time = omega (arith, follows.before)

  -- ---- at line i

  sent-i : T (sent_by_rules (s i))
  sent-i = (lines-one i (omega arith) in-time).0

  damaged-i : T (damage lightly (s i) (r i))
  damaged-i = (lines-one i (omega arith) in-time).1

  our-first : sent_magazine (s i) ≡ (before i).selection.magazine
  our-first = (row_is m 0 (s i) follows.header).0 ∙ sym (same-magazine i)

  zeroth : sent_row (s i) ≡ 0
  zeroth = (row_is m 0 (s i) follows.header).1

  opening : Opens (before i) (line_packet (r i)) (lent_at run ready i) (outcome_at run ready i)
  opening =
      opens (before i) (s i) (r i) (lent_at run ready i) sent-i damaged-i our-first zeroth
      (subst (λ (x : Selection). T (matches x (sent_header (s i)))) (sym (standing run ready i).selects) matched)

  sure-opening : (outcome_at run ready i).receiver.doubt ≡ false
  sure-opening =
      opening-doubt (before i) (line_packet (r i)) (lent_at run ready i) (outcome_at run ready i) opening
      ∙ none_lost (before i) (s i) (r i) (lent_at run ready i) sent-i damaged-i our-first zeroth light.header_kept

  going-i : Going (outcome_at run ready i).receiver
  going-i = (opening-open (before i) (line_packet (r i)) (lent_at run ready i) (outcome_at run ready i) opening, sure-opening)

  kind-i : kind_of (entry_at run i) ≡ 2
  kind-i =
      ap kind_of (entry-is run ready lightly i sent-i damaged-i)
      ∙ (kind_entered (outcome_at run ready i) (mended_at run ready i) ∙ opens_kind (before i) (line_packet (r i)) (lent_at run ready i) (outcome_at run ready i) opening)

  -- ---- what is held from there on, without doubt

  abbrev Keeps : ℕ → Type 0
  Keeps k = Going (before k) × Held run k (before k)

  keeps-first : Keeps (suc i)
  keeps-first =
      subst (λ (x : Receiver). Going x × Held run (suc i) x) (sym (receiver-after run ready lightly i sent-i damaged-i)) (
        going-i,
        (λ going. (
          i,
          opened-here run i (before i) (lent_at run ready i) (standing run ready i).selects (standing run ready i).sized lightly (omega arith)
              sent-i damaged-i kind-i opening going,
        )),
      )

  going-further : (k : ℕ) → i < k → k < j → Going (before k) → Going (before (suc k))
  going-further k low high going =
      let (sent, damaged) = lines-one k (omega arith) (omega arith) in
      subst Going (sym (receiver-after run ready lightly k sent damaged))
      (stays-going (before k) (s k) (r k) (lent_at run ready k) sent damaged
      (λ our zeroth. follows.none_between k low high (is_end m (s k) (our ∙ same-magazine k) zeroth))
      (λ our first last.
      light.rows_kept (sent_row (s k)) k first last low high (is_row_law m (sent_row (s k)) (s k) (our ∙ same-magazine k) refl))
      going)

  keeps-further : (k : ℕ) → i < k → k < j → Keeps k → Keeps (suc k)
  keeps-further k low high keeps =
      let (sent, damaged) = lines-one k (omega arith) (omega arith) in
      (going-further k low high keeps.0, held-further run ready lightly k (omega arith) sent damaged keeps.1)

  keeps-at : (k : ℕ) → i < k → k ≤ j → Keeps k
  keeps-at zero low high = absurd (omega arith)
  keeps-at (suc k) low high = by (ℕ_discrete k i) (λ further. keeps-at k further (omega arith))
    where
      by : Dec (k ≡ i) → (i < k → Keeps k) → Keeps (suc k)
      by (yes e) earlier = subst (λ (n : ℕ). Keeps (suc n)) (sym e) keeps-first
      by (no d) earlier = keeps-further k (omega arith) high (earlier (omega arith))

  -- ---- at line j

  sent-j : T (sent_by_rules (s j))
  sent-j = (lines-one j in-time (omega arith)).0

  damaged-j : T (damage lightly (s j) (r j))
  damaged-j = (lines-one j in-time (omega arith)).1

  keeps-j : Keeps j
  keeps-j = keeps-at j follows.before (omega arith)

  closing-clean : (outcome_at run ready j).closing ≡ Some closing.Clean
  closing-clean =
      let (ours, zeroth) = ends_is m (s j) follows.next in
      closes (before j) (s j) (r j) (lent_at run ready j) sent-j damaged-j (ours ∙ sym (same-magazine j)) zeroth keeps-j.0

  word-j : closing_of (entry_at run j) ≡ closing_number (Some closing.Clean)
  word-j = ap closing_of (entry-is run ready lightly j sent-j damaged-j) ∙ (closing_entered (outcome_at run ready j) (mended_at run ready j) ∙ ap closing_number closing-clean)

  -- line i is the one that opened the page
  opened-by-i : Opening run j (before j) i
  opened-by-i =
      let (k, other) = keeps-j.1 keeps-j.0 in
      let same : k ≡ i = one_header run i k j follows (follows-here run ready j lightly (omega arith) sent-j damaged-j word-j k other) in
      subst (Opening run j (before j)) same other

  received : Received run j i
  received = received-here run ready j lightly (omega arith) sent-j damaged-j word-j i opened-by-i sent-i

  passes : Passes run i j
  passes =
      record {
        kind = kind-i;
        count =
            ap count_of (entry-is run ready lightly i sent-i damaged-i)
            ∙ (count_entered (outcome_at run ready i) (mended_at run ready i)
            ∙ opening-count (before i) (line_packet (r i)) (lent_at run ready i) (outcome_at run ready i) opening sure-opening);
        word = word-j;
        reads = received.reads;
        holds = received.holds;
      }

pub proof_c : C
proof_c run ready i j matched follows light = passes run ready i j matched follows light
