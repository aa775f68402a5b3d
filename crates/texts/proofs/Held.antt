-- A text in a room of its own: what is held of it, and one more text behind it.
use Rattle.std.proofs.Common.{◌≡◌, ℕ, ◌+◌, ◌-◌, ◌≤◌, List, [], ◌++◌, length, replicate, refl, sym, ◌∙◌, ap, arith, append_assoc, append-nil, length-append}
use Rattle.std.proofs.Math.Seq.{drop-append-add, take-append_seam}
use Rattle.std.proofs.lemmas.List.{drop-replicate}
use borrow.Author.Tests.{le-ltb}
use Rattle.laws.specs.Text.{padded}
use Rattle.laws.proofs.Padded.{padded-length, padded-text}
use Rattle.texts.specs.Held.{Adds, added, held, text_of}
use Rattle.texts.specs.Put.{laid_at}
use Rattle.texts.specs.declared.Text.{Text}

module _ (room : ℕ) (text : List ℕ) where
  -- one more text behind it
  laid_behind : (more : List ℕ) → laid_at (padded room text) (length text) more ≡ padded room (text ++ more)
  laid_behind more =
      let zeros : List ℕ = replicate (room - length text) 0 in
      let left : room - length text - length more ≡ room - length (text ++ more) = omega (arith, length-append text more) in
      rw (take-append_seam text zeros, drop-append-add text zeros (length more), drop-replicate {X = ℕ} (length more) (room - length text) 0, left) refl

  pub held_added : (more : List ℕ) → length text + length more ≤ room → added (held room text) more ≡ held room (text ++ more)
  unfolding added held
  held_added more h =
      let whole = padded-length room text (omega arith) in
      rw (whole, le-ltb room (length text + length more) h, laid_behind more, length-append text more) refl

  pub held_more : (more : List ℕ) {before after : Text room} → after ≡ added before more → before ≡ held room text → length text + length more ≤ room
      → after ≡ held room (text ++ more)
  held_more more put is h = put ∙ (ap (λ (t : Text room). added t more) is ∙ held_added more h)

  -- what a text that is held reads as
  pub text_of_law : text_of (held room text) ≡ text
  unfolding held
  text_of_law = padded-text room text

  -- what is promised of a text that is held
  module _ {kept : Text room} (is : kept ≡ held room text) where
    pub held_text : text_of kept ≡ text
    unfolding held
    held_text = ap (λ (t : Text room). text_of t) is ∙ padded-text room text

    pub held_used : kept.used ≡ length text
    unfolding held
    held_used = ap (λ (t : Text room). t.used) is

    pub held_fits : length text ≤ room → (length kept.bytes ≡ room) × (kept.used ≤ room)
    unfolding held
    held_fits h = let used = held_used in (ap (λ (t : Text room). length t.bytes) is ∙ padded-length room text h, omega arith)

-- ---- texts put behind one another

module _ {room : ℕ} where
  pub adds_none : (kept : Text room) → Adds kept [] kept
  adds_none kept = record { holds = λ text is fits. is ∙ ap (held room) (sym (append-nil text)) }

  pub adds_put : {before after : Text room} (more : List ℕ) → after ≡ added before more → Adds before more after
  adds_put more put = record { holds = λ text is fits. held_more room text more put is fits }

  pub adds_then : {before between after : Text room} {text more : List ℕ} → Adds before text between → Adds between more after → Adds before (text ++ more) after
  adds_then {text = text} {more = more} first second =
      record {
        holds = λ front is fits.
            let both = length-append text more in
            let here = length-append front text in
            second.holds (front ++ text) (first.holds front is (omega arith)) (omega arith) ∙ ap (held room) (append_assoc front text more);
      }

  -- put behind nothing
  pub adds-first : {before after : Text room} (text : List ℕ) → before ≡ held room [] → Adds before text after → length text ≤ room → after ≡ held room text
  adds-first text is adds fits = adds.holds [] is (omega arith)
