-- A line as it is made: what was put behind nothing, or behind the start of a refusal, and how long it is at most.
use Rattle.std.proofs.Common.{◌≡◌, ℕ, ◌^◌, ◌<◌, ◌≤◌, List, [], ◌∷◌, ◌++◌, length, sym, ◌∙◌, ap, arith, length-append}
use Rattle.texts.specs.Held.{Adds}
use Rattle.texts.specs.declared.Text.{Text}
use Rattle.texts.proofs.Decimal.{word_digits}
use Rattle.texts.proofs.Held.{adds-first, held_used}
use Rattle.listing.specs.Lines.{end_text, refused_text, unit_text}
use Rattle.listing.specs.Held.{line_of, room}
use Rattle.listing.specs.Private.{Written}

pub used_fits : {line : Text room} {text : List ℕ} → Written line text → line.used ≤ room
used_fits {text = text} w = let used = held_used room text w.is in let fits = w.fits in omega arith

module _ {before line : Text room} (text : List ℕ) where
  pub written : before ≡ line_of [] → Adds before text line → length text ≤ room → Written line text
  written is adds fits = record { is = adds-first text is adds fits; fits = fits }

  -- behind another text
  pub written_behind : {whole : List ℕ} (front : List ℕ) → before ≡ line_of front → Adds before text line → whole ≡ front ++ text → length whole ≤ room → Written line whole
  written_behind front is adds same fits =
      let all = ap length same in
      record { is = adds.holds front is (omega (arith, length-append front text)) ∙ ap line_of (sym same); fits = fits }

-- ---- how long

module _ (place : ℕ) (word : place < 2 ^ 64) where
  pub end_length : length (end_text place) ≤ room
  unfolding end_text
  end_length = let digits = word_digits place word in simp length-append (omega arith)

  pub refused_length : (number : ℕ) → number < 2 ^ 64 → length (refused_text number (place ∷ [])) ≤ room
  unfolding refused_text
  refused_length number small = let first = word_digits number small in let digits = word_digits place word in simp length-append (omega arith)

  pub unit_length : (id size : ℕ) → id < 2 ^ 64 → size < 2 ^ 64 → length (unit_text place id size) ≤ room
  unfolding unit_text
  unit_length id size small few =
      let first = word_digits place word in
      let second = word_digits id small in
      let third = word_digits size few in
      simp length-append (omega arith)
