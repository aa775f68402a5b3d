-- A letter's form, stored byte by byte; and a text, letter by letter.
use mathlib.Core.Path.{◌≡◌, refl, sym, ◌∙◌, ap}
use mathlib.Core.List.{List, [], ◌∷◌, ◌++◌, map, map-append}
use Prim.Native.Nat.{ℕ, zero, suc, ◌+◌, ◌-◌, ◌*◌, ◌<◌, ◌≤◌}
use native.Mathlib.Nat.{add-zero}
use native.Mathlib.Numerals.{add-one}
use native.Mathlib.Omega.{arith}
use borrow.Author.Tests.{le-ltb}
use lib.ListN.{length, get_or, set, take, replicate, get_or-append, length-append}
use lib.Seq.{paste, paste-suc, paste-zero, take-suc}
use Rattle.texts.specs.Held.{added, held}
use Rattle.texts.specs.Put.{Puts}
use Rattle.texts.specs.declared.Text.{Text}
use Rattle.texts.proofs.Held.{held_fits, held_more, held_used}
use Rattle.texts.proofs.Putting.{put_pasted}
use Rattle.letters.specs.Sets.{letter_in, letter_of, option_of, set_for}
use Rattle.letters.specs.Utf8.{form_held, most_bytes, most_of_letters, utf8, utf8_text}
use Rattle.letters.proofs.AllSets.{over_all_sets, some_bytes}
use Rattle.letters.proofs.Writing.{text_more}
use Rattle.printing.specs.Letters.{utf8_page_size}
use Rattle.printing.specs.Pages.{page_size}
use Rattle.printing.specs.Private.{Spells}

-- so many bytes past a place
abbrev pub past : ℕ → ℕ → ℕ
past at zero = at
past at (suc count) = at + suc count

past_is : (at count : ℕ) → past at count ≡ at + count
past_is at zero = sym (add-zero at)
past_is at (suc count) = refl

module _ (text : List ℕ) (at : ℕ) (form : List ℕ) {form_is : Text most_bytes} (is : form_is ≡ form_held form) where
  -- the text after so many bytes of what is held
  unfoldable pub stored : ℕ → List ℕ
  stored zero = text
  stored (suc count) = set (stored count) (past at count) (get_or form_is.bytes count 0)

  byte-is : (k : ℕ) → k < length form → get_or form_is.bytes k 0 ≡ get_or form k 0
  unfolding held
  byte-is k h = ap (λ (f : Text most_bytes). get_or f.bytes k 0) is ∙ get_or-append form (replicate (most_bytes - length form) 0) 0 k h

  so_far : (count : ℕ) → count ≤ length form → at + count ≤ length text → stored count ≡ paste text at form count
  unfolding stored
  so_far zero h room = paste-zero text at form
  so_far (suc count) h room =
      rw (so_far count (omega arith) (omega arith), past_is at count, byte-is count (omega arith)) (paste-suc text at form count 0 (omega arith) (omega arith))

  pub all-stored : (count : ℕ) → count ≡ form_is.used → at + count ≤ length text → Puts form text at (stored count) (at + count)
  unfolding held
  all-stored count e room =
      let all = e ∙ ap (λ (f : Text most_bytes). f.used) is in
      rw (so_far count (omega arith) room) (put_pasted text at form count all)

-- ---- letter by letter

-- the letters of every page have a form, of few bytes
pub spells : (control : ℕ) → Spells (set_for (option_of control))
unfolding letter_of
spells control code h = (some_bytes control code h, over_all_sets.short control code h)

-- a text's first bytes in some set
abbrev pub spelled_to : List ℕ → List ℕ → ℕ → List ℕ
spelled_to set text count = utf8_text (map (letter_in set) (take count text))

-- one more text put behind it, where there is room for it
put_added : {room : ℕ} (text : Text room) {more after : List ℕ} {end : ℕ} → Puts more text.bytes text.used after end
    → text.used + length more ≤ length text.bytes → record { bytes = after; used = end } ≡ added text more
unfolding added
put_added text {more} p h = rw (le-ltb (length text.bytes) (text.used + length more) h, p.laid, p.ends)

module _ (set text : List ℕ) where
  spelled-more : (i : ℕ) → i < length text → spelled_to set text i ++ utf8 (letter_in set (get_or text i 0)) ≡ spelled_to set text (i + 1)
  spelled-more i h =
      sym (text_more (map (letter_in set) (take i text)) (letter_in set (get_or text i 0)))
      ∙ ap utf8_text (sym (map-append (letter_in set) (take i text) (get_or text i 0 ∷ [])) ∙ ap (map (letter_in set)) (sym (take-suc text i 0 h) ∙ ap (λ (n : ℕ). take n text) (sym (add-one i))))

  -- what the loop knows after so many of them
  pub record Spelled (bytes : List ℕ) (used i : ℕ) : Type 0 where
    pub is : record { bytes = bytes; used = used } ≡ held utf8_page_size (spelled_to set text i)
    pub short : length (spelled_to set text i) ≤ most_of_letters * i

  pub none_yet : Spelled (replicate utf8_page_size 0) 0 0
  unfolding held utf8_text
  none_yet = record { is = refl; short = omega arith }

  module _ {bytes : List ℕ} {used i : ℕ} (so_far-spelled : Spelled bytes used i) where
    pub room-whole : most_of_letters * i ≤ utf8_page_size → (length bytes ≡ utf8_page_size) × (used ≤ utf8_page_size)
    room-whole h =
        let short = so_far-spelled.short in
        held_fits utf8_page_size (spelled_to set text i) so_far-spelled.is (omega arith)

    pub room-left : i < page_size → used + most_of_letters ≤ length bytes
    room-left h =
        let short = so_far-spelled.short in
        let counted = held_used utf8_page_size (spelled_to set text i) so_far-spelled.is in
        let whole = (room-whole (omega arith)).0 in
        omega arith

    pub one_more : i < length text → length text ≡ page_size → {after : List ℕ} {end : ℕ}
        → Puts (utf8 (letter_in set (get_or text i 0))) bytes used after end → length (utf8 (letter_in set (get_or text i 0))) ≤ most_of_letters → Spelled after end (i + 1)
    one_more h whole {after} {end} p few =
        let letter : List ℕ = utf8 (letter_in set (get_or text i 0)) in
        let short = so_far-spelled.short in
        let left = room-left (omega arith) in
        let room = (room-whole (omega arith)).0 in
        let both = length-append (spelled_to set text i) letter in
        let put = put_added (record { bytes = bytes; used = used }) p (omega arith) in
        let same = spelled-more i h in
        let longer = ap length (sym same) ∙ both in
        record {
          is = held_more utf8_page_size (spelled_to set text i) letter put so_far-spelled.is (omega arith) ∙ ap (held utf8_page_size) same;
          short = omega arith;
        }
