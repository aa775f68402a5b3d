-- The lines of the wanted rows, stored one after the other behind the header's.
use mathlib.Core.Path.{◌≡◌, refl, sym, ap, ◌∙◌}
use mathlib.Core.Bool.{Bool, true, false, cond}
use mathlib.Core.List.{List, [], ◌∷◌, ◌++◌, map, append_assoc, append-nil}
use Prim.Native.Nat.{ℕ, suc, ◌+◌, ◌*◌, ◌≤◌, ◌<◌}
use native.Mathlib.Numerals.{add-one}
use native.Mathlib.Omega.{arith}
use mir.Val.{bool_byte}
use lib.ListN.{length, get_or, take, drop, length-append, length-drop, take-append-drop}
use lib.Seq.{drop_at, drop-drop, length-take-le, take_at}
use Rattle.packet.specs.Lines.{line_length}
use Rattle.sending.specs.Private.{line_stored, rows_stored, stored_if}
use Rattle.sending.specs.Sending.{bytes_needed, chosen_rows, end_to_end, line_count}
use Rattle.sending.proofs.Next.{chosen_after, next_choice, next_count, none_after, none_left}

-- between two rows: the lines of those before are stored, and those of the others are to come; what lies behind is as it was
pub record Storing (line : ℕ → List ℕ) (wanted : List Bool) (before : List ℕ) (done count : ℕ) (room : List ℕ) : Type 0 where
  pub size : length room ≡ length before
  pub counted : count + length (chosen_after wanted done) ≡ line_count wanted
  pub written : take (count * line_length) room ++ end_to_end (map line (chosen_after wanted done))
      ≡ take line_length before ++ end_to_end (map line (chosen_rows wanted))
  pub kept : drop (count * line_length) room ≡ drop (count * line_length) before

module _ (line : ℕ → List ℕ) (wanted : List Bool) (before : List ℕ) (enough : bytes_needed wanted ≤ length before) where
  -- at first the header's line alone is there
  pub storing-first : Storing line wanted before 0 1 before
  unfolding chosen_rows line_count
  storing-first = record { size = refl; counted = omega arith; written = refl; kept = refl }

  module _ (done count : ℕ) (room : List ℕ) (storing : Storing line wanted before done count room) where
    -- where a row is wanted there is room for its line
    pub next_fits : done < length wanted → get_or wanted done false ≡ true → count * line_length + line_length ≤ length room
    unfolding bytes_needed
    next_fits h is-wanted =
        let more : length (chosen_after wanted done) ≡ bool_byte true + length (chosen_after wanted (suc done)) =
        next_count wanted done h ∙ ap (λ (b : Bool). bool_byte b + length (chosen_after wanted (suc done))) is-wanted in
        omega (arith, more, storing.counted, storing.size, enough)

    module _ (whole : length (line (suc done)) ≡ line_length) (fits : count * line_length + line_length ≤ length room) where
      abbrev place : ℕ
      place = count * line_length

      abbrev stored : List ℕ
      stored = line_stored (line (suc done)) count room

      length_front : length (take place room ++ line (suc done)) ≡ (count + 1) * line_length
      length_front =
          length-append (take place room) (line (suc done))
          ∙ omega (arith, length-take-le place room (omega (arith, fits)), whole)

      written-front : take ((count + 1) * line_length) stored ≡ take place room ++ line (suc done)
      written-front = take_at (take place room ++ line (suc done)) (drop (place + line_length) room) ((count + 1) * line_length) length_front

      kept-behind : drop ((count + 1) * line_length) stored ≡ drop (place + line_length) room
      kept-behind = drop_at (take place room ++ line (suc done)) (drop (place + line_length) room) ((count + 1) * line_length) length_front

      length-stored : length stored ≡ length room
      length-stored =
          length-append (take place room ++ line (suc done)) (drop (place + line_length) room)
          ∙ omega (arith, length_front, length-drop (place + line_length) room, fits)

    -- a row that is not wanted leaves all as it is
    next-no : chosen_after wanted done ≡ chosen_after wanted (suc done) → Storing line wanted before (suc done) count room
    next-no same =
        record {
          size = storing.size;
          counted = ap (λ (rows : List ℕ). count + length rows) (sym same) ∙ storing.counted;
          written = ap (λ (rows : List ℕ). take (count * line_length) room ++ end_to_end (map line rows)) (sym same) ∙ storing.written;
          kept = storing.kept;
        }

    -- one that is wanted is the next line
    next-yes : chosen_after wanted done ≡ suc done ∷ chosen_after wanted (suc done) → length (line (suc done)) ≡ line_length
        → count * line_length + line_length ≤ length room → Storing line wanted before (suc done) (count + 1) (line_stored (line (suc done)) count room)
    unfolding end_to_end
    next-yes first whole fits =
        let rest : List ℕ = end_to_end (map line (chosen_after wanted (suc done))) in
        let front : List ℕ = take (count * line_length) room in
        let one_further : count * line_length + line_length ≡ (count + 1) * line_length = omega arith in
        let length-first : length (chosen_after wanted done) ≡ suc (length (chosen_after wanted (suc done))) = ap (λ (rows : List ℕ). length rows) first in
        record {
          size = length-stored whole fits ∙ storing.size;
          counted = omega (arith, length-first, storing.counted);
          written =
              ap (λ (xs : List ℕ). xs ++ rest) (written-front whole fits)
              ∙ (append_assoc front (line (suc done)) rest
              ∙ (ap (λ (rows : List ℕ). front ++ end_to_end (map line rows)) (sym first) ∙ storing.written));
          kept =
              kept-behind whole fits
              ∙ (sym (drop-drop line_length (count * line_length) room)
              ∙ (ap (drop line_length) storing.kept
              ∙ (drop-drop line_length (count * line_length) before ∙ ap (λ (n : ℕ). drop n before) one_further)));
        }

    next-by : (answer : Bool) → chosen_after wanted done ≡ cond answer (suc done ∷ chosen_after wanted (suc done)) (chosen_after wanted (suc done))
        → length (line (suc done)) ≡ line_length → (answer ≡ true → count * line_length + line_length ≤ length room)
        → Storing line wanted before (suc done) (cond answer (count + 1) count) (stored_if answer (line (suc done)) count room)
    next-by true first whole fits = next-yes first whole (fits refl)
    next-by false same whole fits = next-no same

    pub storing-next : done < length wanted → length (line (suc done)) ≡ line_length
        → Storing line wanted before (suc done) (cond (get_or wanted done false) (count + 1) count) (stored_if (get_or wanted done false) (line (suc done)) count room)
    storing-next h whole = next-by (get_or wanted done false) (next_choice wanted done h) whole (next_fits h)

    -- at the end all lines are there, and the rest of the room is as it was
    pub storing-last : length wanted ≤ done → room ≡ rows_stored line wanted before
    unfolding rows_stored bytes_needed end_to_end
    storing-last h =
        let none : chosen_after wanted done ≡ [] = none_after wanted done h in
        let all : count ≡ line_count wanted = omega (arith, none_left wanted done h, storing.counted) in
        sym (take-append-drop (count * line_length) room)
        ∙ (λ i.
        (sym (append-nil (take (count * line_length) room)) ∙ (ap (λ (rows : List ℕ). take (count * line_length) room ++ end_to_end (map line rows)) (sym none) ∙ storing.written)) i
        ++ (storing.kept ∙ ap (λ (n : ℕ). drop (n * line_length) before) all) i)

    -- the same of what was answered and left
    pub storing-further : done < length wanted → length (line (suc done)) ≡ line_length → (result : ℕ) (after : List ℕ)
        → result ≡ cond (get_or wanted done false) (count + 1) count → after ≡ stored_if (get_or wanted done false) (line (done + 1)) count room
        → Storing line wanted before (done + 1) result after
    storing-further h whole result after answered left =
        rw (answered, left, add-one done) (storing-next h whole)
