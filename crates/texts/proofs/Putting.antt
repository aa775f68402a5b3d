-- Texts put into a room, one behind the other.
use mathlib.Core.Path.{◌≡◌, sym, ◌∙◌, ap, subst}
use mathlib.Core.Bool.{Bool, cond}
use mathlib.Core.List.{List, [], ◌++◌, append_assoc, append-nil}
use Prim.Native.Nat.{ℕ, ◌+◌, ◌≤◌}
use native.Mathlib.Nat.{add-zero}
use native.Mathlib.Omega.{arith}
use borrow.Author.Tests.{le-ltb}
use lib.ListN.{length, take, drop, length-append, take-append-drop}
use lib.Seq.{drop_at, drop-drop, length-take-le, take_all, take_at, paste, length-paste}
use Rattle.texts.specs.Put.{Puts, PutsWhole, laid_at}

-- the same text
pub as_text : {text same room : List ℕ} {at : ℕ} {after : List ℕ} {end : ℕ} → Puts text room at after end → text ≡ same → Puts same room at after end
as_text {room = room} {at = at} {after = after} {end = end} p e = subst (λ (t : List ℕ). Puts t room at after end) e p

-- nothing put
pub put_none : (room : List ℕ) (at : ℕ) → Puts [] room at room at
put_none room at =
    record {
      laid = sym (ap (λ (k : ℕ). (take at room ++ []) ++ drop k room) (add-zero at) ∙ (ap (λ (front : List ℕ). front ++ drop at room) (append-nil (take at room)) ∙ take-append-drop at room));
      ends = sym (add-zero at);
    }

-- a copy of a whole text
pub pasted : (room : List ℕ) (at : ℕ) (text : List ℕ) → paste room at text (length text) ≡ laid_at room at text
pasted room at text = ap (λ (t : List ℕ). (take at room ++ t) ++ drop (at + length text) room) (take_all (length text) text (omega arith))

pub put_pasted : (room : List ℕ) (at : ℕ) (text : List ℕ) (count : ℕ) → count ≡ length text → Puts text room at (paste room at text count) (at + count)
put_pasted room at text count all =
    record { laid = ap (paste room at text) all ∙ pasted room at text; ends = ap (λ (n : ℕ). at + n) all }

module _ {text room : List ℕ} {at : ℕ} {after : List ℕ} {end : ℕ} (p : Puts text room at after end) (fits : at + length text ≤ length room) where
  -- it leaves the room its length
  pub same_room : length after ≡ length room
  same_room = ap length (p.laid ∙ sym (pasted room at text)) ∙ length-paste room at text (length text) fits (omega arith)

  front_length : length (take at room ++ text) ≡ at + length text
  front_length = length-append (take at room) text ∙ ap (λ (n : ℕ). n + length text) (length-take-le at room (omega arith))

  -- and then another text behind it
  pub put_then : {more after' : List ℕ} {end' : ℕ} → Puts more after end after' end' → Puts (text ++ more) room at after' end'
  put_then {more} q =
      let front = take at room ++ text in
      let here = at + length text in
      let whole : here + length more ≡ at + length (text ++ more) = let both = length-append text more in omega arith in
      record {
        laid =
            q.laid
            ∙ (ap (λ (k : ℕ). (take k after ++ more) ++ drop (k + length more) after) p.ends
            ∙ (ap (λ (r : List ℕ). (take here r ++ more) ++ drop (here + length more) r) p.laid
            ∙ (ap (λ (t : List ℕ). (t ++ more) ++ drop (here + length more) (laid_at room at text)) (take_at front (drop here room) here front_length)
            ∙ (ap (λ (t : List ℕ). (front ++ more) ++ t)
            (sym (drop-drop (length more) here (laid_at room at text)) ∙ (ap (drop (length more)) (drop_at front (drop here room) here front_length) ∙ drop-drop (length more) here room))
            ∙ (ap (λ (t : List ℕ). t ++ drop (here + length more) room) (append_assoc (take at room) text more)
            ∙ ap (λ (k : ℕ). (take at room ++ (text ++ more)) ++ drop k room) whole)))));
        ends = q.ends ∙ (ap (λ (n : ℕ). n + length more) p.ends ∙ whole);
      }

-- ---- a text that is put whole or not at all

module _ {text room : List ℕ} {at : ℕ} where
  pub put-fits : at + length text ≤ length room → {after : List ℕ} {end : ℕ} → PutsWhole text room at after end → Puts text room at after end
  put-fits h p =
      let fits = le-ltb (length room) (at + length text) h in
      record {
        laid = p.laid ∙ ap (λ (b : Bool). cond b room (laid_at room at text)) fits;
        ends = p.ends ∙ ap (λ (b : Bool). cond b at (at + length text)) fits;
      }
