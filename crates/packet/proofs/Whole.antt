-- What the definitions give of a line of 45 bytes and of a packet of 42, and what each answer shows of them.
use mathlib.Core.Path.{◌≡◌, refl, ◌∙◌, ap, sym}
use mathlib.Core.Bool.{Bool, true, false, cond}
use mathlib.Core.List.{List, []}
use mathlib.Core.Option.{Option, none, some}
use Prim.Native.Nat.{ℕ}
use borrow.Author.Tests.{eq-eqb, eqb-true}
use lib.Dec.{eqb}
use Rattle.std.specs.Prelude.{⊤, Result, Ok, Err}
use lib.ListN.{length, get_or}
use Rattle.laws.specs.Paper.{Paper, accepted}
use Rattle.laws.proofs.Inverse.{told_apart}
use Rattle.coding.specs.Bits.{framing_passes}
use Rattle.packet.specs.Lines.{framed, framed_paper, framing_place, line_length, packet_length, packet_of, packet_part}
use Rattle.packet.specs.Texts.{column_bytes, text_of}
use Rattle.packet.specs.declared.LineError.{LineError}
use Rattle.packet.specs.declared.LineError.TheVariants.{WrongLength, WrongFraming}

-- ---- lines

-- an answer by its number
abbrev by_number : Option ℕ → Result ⊤ LineError
by_number none = Err WrongLength
by_number (some n) = cond (eqb n 0) (Ok tt) (cond (eqb n 10) (Err WrongLength) (Err WrongFraming))

framed_back : (f : Result ⊤ LineError) → by_number (framed_paper f).number ≡ f
unfolding framed_paper
framed_back (Ok _) = refl
framed_back (Err WrongLength) = refl
framed_back (Err WrongFraming) = refl

pub framed_is : (f g : Result ⊤ LineError) → framed_paper f ≡ framed_paper g → f ≡ g
framed_is = told_apart framed_paper (λ (p : Paper). by_number p.number) framed_back

-- only a line of 45 bytes has a packet
whole_if : (b framing : Bool) → ◌≡◌ {A = Result ⊤ LineError} (cond b (cond framing (Ok tt) (Err WrongFraming)) (Err WrongLength)) (Ok tt) → b ≡ true
whole_if true framing e = refl
whole_if false framing e = cc

pub whole_line : (line : List ℕ) → framed line ≡ Ok tt → length line ≡ line_length
unfolding framed
whole_line line e = eqb-true (length line) line_length (whole_if (eqb (length line) line_length) (framing_passes (get_or line framing_place 0)) e)

refused_part : (e : LineError) (line : List ℕ) → packet_part (Err e) line ≡ []
unfolding packet_part
refused_part WrongLength line = refl
refused_part WrongFraming line = refl

-- what an answer shows of the line
module _ (line : List ℕ) (f : Result ⊤ LineError) (answer : framed_paper f ≡ framed_paper (framed line)) where
  pub answer-whole : f ≡ Ok tt → length line ≡ line_length
  answer-whole e = whole_line line (sym (framed_is f (framed line) answer) ∙ e)

  pub answer-packet : (g : Result ⊤ LineError) → f ≡ g → packet_part g line ≡ packet_of line
  unfolding packet_of
  answer-packet g e = ap (λ (x : Result ⊤ LineError). packet_part x line) (sym e ∙ framed_is f (framed line) answer)

  pub answer-refused : (e : LineError) → f ≡ Err e → [] ≡ packet_of line
  answer-refused e is = sym (refused_part e line) ∙ answer-packet (Err e) is

-- ---- the columns

pub whole_text : (packet : List ℕ) → length packet ≡ packet_length → text_of packet ≡ record { answer = accepted []; bytes = column_bytes packet }
unfolding text_of
whole_text packet e = rw (eq-eqb _ _ e)
