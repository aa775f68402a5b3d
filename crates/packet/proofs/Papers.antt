-- The answers can be told apart by the paper's numbers and values: each is read back from them.
use mathlib.Core.Path.{◌≡◌, refl, sym, ◌∙◌}
use mathlib.Core.Bool.{cond}
use mathlib.Core.List.{List}
use mathlib.Core.Option.{Option, none, some}
use Prim.Native.Nat.{ℕ}
use lib.Dec.{eqb}
use lib.ListN.{length, get_or}
use Rattle.std.specs.Prelude.{Result, Ok, Err}
use Rattle.laws.specs.Paper.{Paper}
use Rattle.laws.proofs.Inverse.{told_apart}
use Rattle.packet.specs.Addresses.{address_paper}
use Rattle.packet.specs.Headers.{header_paper}
use Rattle.packet.specs.Lines.{wrong_length}
use Rattle.packet.specs.Texts.{text_bytes, text_paper}
use Rattle.packet.specs.declared.Address.{Address}
use Rattle.packet.specs.declared.Address.TheVariants as address
use Rattle.packet.specs.declared.Header.{Header}
use Rattle.packet.specs.declared.HeaderError.{HeaderError}
use Rattle.packet.specs.declared.HeaderError.TheVariants as header
use Rattle.packet.specs.declared.WrongLength.{WrongLength}

abbrev to_address : Option ℕ → List ℕ → Result Address WrongLength
to_address none values =
    Ok (cond (eqb (length values) 2) (address.First (get_or values 0 0) (get_or values 1 0))
    (cond (eqb (length values) 1) (address.Second (get_or values 0 0)) address.Unread))
to_address (some n) values = cond (eqb n 0) (Ok (address.Whole (get_or values 0 0) (get_or values 1 0))) (Err wrong_length)

address_back : (a : Result Address WrongLength) → to_address (address_paper a).number (address_paper a).values ≡ a
unfolding address_paper
address_back (Ok (address.Whole magazine row)) = refl
address_back (Ok (address.First magazine weight1)) = refl
address_back (Ok (address.Second second)) = refl
address_back (Ok address.Unread) = refl
address_back (Err _) = refl

pub address_is : (a b : Result Address WrongLength) → address_paper a ≡ address_paper b → a ≡ b
address_is = told_apart address_paper (λ (p : Paper). to_address p.number p.values) address_back

abbrev to_header : List ℕ → Header
to_header values =
    record {
      tens = get_or values 0 0;
      units = get_or values 1 0;
      hours_tens = get_or values 2 0;
      hours_units = get_or values 3 0;
      minutes_tens = get_or values 4 0;
      minutes_units = get_or values 5 0;
      control = get_or values 6 0;
    }

abbrev to_header_read : Option ℕ → List ℕ → Result Header HeaderError
to_header_read none values = Err header.Spoiled
to_header_read (some n) values = cond (eqb n 0) (Ok (to_header values)) (Err header.WrongLength)

header_back : (h : Result Header HeaderError) → to_header_read (header_paper h).number (header_paper h).values ≡ h
unfolding header_paper
header_back (Ok h) = refl
header_back (Err header.Spoiled) = refl
header_back (Err header.WrongLength) = refl

pub header_read_is : (a b : Result Header HeaderError) → header_paper a ≡ header_paper b → a ≡ b
header_read_is = told_apart header_paper (λ (p : Paper). to_header_read p.number p.values) header_back

-- a text is read back from the paper's number and its bytes
abbrev to_text_read : Option ℕ → List ℕ → Result (List ℕ) WrongLength
to_text_read none bytes = Err wrong_length
to_text_read (some n) bytes = cond (eqb n 0) (Ok bytes) (Err wrong_length)

text_back : (t : Result (List ℕ) WrongLength) → to_text_read (text_paper t).number (text_bytes t) ≡ t
unfolding text_paper
text_back (Ok bytes) = refl
text_back (Err _) = refl

pub text_read_is : (a b : Result (List ℕ) WrongLength) → text_paper a ≡ text_paper b → text_bytes a ≡ text_bytes b → a ≡ b
text_read_is a b e f = sym (text_back a) ∙ ((λ i. to_text_read (e i).number (f i)) ∙ text_back b)
