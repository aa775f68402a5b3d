-- Any two answers that meet a public function's contract are equal, and so is what they leave in the lent room, said of the generated contracts.
use mathlib.Core.Path.{◌≡◌, refl, ◌∙◌, sym}
use mathlib.Core.Bool.{cond}
use mathlib.Core.List.{List}
use mathlib.Core.Option.{Option, none, some}
use Prim.Native.Nat.{ℕ}
use lib.Dec.{eqb}
use lib.ListN.{get_or}
use Rattle.std.specs.Prelude.{Result, Ok, Err}
use Rattle.laws.specs.Paper.{Paper}
use Rattle.laws.specs.Unique.{Unique}
use Rattle.laws.proofs.Inverse.{told_apart}
use Rattle.sending.specs.Sending.{sent_paper}
use Rattle.page.specs.declared.ReadError.TheVariants.{WrongLength, WrongRowCode, BadDigit, UnlawfulCells}
use Rattle.sending.specs.declared.SendError.{SendError}
use Rattle.sending.specs.declared.SendError.TheVariants.{Record, ShortRoom}
use Rattle.sending.specs.contracts.SendError.number as number
use Rattle.sending.proofs.SendError.number.Reads as number-reads
use Rattle.sending.specs.contracts.closing_line as closing-line
use Rattle.sending.proofs.closing_line.Reads as closing-line-reads
use Rattle.sending.specs.contracts.send_page as send-page
use Rattle.sending.proofs.send_page.Reads as send-page-reads

-- an answer by its number and its value
abbrev to_sent : Option ℕ → List ℕ → Result ℕ SendError
to_sent none values = Err ShortRoom
to_sent (some n) values =
    cond (eqb n 0) (Ok (get_or values 0 0))
    (cond (eqb n 20) (Err (Record WrongLength))
    (cond (eqb n 21) (Err (Record WrongRowCode)) (cond (eqb n 22) (Err (Record BadDigit)) (cond (eqb n 23) (Err (Record UnlawfulCells)) (Err ShortRoom)))))

sent_back : (s : Result ℕ SendError) → to_sent (sent_paper s).number (sent_paper s).values ≡ s
unfolding sent_paper
sent_back (Ok count) = refl
sent_back (Err (Record WrongLength)) = refl
sent_back (Err (Record WrongRowCode)) = refl
sent_back (Err (Record BadDigit)) = refl
sent_back (Err (Record UnlawfulCells)) = refl
sent_back (Err ShortRoom) = refl

pub sent_is : (a b : Result ℕ SendError) → sent_paper a ≡ sent_paper b → a ≡ b
sent_is = told_apart sent_paper (λ (p : Paper). to_sent p.number p.values) sent_back

pub send_page_unique : Unique send-page.ended send-page-reads.Post
send_page_unique κs a r r' ws ws' p q = (sent_is r r' (p.0 ∙ sym q.0), λ i. (tt, (tt, ((p.1 ∙ sym q.1) i, tt))))

pub closing_line_unique : Unique closing-line.ended closing-line-reads.Post
closing_line_unique κs a r r' ws ws' p q = (p ∙ sym q, refl)

pub number_unique : Unique number.ended number-reads.Post
number_unique κs a r r' ws ws' p q = (p ∙ sym q, refl)
