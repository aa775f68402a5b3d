-- Any two answers that meet the public function's contract are equal, said of the generated contract.
use Rattle.std.specs.Prelude.{Some, None}
use Rattle.std.specs.Prelude as std
use mathlib.Core.Path.{◌≡◌, refl, ◌∙◌, sym}
use mathlib.Core.Option.{Option, none, some}
use Prim.Native.Nat.{ℕ}
use Rattle.laws.specs.Unique.{Unique}
use Rattle.laws.proofs.Inverse.{told_apart}
use Rattle.listing.specs.Held.{Held, next_paper, listed_paper}
use Rattle.listing.specs.declared.Listed.{Listed}
use Rattle.listing.specs.contracts.line_at as line_at_lem
use Rattle.listing.proofs.line_at.Reads as line-at-reads

-- the answer, read back
abbrev next_back : Option ℕ → std.Option ℕ
next_back none = None
next_back (some place) = Some place

abbrev listed_back : Held → Listed
listed_back held = record { line = held.line; next = next_back held.next }

back_next : (next : std.Option ℕ) (listed : Listed) → listed.next ≡ next → listed_back (listed_paper (record { line = listed.line; next = next })) ≡ listed
unfolding listed_paper next_paper
back_next (Some place) listed e = rw (← e)
back_next None listed e = rw (← e)

listed_back_law : (listed : Listed) → listed_back (listed_paper listed) ≡ listed
listed_back_law listed = back_next listed.next listed refl

pub line_at_unique : Unique line_at_lem.ended line-at-reads.Post
line_at_unique κs a r r' ws ws' p q = (told_apart listed_paper listed_back listed_back_law r r' (p.0 ∙ sym q.0), refl)
