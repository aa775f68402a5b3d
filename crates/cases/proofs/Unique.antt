-- Any two answers that meet a public function's contract are equal, said of the generated contracts. The functions that read and write promise nothing.
use mathlib.Core.Path.{◌≡◌, refl, ◌∙◌, sym}
use contract.Lifetimes.{Lfts}
use denote.Triple.Clauses.{Lasts, at_exit}
use denote.Triple.Entry.{Args, Res}
use Rattle.laws.specs.Unique.{Unique}
use Rattle.cases.specs.contracts.byte_at as byte_at
use Rattle.cases.proofs.byte_at.Reads as byte-at-reads
use Rattle.cases.specs.contracts.double as double
use Rattle.cases.proofs.double.Reads as double-reads
use Rattle.cases.specs.contracts.header_bytes as header_bytes
use Rattle.cases.proofs.header_bytes.Reads as header-bytes-reads
use Rattle.cases.specs.contracts.header_of as header_of
use Rattle.cases.proofs.header_of.Reads as header-of-reads
use Rattle.cases.specs.contracts.rest as rest
use Rattle.cases.proofs.rest.Reads as rest-reads
use Rattle.cases.specs.contracts.start as start
use Rattle.cases.proofs.start.Reads as start-reads

pub byte_at_unique : Unique byte_at.ended byte-at-reads.Post
byte_at_unique κs a r r' ws ws' p q = (p ∙ sym q, refl)

pub double_unique : Unique double.ended double-reads.Post
double_unique κs a r r' ws ws' p q = (p ∙ sym q, refl)

pub header_of_unique : Unique header_of.ended header-of-reads.Post
header_of_unique κs a r r' ws ws' p q = (p ∙ sym q, refl)

pub header_bytes_unique : Unique header_bytes.ended header-bytes-reads.Post
header_bytes_unique κs a r r' ws ws' p q = (p ∙ sym q, refl)

-- of a part that is lent on the contract fixes the bytes; where they lie in memory is no part of the answer
pub rest_unique : (κs : Lfts (rest.ended).signature.lifetimes) (a : Args (rest.ended).signature κs) (r r' : Res (rest.ended).signature κs)
    (ws ws' : Lasts rest.ended κs a)
    → rest-reads.Post κs a r (at_exit rest.ended κs a ws) → rest-reads.Post κs a r' (at_exit rest.ended κs a ws')
    → (r.now ≡ r'.now) × (ws ≡ ws')
rest_unique κs a r r' ws ws' p q = (p ∙ sym q, refl)

pub start_unique : (κs : Lfts (start.ended).signature.lifetimes) (a : Args (start.ended).signature κs) (r r' : Res (start.ended).signature κs)
    (ws ws' : Lasts start.ended κs a)
    → start-reads.Post κs a r (at_exit start.ended κs a ws) → start-reads.Post κs a r' (at_exit start.ended κs a ws')
    → (r.now ≡ r'.now) × (ws ≡ ws')
start_unique κs a r r' ws ws' p q = (p ∙ sym q, refl)
