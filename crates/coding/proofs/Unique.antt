-- Any two answers that meet a public function's contract are equal, said of the generated contracts.
use mathlib.Core.Path.{◌≡◌, refl, ◌∙◌, sym}
use mathlib.Core.List.{List, [], ◌∷◌}
use mathlib.Core.Option.{Option, none, some}
use Prim.Native.Nat.{ℕ}
use Rattle.laws.specs.Paper.{Paper}
use Rattle.laws.specs.Unique.{Unique}
use Rattle.laws.proofs.Inverse.{told_apart}
use Rattle.coding.specs.Hamming.{decoded_paper}
use Rattle.coding.specs.declared.Decoded.{Decoded}
use Rattle.coding.specs.declared.Decoded.TheVariants as decoded
use Rattle.coding.proofs.Heard.{heard_is}
use Rattle.coding.specs.contracts.character_of as character-of
use Rattle.coding.proofs.character_of.Reads as character-of-reads
use Rattle.coding.specs.contracts.framing_passes as framing-passes
use Rattle.coding.proofs.framing_passes.Reads as framing-passes-reads
use Rattle.coding.specs.contracts.message_in as message-in
use Rattle.coding.proofs.message_in.Reads as message-in-reads
use Rattle.coding.specs.contracts.message_of as message-of
use Rattle.coding.proofs.message_of.Reads as message-of-reads
use Rattle.coding.specs.contracts.sent_character as sent-character
use Rattle.coding.proofs.sent_character.Reads as sent-character-reads
use Rattle.coding.specs.contracts.sent_message as sent-message
use Rattle.coding.proofs.sent_message.Reads as sent-message-reads
use Rattle.coding.specs.contracts.tests_of as tests-of
use Rattle.coding.proofs.tests_of.Reads as tests-of-reads
use Rattle.coding.specs.contracts.turned as turned
use Rattle.coding.proofs.turned.Reads as turned-reads

pub turned_unique : Unique turned.ended turned-reads.Post
turned_unique κs a r r' ws ws' p q = (p ∙ sym q, refl)

pub framing_passes_unique : Unique framing-passes.ended framing-passes-reads.Post
framing_passes_unique κs a r r' ws ws' p q = (p ∙ sym q, refl)

pub tests_of_unique : Unique tests-of.ended tests-of-reads.Post
tests_of_unique κs a r r' ws ws' p q = (p ∙ sym q, refl)

pub message_in_unique : Unique message-in.ended message-in-reads.Post
message_in_unique κs a r r' ws ws' p q = (heard_is r r' (p ∙ sym q), refl)

-- one value is an exact byte's, two are a corrected one's
abbrev to_decoded : Option ℕ → List ℕ → Decoded
to_decoded none values = decoded.Refused
to_decoded (some n) [] = decoded.Refused
to_decoded (some n) (value ∷ []) = decoded.Exact value
to_decoded (some n) (value ∷ (position ∷ more)) = decoded.Corrected value position

decoded_back : (d : Decoded) → to_decoded (decoded_paper d).number (decoded_paper d).values ≡ d
unfolding decoded_paper
decoded_back (decoded.Exact value) = refl
decoded_back (decoded.Corrected value position) = refl
decoded_back decoded.Refused = refl

pub decoded_is : (d e : Decoded) → decoded_paper d ≡ decoded_paper e → d ≡ e
decoded_is = told_apart decoded_paper (λ (p : Paper). to_decoded p.number p.values) decoded_back

pub message_of_unique : Unique message-of.ended message-of-reads.Post
message_of_unique κs a r r' ws ws' p q = (decoded_is r r' (p ∙ sym q), refl)

pub character_of_unique : Unique character-of.ended character-of-reads.Post
character_of_unique κs a r r' ws ws' p q = (heard_is r r' (p ∙ sym q), refl)

pub sent_message_unique : Unique sent-message.ended sent-message-reads.Post
sent_message_unique κs a r r' ws ws' p q = (p ∙ sym q, refl)

pub sent_character_unique : Unique sent-character.ended sent-character-reads.Post
sent_character_unique κs a r r' ws ws' p q = (p ∙ sym q, refl)
