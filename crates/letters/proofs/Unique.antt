-- Any two answers that meet a public function's contract are equal, said of the generated contracts.
use mathlib.Core.Path.{◌∙◌, refl, sym}
use Rattle.laws.specs.Unique.{Unique}
use Rattle.letters.specs.contracts.forms.utf8_of as utf8-of
use Rattle.letters.proofs.forms.utf8_of.Reads as utf8-of-reads
use Rattle.letters.specs.contracts.sets.position_of as position-of
use Rattle.letters.proofs.sets.position_of.Reads as position-of-reads
use Rattle.letters.specs.contracts.sets.letter_in as letter-in
use Rattle.letters.proofs.sets.letter_in.Reads as letter-in-reads
use Rattle.letters.specs.contracts.sets.letter_of as letter-of
use Rattle.letters.proofs.sets.letter_of.Reads as letter-of-reads
use Rattle.letters.specs.contracts.sets.option_of as option-of
use Rattle.letters.proofs.sets.option_of.Reads as option-of-reads
use Rattle.letters.specs.contracts.sets.set_of as set-of
use Rattle.letters.proofs.sets.set_of.Reads as set-of-reads
use Rattle.letters.specs.contracts.sets.stand_in_text as stand-in-text
use Rattle.letters.proofs.sets.stand_in_text.Reads as stand-in-text-reads
use Rattle.letters.specs.contracts.sets.stands_in as stands-in
use Rattle.letters.proofs.sets.stands_in.Reads as stands-in-reads

pub utf8_of_unique : Unique utf8-of.ended utf8-of-reads.Post
utf8_of_unique κs a r r' ws ws' p q = (p ∙ sym q, refl)

pub position_of_unique : Unique position-of.ended position-of-reads.Post
position_of_unique κs a r r' ws ws' p q = (p ∙ sym q, refl)

pub letter_in_unique : Unique letter-in.ended letter-in-reads.Post
letter_in_unique κs a r r' ws ws' p q = (p ∙ sym q, refl)

pub letter_of_unique : Unique letter-of.ended letter-of-reads.Post
letter_of_unique κs a r r' ws ws' p q = (p ∙ sym q, refl)

pub option_of_unique : Unique option-of.ended option-of-reads.Post
option_of_unique κs a r r' ws ws' p q = (p ∙ sym q, refl)

pub set_of_unique : Unique set-of.ended set-of-reads.Post
set_of_unique κs a r r' ws ws' p q = (p ∙ sym q, refl)

pub stand_in_text_unique : Unique stand-in-text.ended stand-in-text-reads.Post
stand_in_text_unique κs a r r' ws ws' p q = (p ∙ sym q, refl)

pub stands_in_unique : Unique stands-in.ended stands-in-reads.Post
stands_in_unique κs a r r' ws ws' p q = (p ∙ sym q, refl)
