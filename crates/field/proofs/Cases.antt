-- Worked cases, computed from the definitions: the two fields that document 01 gives for the lister, and small fields of each kind.
use mathlib.Core.Path.{◌≡◌, refl}
use mathlib.Core.List.{List, [], ◌∷◌, ◌++◌}
use Prim.Native.Nat.{ℕ, ◌-◌}
use lib.ListN.{replicate}
use Rattle.laws.specs.Paper.{accepted, refused_by}
use Rattle.field.specs.Field.{teletext_length, asked, unit_at}
use Rattle.field.specs.Search.{walk_from, searched}

pub stuffed : List ℕ
stuffed = 0x99 ∷ 0xFF ∷ 0x00 ∷ []

-- a unit of a teletext id: the line's byte, the framing code, and a packet of zeros
abbrev teletext : ℕ → ℕ → List ℕ
teletext line framing = 0x02 ∷ teletext_length ∷ line ∷ framing ∷ replicate (teletext_length - 2) 0

-- stuffing, a unit of C0, one on the line 6, one with two wrong bits in its framing code, and one that is found
pub several : List ℕ
several =
    stuffed ++ (0xC0 ∷ teletext_length ∷ replicate teletext_length 0xE4)
    ++ teletext 0xC6 0xE4
    ++ teletext 0xC7 0xE7
    ++ teletext 0xE7 0xE5
    ++ teletext 0xC8 0xE4

pub lister_first : unit_at stuffed 0 ≡ accepted (255 ∷ 0 ∷ 3 ∷ [])
unfolding unit_at stuffed
lister_first = refl

pub lister_end : unit_at stuffed 3 ≡ accepted []
unfolding unit_at stuffed
lister_end = refl

pub lister_refused : unit_at (0x10 ∷ 0xFF ∷ 0x00 ∷ []) 0 ≡ refused_by 16 (1 ∷ [])
unfolding unit_at
lister_refused = refl

pub finds_the_first : searched several 0 ≡ accepted (145 ∷ 1 ∷ 7 ∷ 187 ∷ [])
unfolding searched several stuffed
finds_the_first = refl

pub passes_over : (walk_from several (asked 0)).passed ≡ 1 ∷ 3 ∷ 49 ∷ 95 ∷ []
unfolding walk_from asked several stuffed
passes_over = refl

pub finds_the_next : searched several 187 ≡ accepted (191 ∷ 0 ∷ 8 ∷ 233 ∷ [])
unfolding searched several stuffed
finds_the_next = refl

pub finds_no_more : searched several 233 ≡ accepted []
unfolding searched several stuffed
finds_no_more = refl
