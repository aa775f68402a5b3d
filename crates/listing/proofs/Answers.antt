-- From an answer about a place to its line.
use Rattle.std.specs.Prelude.{Option, Result}
use mathlib.Core.Path.{◌≡◌, sym, ◌∙◌, ap}
use mathlib.Core.List.{List}
use Prim.Native.Nat.{ℕ, ◌<◌, ◌≤◌}
use borrow.Author.Tests.{lt-ltb, le-ltb}
use lib.ListN.{length}
use Rattle.field.specs.Field.{asked, unit_at, any_unit_paper}
use Rattle.field.specs.declared.FieldError.{FieldError}
use Rattle.field.specs.declared.WholeUnit.{WholeUnit}
use Rattle.listing.specs.Lines.{last, told, too_long_text, line_at, most}
use Rattle.listing.specs.Held.{room, held, listed_paper}
use Rattle.listing.specs.Private.{Written, stopped}
use Rattle.texts.specs.declared.Text.{Text}
use Rattle.listing.specs.declared.Listed.{Listed}
use Rattle.listing.proofs.Held.{used_fits}

-- a line after which nothing is listed
pub stops_short : {listed : Listed} {line : Text room} {text : List ℕ} → listed ≡ stopped line → Written line text → listed.line.used ≤ room
stops_short e w = rw e (used_fits w)

pub stops : {listed : Listed} {line : Text room} (text : List ℕ) → listed ≡ stopped line → Written line text → listed_paper listed ≡ held (last text)
unfolding listed_paper held last
stops text e w = rw (e, w.is)

module _ (field : List ℕ) (place : ℕ) where
  pub too_long : most < length field → line_at field place ≡ last too_long_text
  unfolding line_at
  too_long h = rw (lt-ltb most (length field) h)

  pub not-too-long : length field ≤ most → line_at field place ≡ told (length field) (asked place) (unit_at field place)
  unfolding line_at
  not-too-long h = rw (le-ltb most (length field) h)

  -- the answer of `unit_at`, in any of its cases
  pub told_of : length field ≤ most → {answer case : Result (Option WholeUnit) FieldError} → answer ≡ case → any_unit_paper answer ≡ unit_at field place
      → told (length field) (asked place) (any_unit_paper case) ≡ line_at field place
  told_of h e is = ap (told (length field) (asked place)) (sym (ap any_unit_paper e) ∙ is) ∙ sym (not-too-long h)
