-- What is known of a page that the reader takes: its magazine is 1 to 8, its header's parts and its characters fit their bits, and it has the grid's characters.
use mathlib.Core.Path.{◌≡◌, subst, sym}
use mathlib.Core.Bool.{true}
use mathlib.Core.List.{List}
use Prim.Native.Nat.{ℕ, ◌≤◌}
use lib.Dec.{T}
use lib.ListN.{length}
use Rattle.std.specs.Prelude.{Ok}
use Rattle.laws.specs.Every.{every}
use Rattle.laws.specs.Fields.{fits}
use Rattle.laws.proofs.Bools.{both_true}
use Rattle.laws.proofs.Fields.{Fit}
use Rattle.grid.specs.Grid.{cell_count, rows}
use Rattle.packet.specs.Headers.{header_values}
use Rattle.page.specs.Lawful.{cells_fit}
use Rattle.page.specs.Reading.{page_in, page_read, read_answer}
use Rattle.page.specs.Records.{character_width, header_widths, mark_width}
use Rattle.page.specs.declared.Page.{Page}
use Rattle.page.proofs.AnyRows.{fit-header, magazine-in, parts}
use Rattle.page.proofs.Trips.{page-read, whole-read, writes-read}

pub record Taken (page : Page) : Type 0 where
  pub magazine : (1 ≤ page.magazine) × (page.magazine ≤ 8)
  pub header : Fit header_widths (header_values page.header)
  pub sized : length page.cells.characters ≡ cell_count
  pub characters : T (every (fits character_width) page.cells.characters)

module _ (bytes : List ℕ) (taken : read_answer bytes ≡ Ok tt) where
  characters_fit : every (fits character_width) (page_in bytes).cells.characters ≡ true
  unfolding cells_fit
  characters_fit =
      (both_true (every (fits mark_width) (page_in bytes).cells.marks) (every (fits character_width) (page_in bytes).cells.characters)
      (parts rows (page_in bytes) (whole-read bytes taken) (writes-read bytes taken)).2).1

  pub taken-page : Taken (page_read bytes)
  taken-page =
      subst Taken (sym (page-read bytes taken))
      (record {
        magazine = magazine-in rows (page_in bytes) (whole-read bytes taken) (writes-read bytes taken);
        header = fit-header rows (page_in bytes) (whole-read bytes taken) (writes-read bytes taken);
        sized = (whole-read bytes taken).0;
        characters = subst T (sym characters_fit) tt;
      })
