-- What the crate's private functions promise. No public promise cites it.
use Rattle.std.specs.Prelude.{◌≡◌, Bool, false, ◌||◌, List, ℕ, suc, ◌<◌, length, get_or}
use Rattle.grid.specs.Grid.{last_row}
use Rattle.choosing.specs.Chosen.{covers}
use Rattle.choosing.specs.declared.Span.{Span}

-- the rows wanted so far, with those of one span more
pub record Joined (wanted : List Bool) (span : Span) (joined : List Bool) : Type 0 where
  pub size : length joined ≡ last_row
  pub each : (k : ℕ) → k < last_row → get_or joined k false ≡ (get_or wanted k false || covers span (suc k))
