-- `receive::feed` meets its contract: the room has room for all the lines, and its first bytes are what is said of them.
use mathlib.Core.Path.{◌≡◌, sym, ◌∙◌}
use mathlib.Core.List.{List}
use Prim.Native.Nat.{ℕ, ◌*◌, ◌≤◌}
use lib.ListN.{length, take, replicate, length-replicate}
use lib.Seq.{length-take-le}
use Rattle.announcing.specs.Said.{SaysAs, longest, said}
use Rattle.receive.specs.Feeding.{fed_from, lines_at_once}
use Rattle.receive.proofs.Feeding.{all_said, text_first, text-within}
use Rattle.receive.proofs.feed.Goals as goal
use Rattle.receive.proofs.feed.Goals.{After-announce-announced}
use Rattle.receive.proofs.feed.Given.{Over}

-- what was promised of all the lines
module _ (g : Over) (c : After-announce-announced g) where
  abbrev room : List ℕ
  room = replicate (lines_at_once * longest) 0

  size : length room ≡ lines_at_once * longest
  size = length-replicate {A = ℕ} (lines_at_once * longest) 0

  all : SaysAs (fed_from c.args.state.now) c.args.lines.now c.announce-announced.result c.announce-announced.new.«record» room c.announce-announced.new.room
  all = all_said c.args.lines.now room size c.requires.1 c.announce-announced.ensures

  first : take c.announce-announced.result.length c.announce-announced.new.room ≡ (said (fed_from c.args.state.now) c.args.lines.now).text
  first = text_first c.args.lines.now room size c.requires.1 c.announce-announced.ensures

  within : c.announce-announced.result.length ≤ length c.announce-announced.new.room
  within = text-within c.args.lines.now room size c.requires.1 c.announce-announced.ensures

pub slice_bounds-room-end : goal.slice_bounds-room-end
slice_bounds-room-end g c = within g (goal.at.slice_bounds-room-end g c).After-announce-announced

pub slice_bounds-write_said-end : goal.slice_bounds-write_said-end
slice_bounds-write_said-end g c =
    sym (length-take-le c.announce-announced.result.length c.announce-announced.new.room (within g (goal.at.slice_bounds-write_said-end g c).After-announce-announced))

pub write_said-requires : goal.write_said-requires
write_said-requires g c = first g (goal.at.write_said-requires g c).After-announce-announced

pub returns : goal.returns
returns g c =
    let says = all g (goal.at.returns g c).After-announce-announced in record { feeds = record { kept = says.kept; watched = says.watched; left = says.left }; record_len = c.announce-announced.auto.«record» ∙ c.requires.0 }
