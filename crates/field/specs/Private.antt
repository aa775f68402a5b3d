-- How the answers of the crate's private functions are read. No public promise cites them.
use Rattle.std.specs.Prelude.{cond, List, [], ℕ, ◌+◌, Option, Result, Ok, Err}
use Rattle.std.specs.declared.ops.ControlFlow.{ControlFlow}
use Rattle.std.specs.declared.ops.ControlFlow.TheVariants.{Continue, Break}
use Rattle.laws.specs.Paper.{Paper, refused_by}
use Rattle.field.specs.Field.{Start, start_at, nowhere, head_length, teletext_length, after_at, error_paper}
use Rattle.field.specs.Search.{line_passes, found, Step, ends, goes_on, ended_paper, found_paper}
use Rattle.field.specs.declared.Found.{Found}
use Rattle.field.specs.declared.FieldError.{FieldError}

-- an answer, or a place to start or to go on at
pub data Told : Type 0 where
  answered : Paper → Told
  go_on : ℕ → Told

-- a start by what the code has of it
unfoldable pub entry_told : Result ℕ FieldError → Told
unfolding error_paper
entry_told (Ok place) = go_on place
entry_told (Err error) = answered (error_paper error)

unfoldable pub start_told : Start → Told
unfolding refused_by
start_told (start_at place) = go_on place
start_told (nowhere number) = answered (refused_by number [])

-- a step by what the code has of it
unfoldable pub look_told : ControlFlow (Result (Option Found) FieldError) ℕ → Told
unfolding found_paper
look_told (Break answer) = answered (found_paper answer)
look_told (Continue place) = go_on place

unfoldable pub step_told : List ℕ → Step → Told
unfolding ended_paper
step_told field (ends end) = answered (ended_paper field end)
step_told field (goes_on place) = go_on place

-- a whole unit of a teletext id
unfoldable pub line_step : List ℕ → ℕ → Step
unfolding line_passes
line_step field place = cond (line_passes field place) (ends (found place)) (goes_on (after_at field place))

-- the place after a teletext unit, by its length
abbrev pub after_teletext : ℕ → ℕ
after_teletext place = place + (head_length + teletext_length)
