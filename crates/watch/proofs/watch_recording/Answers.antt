-- `watch::watch_recording` meets its contract: by how the recording ended.
use Rattle.receiver.specs.Recordings.{played_paper}
use Rattle.watch.specs.Watched.{recording_watched}
use Rattle.watch.proofs.watch_recording.Goals as goal

pub returns-in-None : goal.returns-in-None
unfolding recording_watched played_paper
returns-in-None c = rw (c.in-None.is, c.lines_passed.ensures)

pub returns-in-Some : goal.returns-in-Some
unfolding recording_watched played_paper
returns-in-Some c =
    rw (
      c.in-Some.is,
      c.after_line.ensures,
      c.lines_passed-others.ensures,
      c.saturating_sub.ensures,
      c.mended_before-before.ensures,
      c.mended_of.ensures,
    )
