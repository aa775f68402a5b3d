-- `announcing::to_next_stop` meets its contract: the recording played, the watch, and the text put behind what is there.
use Rattle.announcing.proofs.Walking.{stops}
use Rattle.announcing.proofs.to_next_stop.Goals as goal

pub returns : goal.returns
returns c =
    let watch = c.watch_recording-watched in
    stops c.args.before c.args.lines.now c.args.«record».now c.args.room.now c.take_recording-recorded.result watch.result
    c.take_recording-recorded.ensures watch.ensures c.put_announced-length.ensures c.bytes_of.ensures
