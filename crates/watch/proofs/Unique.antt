-- Any two answers that meet a public function's contract are equal, said of the generated contracts.
use mathlib.Core.Path.{refl, ◌∙◌, sym}
use Rattle.laws.specs.Unique.{Unique}
use Rattle.watch.specs.contracts.Watch.new as new
use Rattle.watch.proofs.Watch.new.Reads as new-reads
use Rattle.watch.specs.contracts.watch_line as watch-line
use Rattle.watch.proofs.watch_line.Reads as watch-line-reads
use Rattle.watch.specs.contracts.watch_recording as watch-recording
use Rattle.watch.proofs.watch_recording.Reads as watch-recording-reads

pub new_unique : Unique new.ended new-reads.Post
new_unique κs a r r' ws ws' p q = (p ∙ sym q, refl)

pub watch_line_unique : Unique watch-line.ended watch-line-reads.Post
watch_line_unique κs a r r' ws ws' p q = (p ∙ sym q, refl)

pub watch_recording_unique : Unique watch-recording.ended watch-recording-reads.Post
watch_recording_unique κs a r r' ws ws' p q = (p ∙ sym q, refl)
