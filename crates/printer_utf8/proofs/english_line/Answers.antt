-- `printer_utf8::english_line` meets its contract: the words are laid over all but the last line feed.
use mathlib.Core.Path.{◌∙◌, ap}
use mathlib.Core.List.{List, ◌++◌}
use Prim.Native.Nat.{ℕ, ◌+◌}
use native.Mathlib.Omega.{arith}
use lib.ListN.{length, drop, replicate}
use Rattle.letters.specs.Said.{stand_in_size, stand_in_text}
use Rattle.texts.proofs.Putting.{put-fits}
use Rattle.printer_utf8.proofs.english_line.Goals as goal

pub returns : goal.returns
unfolding stand_in_text
returns c =
    let words = c.stand_in_text-words.ensures in
    let size = ap length words in
    let laid = (put-fits (omega arith) c.put.ensures).laid in
    laid ∙ ap (λ (text : List ℕ). text ++ drop (0 + length text) (replicate (stand_in_size + 1) 0x0A)) words
