-- `packet::is_mended` meets its contract: D fails of a byte where it fails of the byte turned.
use mathlib.Core.Path.{sym, ap, ◌∙◌}
use Rattle.coding.specs.Hamming.{corrected}
use Rattle.coding.proofs.Mended.{corrected_turned}
use borrow.Author.Rules.{rules}
use Rattle.packet.proofs.is_mended.Goals as goal

pub returns : goal.returns
unfolding corrected
returns c = ap corrected c.tests_of.ensures ∙ sym (corrected_turned c.args.byte (search rules))
