-- `listing::unit_line` meets its contract: three numbers, each with what stands behind it.
use Rattle.std.proofs.Common.{arith}
use Rattle.texts.proofs.Held.{adds_put, adds_then}
use Rattle.listing.specs.Lines.{unit_text}
use Rattle.listing.proofs.Held.{unit_length, written}
use Rattle.listing.proofs.unit_line.Goals as goal

pub returns : goal.returns
unfolding unit_text
returns c =
    let a = c.args in
    written (unit_text a.place a.id a.length) c.new-line.ensures
    (adds_then (adds_put _ c.put_decimal.ensures)
    (adds_then (adds_put _ c.put.ensures)
    (adds_then (adds_put _ c.put_decimal-2.ensures)
    (adds_then (adds_put _ c.put-2.ensures) (adds_then (adds_put _ c.put_decimal-3.ensures) (adds_put _ c.put-3.ensures))))))
    (unit_length a.place (omega arith) a.id a.length (omega arith) (omega arith))
