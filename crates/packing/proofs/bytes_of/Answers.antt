-- `packing::bytes_of` meets its contract: each byte is eight of the word's digits.
use mathlib.Core.Path.{refl, sym, ◌∙◌}
use native.Mathlib.Omega.{arith}
use lib.ListN.{replicate}
use Rattle.laws.specs.Fields.{bytes_of, total}
use Rattle.laws.proofs.Tabulated.{cons_is}
use Rattle.laws.proofs.Words.{fields_cut}
use Rattle.packing.proofs.bytes_of.Goals as goal

pub returns : goal.returns
unfolding bytes_of total
returns c =
    c.to_be_bytes.ensures
    ∙ (cons_is refl (cons_is refl (cons_is refl (cons_is refl (cons_is refl (cons_is refl (cons_is refl (cons_is (omega arith) refl)))))))
    ∙ sym (fields_cut (replicate 8 8) 0 c.args.word))
