use Rattle.printing.proofs.Spelling.{Spelled}
use Rattle.printing.proofs.utf8.spelled_page.Given as goal

abbrev pub invariant-loop-byte : goal.invariant-loop-byte
invariant-loop-byte l = Spelled l.set l.text l.bytes l.used l.byte-index
