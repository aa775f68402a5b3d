-- Document 01, "The receiver": the entry that takes the day's receiver lent. What lies in the receiver at its exit, and the answer, are together what the
-- by-value entry gives.
use Rattle.std.specs.Prelude.{Result}
use Rattle.receiver.specs.declared.Receiver.{Receiver}
use Rattle.receiver.specs.declared.Refusal.{Refusal}
use Rattle.receiver.specs.declared.Stepped.{Stepped}
use Rattle.receiver.specs.declared.Taken.{Taken}

abbrev pub together : Receiver → Result Taken Refusal → Stepped
together receiver answer = record { receiver = receiver; answer = answer }
