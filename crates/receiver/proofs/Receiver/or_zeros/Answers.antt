-- `receiver::Receiver::or_zeros` meets its contract.
use Rattle.std.proofs.Common.{◌≡◌, refl, ◌∙◌}
use Rattle.std.specs.Prelude.{Result, Ok, Err}
use Rattle.std.specs.Result.{result_unwrap_or}
use Rattle.packet.specs.Headers.{zero_header}
use Rattle.page.specs.Records.{zero_cells}
use Rattle.receiver.specs.Entries.{made_in, zero_receiver, zero_selection}
use Rattle.receiver.specs.declared.OutOfRange.{OutOfRange}
use Rattle.receiver.specs.declared.Receiver.{Receiver}
use Rattle.receiver.proofs.Receiver.or_zeros.Goals as goal

made_or : (made : Result Receiver OutOfRange) → result_unwrap_or made zero_receiver ≡ made_in made
unfolding made_in
made_or (Ok receiver) = refl
made_or (Err reason) = refl

pub returns : goal.returns
unfolding made_in zero_receiver zero_selection zero_header zero_cells
returns c = c.unwrap_or.ensures ∙ made_or c.args.made
