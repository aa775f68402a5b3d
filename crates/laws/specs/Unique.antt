-- What it means that a function's promise leaves no choice. It is said of the contract that is generated from the function's clauses:
-- of `ended`, the function's signature with what is lent, and of `Post`, what the clauses say.
use Rattle.std.specs.Prelude.{◌≡◌}
use contract.Lifetimes.{Lfts}
use denote.Triple.Entry.{Args, Res}
use denote.Triple.Clauses.{Ended, Lasts, AtExit, at_exit}

-- at any lifetimes and arguments, any two answers that meet the contract are equal, and so is what then lies behind each `&mut`
abbrev pub Unique : (T : Ended) → ((κs : Lfts T.signature.lifetimes) (a : Args T.signature κs) → Res T.signature κs → AtExit T κs → Type 0) → Type 0
Unique T Post =
    (κs : Lfts T.signature.lifetimes) (a : Args T.signature κs) (r r' : Res T.signature κs) (ws ws' : Lasts T κs a)
    → Post κs a r (at_exit T κs a ws) → Post κs a r' (at_exit T κs a ws') → (r ≡ r') × (ws ≡ ws')
