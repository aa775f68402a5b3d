-- Document 01, "Addresses and headers": a selection is magazine 1 to 8, tens and units 0 to 9, and perhaps a time code. A header matches by magazine
-- and page, and by time code where one was selected. Refusal 13.
use Rattle.std.specs.Prelude.{Bool, true, ◌&&◌, [], eqb, leb, Result, Ok, Err}
use Rattle.laws.specs.Paper.{Paper, accepted, refused_by}
use Rattle.packet.specs.declared.Header.{Header}
use Rattle.receiver.specs.declared.OutOfRange.{OutOfRange}
use Rattle.receiver.specs.declared.Receiver.{Receiver}
use Rattle.receiver.specs.declared.Selection.{Selection}
use Rattle.receiver.specs.declared.When.{When}
use Rattle.receiver.specs.declared.When.TheVariants.{Any, Time}

-- hours tens 0 to 3, hours units 0 to 9, minutes tens 0 to 7, minutes units 0 to 9
unfoldable pub when_in_range : When → Bool
when_in_range Any = true
when_in_range (Time hours_tens hours_units minutes_tens minutes_units) =
    leb hours_tens 3 && leb hours_units 9 && leb minutes_tens 7 && leb minutes_units 9

-- magazine 1 to 8, tens and units 0 to 9
unfoldable pub in_range : Selection → Bool
unfolding when_in_range
in_range selection =
    leb 1 selection.magazine && leb selection.magazine 8 && leb selection.tens 9 && leb selection.units 9
    && when_in_range selection.when

-- the time where one was selected
unfoldable pub time_matches : When → Header → Bool
time_matches Any header = true
time_matches (Time hours_tens hours_units minutes_tens minutes_units) header =
    eqb header.hours_tens hours_tens && eqb header.hours_units hours_units
    && eqb header.minutes_tens minutes_tens && eqb header.minutes_units minutes_units

-- a header of the selected magazine is that of the selected page
unfoldable pub matches : Selection → Header → Bool
unfolding time_matches
matches selection header =
    eqb header.tens selection.tens && eqb header.units selection.units && time_matches selection.when header

-- the paper's number: 13, selection out of range
unfoldable pub selected_paper : Result Receiver OutOfRange → Paper
unfolding accepted refused_by
selected_paper (Ok receiver) = accepted []
selected_paper (Err reason) = refused_by 13 []
