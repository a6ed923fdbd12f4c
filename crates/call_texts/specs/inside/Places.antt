-- The place of a form among the others of the grammar of call texts.
use Rattle.call_values.specs.declared.calls.Call.{Call}
use Rattle.call_values.specs.declared.calls.Call.TheVariants.{Alert, Ack, Relay, RelayAck, AllShips, AreaCall, GroupCall, Individual, Service}
use Rattle.call_values.specs.declared.parts.Kind.TheVariants.{Test, AskPosition, Position}
use Rattle.line_grammar.specs.Grammar.{Parts}
use Rattle.line_grammar.specs.Sections.{nth, last}
use Rattle.call_texts.specs.CallParts.{parts_of}

-- the place of a call's form among the forms
abbrev pub place_of : Call → Parts → Parts
place_of (Alert casualty) = nth 0
place_of (Ack from casualty) = nth 1
place_of (Relay to from casualty ask) = nth 2
place_of (RelayAck to from casualty) = nth 3
place_of (AllShips category from one two f1 f2) = nth 4
place_of (AreaCall area category from one two f1 f2) = nth 5
place_of (GroupCall group category from one two f1 f2) = nth 6
place_of (Individual to category from one two message end) = nth 7
place_of (Service to category from (Test reply)) = nth 8
place_of (Service to category from AskPosition) = nth 9
place_of (Service to category from (Position position time)) = last 10

-- the parts of a call's text among those of the other forms, and of what comes after it
abbrev pub call_parts : Call → Parts → Parts
call_parts call rest = place_of call (parts_of call rest)
