-- The calls that a station sends: this project's profile.
use Rattle.std.specs.Prelude.{Result, Ok, Err, List, [], ◌∷◌, ◌++◌}
use Rattle.call_values.specs.declared.calls.Call.{Call}
use Rattle.traffic_rules.specs.declared.acts.Act.{Act}
use Rattle.traffic_rules.specs.declared.acts.Act.TheVariants.{Send}
use Rattle.traffic_rules.specs.declared.refusals.StationRefusal.{StationRefusal}
use Rattle.traffic_rules.specs.Histories.{History}

-- the calls that acts send, in order, each once, however often in a row it is sent
abbrev pub calls_of : List Act → List Call
calls_of [] = []
calls_of (Send call times ∷ acts) = call ∷ calls_of acts
calls_of (_ ∷ acts) = calls_of acts

-- the calls that an answer sends
abbrev pub calls_in : Result (List Act) StationRefusal → List Call
calls_in (Ok acts) = calls_of acts
calls_in (Err refusal) = []

-- the calls that a station sent, in the order in which it sent them
abbrev pub sent_by : {What : Type 0} → History What → List Call
sent_by [] = []
sent_by (e ∷ h) = sent_by h ++ calls_of e.acts
