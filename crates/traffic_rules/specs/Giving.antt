-- Acts that a station gives into a list of its caller: this project's profile.
use Rattle.std.specs.Prelude.{Result, Ok, Err, List}
use Rattle.traffic_rules.specs.declared.acts.Act.{Act}
use Rattle.traffic_rules.specs.declared.refusals.StationRefusal.{StationRefusal}

-- an answer, with the acts that were given into a list
abbrev pub answer_with : Result (Unit {0}) StationRefusal → List Act → Result (List Act) StationRefusal
answer_with (Ok done) acts = Ok acts
answer_with (Err refusal) acts = Err refusal
