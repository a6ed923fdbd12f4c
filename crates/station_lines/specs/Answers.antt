-- The lines of what a station answers to an event: this project's profile.
use Rattle.std.specs.Prelude.{ℕ, Result, Ok, Err, List, [], ◌∷◌, ◌++◌}
use Rattle.std.specs.List.{flat_map}
use Rattle.line_grammar.specs.Bytes.{line_feed}
use Rattle.traffic_rules.specs.declared.acts.Act.{Act}
use Rattle.traffic_rules.specs.declared.refusals.StationRefusal.{StationRefusal}
use Rattle.station_lines.specs.ActTexts.{act_text}
use Rattle.station_lines.specs.RefusalTexts.{refusal_text}

-- the line of an act
unfoldable pub act_line : (at : ℕ) → Act → List ℕ
act_line at act = act_text at act ++ line_feed ∷ []

-- the line of a refusal
unfoldable pub refusal_line : (at : ℕ) → StationRefusal → List ℕ
refusal_line at refusal = refusal_text at refusal ++ line_feed ∷ []

-- the lines of what a station answers: one for each act in order, or that of the refusal
abbrev pub answer_lines : (at : ℕ) → Result (List Act) StationRefusal → List ℕ
answer_lines at (Ok acts) = flat_map (act_line at) acts
answer_lines at (Err refusal) = refusal_line at refusal
