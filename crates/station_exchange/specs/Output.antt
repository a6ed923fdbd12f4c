-- What an exchange writes of its events: this project's profile.
use Rattle.std.specs.Prelude.{ℕ, Bool, true, ◌&&◌, List, [], ◌∷◌, ◌++◌, codes, decimal}
use Rattle.std.specs.List.{flat_map}
use Rattle.line_grammar.specs.Bytes.{line_feed}
use Rattle.traffic_rules.specs.declared.acts.Act.{Act}
use Rattle.station_lines.specs.Moments.{at_moment}
use Rattle.station_lines.specs.Answers.{act_line, refusal_line}
use Rattle.exchange.specs.declared.events.WorldEvent.{WorldEvent}
use Rattle.exchange.specs.declared.events.WorldEvent.TheVariants as world
use Rattle.exchange.specs.WorldHistories.{Given, did, refuses, nothing, WorldEntry, WorldHistory}
use Rattle.exchange.specs.AlertEnds.{is_accepted}

-- what names the end of an event in front of each of its lines: s for the ship, and c for the coast station
abbrev pub end_text : WorldEvent → List ℕ
end_text (world.Ship e) = codes "s "
end_text (world.ShipGets at number) = codes "s "
end_text (world.Coast e) = codes "c "
end_text (world.CoastGets at number) = codes "c "

-- the moment of an event
abbrev pub moment_of : WorldEvent → ℕ
moment_of (world.Ship e) = e.at
moment_of (world.ShipGets at number) = at
moment_of (world.Coast e) = e.at
moment_of (world.CoastGets at number) = at

-- the line of a delivery for which no call of this number was sent
unfoldable pub nothing_line : (at number : ℕ) → List ℕ
nothing_line at number = at_moment at (codes "nothing " ++ decimal number ++ line_feed ∷ [])

-- the lines of what an event gave: one for each act in order, or that of the refusal, or that of a delivery of nothing
abbrev pub given_lines : (end : List ℕ) → (at : ℕ) → Given → List ℕ
given_lines end at (did acts) = flat_map (λ (act : Act). end ++ act_line at act) acts
given_lines end at (refuses refusal) = end ++ refusal_line at refusal
given_lines end at (nothing number) = end ++ nothing_line at number

-- the lines of an event and what it gave
abbrev pub entry_lines : WorldEntry → List ℕ
entry_lines e = given_lines (end_text e.event) (moment_of e.event) e.gave

-- the text of a history: the lines of its events, in order
abbrev pub text_of : WorldHistory → List ℕ
text_of [] = []
text_of (e ∷ w) = text_of w ++ entry_lines e

-- no step was refused, and each delivery was that of a call
abbrev pub all_accepted : WorldHistory → Bool
all_accepted [] = true
all_accepted (e ∷ w) = all_accepted w && is_accepted e.gave
