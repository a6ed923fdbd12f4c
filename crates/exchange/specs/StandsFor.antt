-- The histories that an exchange stands for: this project's profile.
use Rattle.std.specs.Prelude.{◌≡◌, List}
use Rattle.call_values.specs.declared.calls.Call.{Call}
use Rattle.traffic_rules.specs.declared.acts.Act.{Act}
use Rattle.ship_station.specs.declared.ships.Ship.{Ship}
use Rattle.ship_station.specs.StandsFor.{StandsFor as ShipStandsFor}
use Rattle.coast_station.specs.declared.coasts.Coast.{Coast}
use Rattle.coast_station.specs.StandsFor.{StandsFor as CoastStandsFor}
use Rattle.exchange.specs.declared.told.Outcome.{Outcome}
use Rattle.exchange.specs.declared.told.Outcome.TheVariants as outcome
use Rattle.exchange.specs.declared.told.Told.{Told}
use Rattle.exchange.specs.declared.told.Told.TheVariants as told
use Rattle.exchange.specs.Sent.{sent_by}
use Rattle.exchange.specs.WorldHistories.{Given, did, refuses, nothing, WorldHistory, histories_of}
use Rattle.exchange.specs.WorldRules.{Parties, IsLegal}

-- what an exchange is made of: the two stations, and the calls that each has sent
pub record WorldParts : Type 0 where
  pub ship : Ship
  pub coast : Coast
  pub from_ship : List Call
  pub from_coast : List Call

-- an exchange of these parties stands for a history: it is legal, and each part is what the history says
pub record StandsFor (parts : WorldParts) (who : Parties) (w : WorldHistory) : Type 0 where
  pub legal : IsLegal who w
  pub ship : ShipStandsFor parts.ship who.ship (histories_of w).ship
  pub coast : CoastStandsFor parts.coast who.coast (histories_of w).coast
  pub from_ship : parts.from_ship ≡ sent_by (histories_of w).ship
  pub from_coast : parts.from_coast ≡ sent_by (histories_of w).coast

-- what a step gave
abbrev pub given_of : Told → Given
given_of (told.Acts acts) = did acts.items
given_of (told.Refused refusal) = refuses refusal
given_of (told.Nothing number) = nothing number

-- what a step gave, with its acts in a list
abbrev pub given_with : Outcome → List Act → Given
given_with outcome.Done acts = did acts
given_with (outcome.Refused refusal) acts = refuses refusal
given_with (outcome.Nothing number) acts = nothing number

-- an event that is refused, or delivers nothing
abbrev pub IsStill : Given → Type 0
IsStill (did acts) = ⊥
IsStill _ = Unit {0}
