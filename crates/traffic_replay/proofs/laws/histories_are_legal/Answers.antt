use Rattle.station_lines.proofs.PublicLaws.{ship_event_lawful, coast_event_lawful}
use Rattle.ship_station.specs.ShipRules.{ship_rules}
use Rattle.coast_station.specs.CoastRules.{coast_rules}
use Rattle.traffic_replay.specs.Said.{identities_of, station_of}
use Rattle.traffic_replay.specs.Happenings.{taking_ship, taking_coast}
use Rattle.traffic_replay.proofs.Legal.{happened_legal}
use Rattle.traffic_replay.proofs.laws.histories_are_legal.Goals as goal

pub returns-clause-ship : goal.returns-clause-ship
returns-clause-ship c = λ said. happened_legal (ship_rules (identities_of said)) taking_ship ship_event_lawful (λ call. tt) said

pub returns-clause-coast : goal.returns-clause-coast
returns-clause-coast c = λ band said. happened_legal (coast_rules (station_of band said)) taking_coast coast_event_lawful (λ call. tt) said
