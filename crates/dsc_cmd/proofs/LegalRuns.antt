-- However a replay or an exchange ends, the histories of its lines are legal.
use Rattle.std.proofs.Common.{ℕ, Bool, List}
use Rattle.byte_streams.specs.declared.streams.Source
use Rattle.byte_streams.specs.declared.streams.Sink
use Rattle.call_values.specs.declared.choices.Band.{Band}
use Rattle.line_engine.specs.Lines.{Lines}
use Rattle.line_engine.specs.Runs.{IsRun}
use Rattle.traffic_rules.specs.Rules.{Legal}
use Rattle.ship_station.specs.ShipRules.{ship_rules}
use Rattle.ship_station.specs.declared.events.ShipWhat.{ShipWhat}
use Rattle.coast_station.specs.CoastRules.{coast_rules}
use Rattle.coast_station.specs.declared.events.CoastWhat.{CoastWhat}
use Rattle.exchange.specs.WorldRules.{IsLegal}
use Rattle.traffic_replay.specs.Said.{Said, Kind, ship, coast, kind_of, identities_of, station_of, AreSaid}
use Rattle.traffic_replay.specs.Happenings.{taking_ship, taking_coast, Happening, AreHappenings}
use Rattle.traffic_replay.specs.Output.{history_of}
use Rattle.traffic_replay.specs.Meaning.{StationTells, Replays, replay_meaning}
use Rattle.station_exchange.specs.Said as exchanged
use Rattle.station_exchange.specs.Meaning.{exchange_meaning}
use Rattle.dsc_cmd.specs.LegalExchanges.{GivesLegally, EndsLegally, legal_exchange}
use Rattle.dsc_cmd.specs.LegalReplays.{TellsLegally, ReplaysLegally, legal_replay}
use Rattle.line_engine.proofs.PublicLaws.{runs_over}

-- the histories of traffic files are legal
pub record ReplayLaw : Type 0 where
  pub ship : (said : Said) (lines : Lines) (happened : List (Happening ShipWhat)) → AreSaid said lines → AreHappenings taking_ship said happened
      → Legal (ship_rules (identities_of said)) (history_of (ship_rules (identities_of said)) happened)
  pub coast : (band : Band) (said : Said) (lines : Lines) (happened : List (Happening CoastWhat)) → AreSaid said lines → AreHappenings taking_coast said happened
      → Legal (coast_rules (station_of band said)) (history_of (coast_rules (station_of band said)) happened)

module _ (law : ReplayLaw) where
  tells_legally : (kind : Kind) (said : Said) (lines : Lines) (text : List ℕ) (is_well : Bool) → AreSaid said lines → (tells : StationTells kind said text is_well)
      → TellsLegally kind said text is_well tells
  tells_legally ship said lines text is_well are tells = law.ship said lines tells.happened are tells.are_happenings
  tells_legally (coast band) said lines text is_well are tells = law.coast band said lines tells.happened are tells.are_happenings

  replays_legally : (lines : Lines) (text : List ℕ) (is_well : Bool) → Replays lines text is_well → ReplaysLegally lines text is_well
  replays_legally lines text is_well r = record { replays = r; legal = tells_legally (kind_of r.said) r.said lines text is_well r.are_said r.tells }

  -- a run of a replay
  pub runs_replay : {In Out : Type 0} (source : Source.Ghosts In) (sink : Sink.Ghosts Out) (from rest : In) (before after : Out) (status : ℕ)
      → IsRun replay_meaning source sink from rest before after status → IsRun legal_replay source sink from rest before after status
  runs_replay = runs_over replay_meaning legal_replay.Gives legal_replay.Ends
      (λ lines text given. (given.0, replays_legally lines text given.0 given.1))
      (λ lines text status ended. (ended.0, replays_legally lines text ended.0 ended.1, ended.2))

-- the histories of files of exchanges are legal
abbrev pub ExchangeLaw : Type 0
ExchangeLaw = (said : exchanged.Said) (lines : Lines) → exchanged.AreSaid said lines → IsLegal (exchanged.parties_of said) (exchanged.world_of said)

-- a run of an exchange
pub runs_exchange : ExchangeLaw → {In Out : Type 0} (source : Source.Ghosts In) (sink : Sink.Ghosts Out) (from rest : In) (before after : Out) (status : ℕ)
    → IsRun exchange_meaning source sink from rest before after status → IsRun legal_exchange source sink from rest before after status
runs_exchange law = runs_over exchange_meaning GivesLegally EndsLegally
    (λ lines text given. record { gives = given; legal = law given.said lines given.are_said })
    (λ lines text status ended. record { ends = ended; legal = law ended.0.said lines ended.0.are_said })
