-- What the acknowledgement of a distress alert goes back to: the wait is that of ITU-R M.541, acknowledgement of
-- distress alerts by coast stations; that an event accepts the alert is this project's profile.
use Rattle.std.specs.Prelude.{◌≡◌, ℕ, ◌+◌, ◌≤◌, ◌==◌, Bool, false, IsTrue, ◌∷◌, ◌++◌}
use Rattle.std.specs.List.{list_any}
use Rattle.call_values.specs.declared.bounds.TheConstants.{SHORTEST_COAST_DELAY}
use Rattle.call_values.specs.declared.calls.Call.TheVariants as call
use Rattle.call_values.specs.declared.calls.Casualty.{Casualty}
use Rattle.call_values.specs.declared.choices.Band.{Band}
use Rattle.traffic_rules.specs.Histories.{Entry, History}
use Rattle.coast_station.specs.declared.events.CoastWhat.{CoastWhat}
use Rattle.coast_station.specs.declared.events.CoastWhat.TheVariants.{Accept, Heard}
use Rattle.coast_station.specs.Accepting.{waits}

-- an event accepts this identity
abbrev pub accepts : (mmsi : ℕ) → CoastWhat → Bool
accepts mmsi (Accept accepted delay) = accepted == mmsi
accepts mmsi _ = false

-- before an entry this alert was heard; an event accepted its identity after that, at the latest at the entry itself;
-- and where acknowledgements wait, on MF and HF, at least 60,000 ms have passed since the alert
pub record GoesBackToAlert (band : Band) (casualty : Casualty) (sent : Entry CoastWhat) (earlier : History CoastWhat) : Type 0 where
  pub between : History CoastWhat
  pub heard : Entry CoastWhat
  pub before : History CoastWhat
  pub order : earlier ≡ between ++ heard ∷ before
  pub alert : heard.what ≡ Heard (call.Alert casualty)
  pub accepted : IsTrue (list_any (λ (e : Entry CoastWhat). accepts casualty.mmsi e.what) (sent ∷ between))
  pub waited : IsTrue (waits band) → heard.at + SHORTEST_COAST_DELAY ≤ sent.at
