-- What a ship's history says: attempts of 5 calls, and the delays between them, are those of ITU-R M.541, distress
-- alert attempts; that an operator lists the delays is this project's profile.
use Rattle.std.specs.Prelude.{ℕ, ◌==◌, ◌&&◌, Bool, true, false, Option, Some, None, unwrap_or, List, drop, if◌then◌else◌}
use Rattle.traffic_rules.specs.declared.acts.Act.{Act}
use Rattle.traffic_rules.specs.declared.acts.Act.TheVariants.{Send, AlertEnded}
use Rattle.traffic_rules.specs.Hearing.{Whereabouts}
use Rattle.traffic_rules.specs.Histories.{Entry, History, does, last_told, all_told, how_many, since}
use Rattle.ship_station.specs.declared.events.ShipWhat.{ShipWhat}
use Rattle.ship_station.specs.declared.events.ShipWhat.TheVariants.{Tick}
use Rattle.ship_station.specs.declared.alerts.OwnAlert.{OwnAlert}
use Rattle.ship_station.specs.Events.{whereabouts_of, delay_of, alert_of}

-- an act is an attempt of the distress alert: a call sent 5 times in a row
abbrev pub is_attempt : Act → Bool
is_attempt (Send call times) = times == 5
is_attempt _ = false

-- an act says that the distress alert is off
abbrev pub is_end : Act → Bool
is_end AlertEnded = true
is_end _ = false

-- an event is a tick
abbrev pub is_tick : ShipWhat → Bool
is_tick Tick = true
is_tick _ = false

-- the last position and time that an event gave; none that is known where no event gave any
abbrev pub kept : History ShipWhat → Whereabouts
kept h = unwrap_or (last_told (λ e. whereabouts_of e.what) h) (None, None)

-- the last alert that an event began, unless an alert ended after that
abbrev pub open_alert : History ShipWhat → Option OwnAlert
open_alert h = last_told (λ e. alert_of e.what) (since (does is_end) h)

-- the moment of an entry with an attempt
abbrev pub attempt_moment : Entry ShipWhat → Option ℕ
attempt_moment e = if does is_attempt e then Some e.at else None

-- the moment of the last entry with an attempt, and 0 where there is none
abbrev pub last_attempt : History ShipWhat → ℕ
last_attempt h = unwrap_or (last_told attempt_moment h) 0

-- the delays that were given, in order
abbrev pub delays_given : History ShipWhat → List ℕ
delays_given h = all_told (λ e. delay_of e.what) h

-- how many delays are used: one for each tick with an attempt
abbrev pub delays_used : History ShipWhat → ℕ
delays_used h = how_many (λ e. is_tick e.what && does is_attempt e) h

-- the delays that were given and are not used, the first ones being used first
abbrev pub delays_left : History ShipWhat → List ℕ
delays_left h = drop (delays_used h) (delays_given h)
