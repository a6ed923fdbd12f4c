-- The casualties of which a coast station's history says something, which of them are open, and in which order they
-- are: this project's profile.
use Rattle.std.specs.Prelude.{ℕ, ◌==◌, not, Bool, false, Option, Some, None, is_some, List, [], ◌∷◌, ◌++◌, if◌then◌else◌}
use Rattle.std.specs.List.{list_any, filter, flat_map}
use Rattle.std.specs.Option.{option_to_list, option_map}
use Rattle.call_values.specs.declared.calls.Call.{Call}
use Rattle.call_values.specs.declared.calls.Call.TheVariants as call
use Rattle.call_values.specs.declared.calls.Casualty.{Casualty}
use Rattle.traffic_rules.specs.declared.acts.Act.{Act}
use Rattle.traffic_rules.specs.declared.acts.Act.TheVariants.{Send, CasualtyClosed}
use Rattle.traffic_rules.specs.Histories.{Entry, History, does, last_told, since}
use Rattle.coast_station.specs.declared.events.CoastWhat.{CoastWhat}
use Rattle.coast_station.specs.declared.casualties.OpenCasualty.{OpenCasualty}
use Rattle.coast_station.specs.Events.{alert_in, delay_for}
use Rattle.coast_station.specs.Firsts.{from_first, first_told, before_first}

-- a call is the acknowledgement of a distress alert of this identity
abbrev pub is_ack_of : (mmsi : ℕ) → Call → Bool
is_ack_of mmsi (call.Ack from casualty) = casualty.mmsi == mmsi
is_ack_of mmsi _ = false

-- an act acknowledges the distress alert of this identity
abbrev pub acknowledges : (mmsi : ℕ) → Act → Bool
acknowledges mmsi (Send call times) = is_ack_of mmsi call
acknowledges mmsi _ = false

-- an act ends the casualty of this identity: it acknowledges its alert, or informs the operator that another station
-- has done so
abbrev pub closes : (mmsi : ℕ) → Act → Bool
closes mmsi (Send call times) = is_ack_of mmsi call
closes mmsi (CasualtyClosed closed) = closed == mmsi
closes mmsi _ = false

-- an alert, where this identity sent it
abbrev pub where_of : (mmsi : ℕ) → Option Casualty → Option Casualty
where_of mmsi None = None
where_of mmsi (Some casualty) = if casualty.mmsi == mmsi then Some casualty else None

-- an alert with the moment at which it was heard
pub record HeardAlert : Type 0 where
  pub alert : Casualty
  pub at : ℕ

-- a casualty whose alert was heard and not acknowledged, accepted with a delay or not
abbrev pub open_with : Option ℕ → HeardAlert → OpenCasualty
open_with delay heard = record { alert = heard.alert; heard_at = heard.at; delay = delay }

-- the alert of this identity that is heard at an entry
abbrev pub alert_at : (own mmsi : ℕ) → Entry CoastWhat → Option HeardAlert
alert_at own mmsi e = option_map (λ (alert : Casualty). record { alert = alert; at = e.at }) (where_of mmsi (alert_in own e.what))

-- at an entry an alert of this identity is heard
abbrev pub is_alert : (own mmsi : ℕ) → Entry CoastWhat → Bool
is_alert own mmsi e = is_some (alert_at own mmsi e)

-- the delay with which an entry accepts this identity
abbrev pub delay_at : (mmsi : ℕ) → Entry CoastWhat → Option ℕ
delay_at mmsi e = delay_for mmsi e.what

-- the entries since the casualty was last ended
abbrev pub since_end : (mmsi : ℕ) → History CoastWhat → History CoastWhat
since_end mmsi h = since (does (closes mmsi)) h

-- the casualty is born: an alert of it was heard since it was last ended
abbrev pub is_born : (own mmsi : ℕ) → History CoastWhat → Bool
is_born own mmsi h = list_any (is_alert own mmsi) (since_end mmsi h)

-- the entries from its birth on: the first alert of it since it was last ended, and all after that
abbrev pub since_birth : (own mmsi : ℕ) → History CoastWhat → History CoastWhat
since_birth own mmsi h = from_first (is_alert own mmsi) (since_end mmsi h)

-- the delay with which it was first accepted after its birth
abbrev pub accepted : (own mmsi : ℕ) → History CoastWhat → Option ℕ
accepted own mmsi h = first_told (delay_at mmsi) (since_birth own mmsi h)

-- its last alert from its birth on, before it was accepted
abbrev pub alert_of : (own mmsi : ℕ) → History CoastWhat → Option HeardAlert
alert_of own mmsi h = last_told (alert_at own mmsi) (before_first (delay_at mmsi) (since_birth own mmsi h))

-- the open casualty of this identity
abbrev pub open_casualty : (own mmsi : ℕ) → History CoastWhat → Option OpenCasualty
open_casualty own mmsi h = option_map (open_with (accepted own mmsi h)) (alert_of own mmsi h)

-- identities with that of an alert put last, where it isn't among them
abbrev pub with_alert : Option Casualty → List ℕ → List ℕ
with_alert None identities = identities
with_alert (Some casualty) identities =
    if list_any (λ (mmsi : ℕ). mmsi == casualty.mmsi) identities then identities else identities ++ casualty.mmsi ∷ []

-- the identities of the casualties that are born, in the order of their births
abbrev pub born : (own : ℕ) → History CoastWhat → List ℕ
born own [] = []
born own (e ∷ h) = filter (λ (mmsi : ℕ). not (does (closes mmsi) e)) (with_alert (alert_in own e.what) (born own h))

-- the open casualties, in the order of their births
abbrev pub open_casualties : (own : ℕ) → History CoastWhat → List OpenCasualty
open_casualties own h = flat_map (λ (mmsi : ℕ). option_to_list (open_casualty own mmsi h)) (born own h)
