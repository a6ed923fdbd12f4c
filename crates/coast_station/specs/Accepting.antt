-- How a coast station accepts and acknowledges distress alerts: that an acknowledgement waits 1 to 2.75 minutes from
-- the alert on MF and HF, and needn't on VHF, is ITU-R M.541's; that the operator accepts, and the refusals, are this
-- project's profile.
use Rattle.std.specs.Prelude.{ℕ, ◌==◌, ◌&&◌, ◌||◌, not, Bool, true, false, Option, Some, None, is_some, is_none, List, [], ◌∷◌, map, if◌then◌else◌}
use Rattle.std.specs.List.{filter}
use Rattle.call_values.specs.declared.calls.Call.TheVariants.{Ack}
use Rattle.call_values.specs.declared.calls.Casualty.{Casualty}
use Rattle.call_values.specs.declared.choices.Band.{Band}
use Rattle.call_values.specs.declared.choices.Band.TheVariants.{Mf, Hf, Vhf}
use Rattle.traffic_rules.specs.declared.acts.Act.{Act}
use Rattle.traffic_rules.specs.declared.acts.Act.TheVariants.{Send}
use Rattle.traffic_rules.specs.declared.refusals.StationRefusal.{StationRefusal}
use Rattle.traffic_rules.specs.declared.refusals.StationRefusal.TheVariants.{NoCasualty, NeedsDelay}
use Rattle.traffic_rules.specs.Moments.{has_passed}
use Rattle.coast_station.specs.declared.casualties.OpenCasualty.{OpenCasualty}

-- an open casualty has this identity
abbrev pub is_of : (mmsi : ℕ) → OpenCasualty → Bool
is_of mmsi casualty = casualty.alert.mmsi == mmsi

-- the open casualty of this identity
abbrev pub find_casualty : (mmsi : ℕ) → List OpenCasualty → Option OpenCasualty
find_casualty mmsi [] = None
find_casualty mmsi (casualty ∷ others) = if is_of mmsi casualty then Some casualty else find_casualty mmsi others

-- on MF and HF an acknowledgement waits for a delay, and on VHF it doesn't
abbrev pub waits : Band → Bool
waits Mf = true
waits Hf = true
waits Vhf = false

-- an alert is acknowledged to all ships, by a call that is sent once
abbrev pub acknowledgement : (own : ℕ) → Casualty → Act
acknowledgement own alert = Send (Ack own alert) 1

-- a delay was given and has passed
abbrev pub has_ended : Option ℕ → (from at : ℕ) → Bool
has_ended None from at = false
has_ended (Some delay) from at = has_passed delay from at

-- the acknowledgement of a casualty is due: it was accepted, and its delay has passed since its alert
abbrev pub is_due : (at : ℕ) → OpenCasualty → Bool
is_due at casualty = has_ended casualty.delay casualty.heard_at at

-- a casualty that is accepted with a delay or without one is acknowledged at once: on VHF, or where the delay has
-- passed since its alert
abbrev pub is_due_at_once : Band → (at : ℕ) → Option ℕ → OpenCasualty → Bool
is_due_at_once band at delay casualty = not (waits band) || has_ended delay casualty.heard_at at

-- accepting is refused where no casualty of the identity is open, or else on MF and HF where no delay is given
abbrev pub accept_refusal : Band → (mmsi : ℕ) → (delay : Option ℕ) → List OpenCasualty → Option StationRefusal
accept_refusal band mmsi delay casualties =
    if is_none (find_casualty mmsi casualties) then Some (NoCasualty mmsi)
    else (if waits band && is_none delay then Some NeedsDelay else None)

-- a casualty that was accepted before stays as it is; another is acknowledged where that is due at once
abbrev pub accept_due_of : (own : ℕ) → Band → (at : ℕ) → (delay : Option ℕ) → Option OpenCasualty → List Act
accept_due_of own band at delay None = []
accept_due_of own band at delay (Some casualty) =
    if is_some casualty.delay then []
    else (if is_due_at_once band at delay casualty then acknowledgement own casualty.alert ∷ [] else [])

-- the acts of accepting a ship's alert, if a casualty of it is open
abbrev pub accept_due : (own : ℕ) → Band → (at : ℕ) → (mmsi : ℕ) → (delay : Option ℕ) → List OpenCasualty → List Act
accept_due own band at mmsi delay casualties = accept_due_of own band at delay (find_casualty mmsi casualties)

-- at a tick each casualty whose acknowledgement is due is acknowledged, in their order
abbrev pub acknowledgements_due : (own at : ℕ) → List OpenCasualty → List Act
acknowledgements_due own at casualties = map (λ (casualty : OpenCasualty). acknowledgement own casualty.alert) (filter (is_due at) casualties)
