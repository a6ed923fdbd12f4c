-- What is left of the open casualties after an event.
use Rattle.std.specs.Prelude.{ℕ, not, Option, Some, None, is_some, List, [], ◌∷◌, ◌++◌, if◌then◌else◌}
use Rattle.std.specs.List.{filter}
use Rattle.call_values.specs.declared.calls.Casualty.{Casualty}
use Rattle.coast_station.specs.declared.casualties.OpenCasualty.{OpenCasualty}
use Rattle.coast_station.specs.Accepting.{is_of, is_due, find_casualty}

-- without that of an identity
abbrev pub without : (mmsi : ℕ) → List OpenCasualty → List OpenCasualty
without mmsi [] = []
without mmsi (casualty ∷ others) = if is_of mmsi casualty then others else casualty ∷ without mmsi others

-- with this one in place of that of its identity
abbrev pub replaced : (mmsi : ℕ) → OpenCasualty → List OpenCasualty → List OpenCasualty
replaced mmsi new [] = []
replaced mmsi new (casualty ∷ others) = if is_of mmsi casualty then new ∷ others else casualty ∷ replaced mmsi new others

-- without those whose acknowledgement is due
abbrev pub not_due : (at : ℕ) → List OpenCasualty → List OpenCasualty
not_due at casualties = filter (λ (casualty : OpenCasualty). not (is_due at casualty)) casualties

-- a casualty as its alert is heard
abbrev pub newly_open : Casualty → (at : ℕ) → OpenCasualty
newly_open alert at = record { alert = alert; heard_at = at; delay = None }

-- after an alert: one that was accepted stays as it is, another gets this alert, and where there is none it is put last
abbrev pub noted_at : Option OpenCasualty → Casualty → (at : ℕ) → List OpenCasualty → List OpenCasualty
noted_at None alert at casualties = casualties ++ newly_open alert at ∷ []
noted_at (Some casualty) alert at casualties = if is_some casualty.delay then casualties else replaced alert.mmsi (newly_open alert at) casualties

-- the open casualties after an alert
abbrev pub noted : Casualty → (at : ℕ) → List OpenCasualty → List OpenCasualty
noted alert at casualties = noted_at (find_casualty alert.mmsi casualties) alert at casualties
