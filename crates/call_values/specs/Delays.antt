-- Delays: ITU-R M.541, distress alert attempts and their acknowledgement.
use Rattle.std.specs.Prelude.{ℕ, ◌≤◌}
use Rattle.call_values.specs.declared.bounds.TheConstants as bounds

-- the wait from one attempt of an alert to the next, in milliseconds: 3.5 to 4.5 minutes
abbrev pub IsAlertDelay : ℕ → Type 0
IsAlertDelay ms = (bounds.SHORTEST_ALERT_DELAY ≤ ms) × (ms ≤ bounds.LONGEST_ALERT_DELAY)

-- the wait from an alert to its acknowledgement by a coast station on MF or HF, in milliseconds: 1 to 2.75 minutes
abbrev pub IsCoastDelay : ℕ → Type 0
IsCoastDelay ms = (bounds.SHORTEST_COAST_DELAY ≤ ms) × (ms ≤ bounds.LONGEST_COAST_DELAY)
