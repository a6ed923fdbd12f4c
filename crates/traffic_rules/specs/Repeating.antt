-- Sent calls that wait for their answers, 5 minutes before they are sent again and 5 before they are given up: this
-- project's profile.
use Rattle.std.specs.Prelude.{ℕ, suc, ◌==◌, ◌&&◌, Bool, Option, Some, None, List, [], ◌∷◌, ◌++◌, if◌then◌else◌}
use Rattle.traffic_rules.specs.declared.acts.Act.{Act}
use Rattle.traffic_rules.specs.declared.acts.Act.TheVariants.{Send, GaveUp}
use Rattle.traffic_rules.specs.declared.held.Holding.{Holding}
use Rattle.traffic_rules.specs.declared.held.Side.{Side}
use Rattle.traffic_rules.specs.Holding.{Places, sent_at}
use Rattle.traffic_rules.specs.Moments.{has_passed}
use Rattle.traffic_rules.specs.HeldTold.{answer_wait, is_sent}

-- a sent call has waited for its answer to the end
abbrev pub is_overdue : (at : ℕ) → Side → (since : ℕ) → Bool
is_overdue at side since = is_sent side && has_passed answer_wait since at

-- at a tick a call that has waited is sent again where it was sent once, and else given up
abbrev pub repeated : (at number : ℕ) → Option Holding → List Act
repeated at number None = []
repeated at number (Some x) = if is_overdue at x.side x.at then (if x.times == 1 then Send x.call 1 ∷ [] else GaveUp number ∷ []) else []

-- what is held of a call after a tick
abbrev pub ticked : (at : ℕ) → Option Holding → Option Holding
ticked at None = None
ticked at (Some x) = if is_overdue at x.side x.at then (if x.times == 1 then sent_at at (Some x) else None) else Some x

-- what is due at a tick for the calls under the numbers from one on, by rising number
abbrev pub repeats : (at number : ℕ) → Places → List Act
repeats at number [] = []
repeats at number (held ∷ places) = repeated at number held ++ repeats at (suc number) places
