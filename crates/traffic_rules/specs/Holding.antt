-- Calls that a station holds until they are answered, 16 at most: this project's profile.
use Rattle.std.specs.Prelude.{◌≡◌, ℕ, zero, suc, ◌+◌, ◌<◌, Option, Some, None, is_some, is_none, position, List, [], ◌∷◌, slice_index_or, slice_set, if◌then◌else◌}
use Rattle.std.specs.Option.{option_map}
use Rattle.call_values.specs.declared.calls.Call.{Call}
use Rattle.traffic_rules.specs.declared.held.Holding.{Holding}
use Rattle.traffic_rules.specs.declared.held.Held.{Held}
use Rattle.traffic_rules.specs.declared.held.Side.{Side}
use Rattle.traffic_rules.specs.declared.held.Side.TheVariants.{Sent, Got}

-- places for held calls, the first one for number 1
abbrev pub Places : Type 0
Places = List (Option Holding)

-- what is in the place of a number; nothing where there is no such place
abbrev pub place_of : Places → (number : ℕ) → Option Holding
place_of places zero = None
place_of places (suc k) = slice_index_or places k None

-- the places after something was put into that of a number
abbrev pub with_place : Places → (number : ℕ) → Option Holding → Places
with_place places zero held = places
with_place places (suc k) held = slice_set places k held

-- a held call with its number
abbrev pub numbered : (number : ℕ) → Option Holding → Option Held
numbered number None = None
numbered number (Some x) = Some (record { number = number; call = x.call; side = x.side; at = x.at; times = x.times })

-- the call that is held under a number
abbrev pub held_under : Places → (number : ℕ) → Option Held
held_under places number = numbered number (place_of places number)

-- the least number whose place is empty
abbrev pub first_free : Places → Option ℕ
first_free places = option_map (λ index. index + 1) (position is_none places)

-- how many calls are held
abbrev pub calls_held : Places → ℕ
calls_held [] = 0
calls_held (held ∷ places) = (if is_some held then 1 else 0) + calls_held places

-- how often a call was sent when it is first held
abbrev pub first_times : Side → ℕ
first_times Sent = 1
first_times Got = 0

-- a call as it is first held
abbrev pub newly_held : Call → Side → (at : ℕ) → Holding
newly_held call side at = record { call = call; side = side; at = at; times = first_times side }

-- a sent call, sent fewer than 255 times
abbrev pub IsToSend : Option Holding → Type 0
IsToSend (Some x) = (x.side ≡ Sent) × (x.times < 255)
IsToSend None = ⊥

-- a held call after it was sent again
abbrev pub sent_at : (at : ℕ) → Option Holding → Option Holding
sent_at at (Some x) = Some (record x { at = at; times = x.times + 1 })
sent_at at None = None
