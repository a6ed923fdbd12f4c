-- What a station holds after an event that it accepts.
use Rattle.std.specs.Prelude.{ℕ, Option, Some, None, map, if◌then◌else◌}
use Rattle.call_values.specs.declared.calls.Call.{Call}
use Rattle.traffic_rules.specs.declared.held.Side.{Side}
use Rattle.traffic_rules.specs.declared.held.Side.TheVariants.{Sent, Got}
use Rattle.traffic_rules.specs.Holding.{Places, first_free, with_place, newly_held}
use Rattle.traffic_rules.specs.Sending.{asks, acknowledges}
use Rattle.traffic_rules.specs.Hearing.{is_question, is_got, answered_number}
use Rattle.traffic_rules.specs.Repeating.{ticked}

-- the places after a call is held under a number
abbrev pub held_at : Option ℕ → Places → Call → Side → (at : ℕ) → Places
held_at (Some number) places call side at = with_place places number (Some (newly_held call side at))
held_at None places call side at = places

-- the places after a number is freed
abbrev pub freed_at : Option ℕ → Places → Places
freed_at (Some number) places = with_place places number None
freed_at None places = places

-- the places after a call was sent
abbrev pub after_sending : Places → Call → (at : ℕ) → Places
after_sending places call at = if asks call then held_at (first_free places) places call Sent at else places

-- the places after the call under a number was answered or declined
abbrev pub after_answering : Places → (number : ℕ) → Places
after_answering places number = with_place places number None

-- the places after a tick
abbrev pub after_tick : Places → (at : ℕ) → Places
after_tick places at = map (ticked at) places

-- the places after a question was heard
abbrev pub after_question : Places → Call → (at : ℕ) → Places
after_question places call at = if is_got places call then places else held_at (first_free places) places call Got at

-- the places after a call was heard
abbrev pub after_hearing : Places → Call → (at : ℕ) → Places
after_hearing places call at =
    if is_question call then after_question places call at
    else (if acknowledges call then freed_at (answered_number places call) places else places)
