-- Events as they concern held calls: this project's profile.
use Rattle.std.specs.Prelude.{ℕ, ◌==◌, Bool, true, false}
use Rattle.call_values.specs.declared.calls.Call.{Call}

-- time passes; the operator answers or declines the call that is held under a number; a call is heard; anything else
pub data Occurrence : Type 0 where
  ticks : Occurrence
  answers : ℕ → Occurrence
  hears : Call → Occurrence
  other : Occurrence

-- time passes
abbrev pub is_tick : Occurrence → Bool
is_tick ticks = true
is_tick _ = false

-- the operator answers or declines the call under this number
abbrev pub is_answer : (number : ℕ) → Occurrence → Bool
is_answer number (answers k) = k == number
is_answer number _ = false
