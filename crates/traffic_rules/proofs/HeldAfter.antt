-- what is held under a number after one entry more
use Rattle.std.proofs.Common.{◌≡◌, ℕ, ◌==◌, ◌&&◌, not, Bool, true, false, Option, Some, None, ◌∷◌, if◌then◌else◌, refl, ◌∙◌, arith}
use Rattle.std.specs.Prelude.{IfSome}
use Rattle.call_values.specs.declared.calls.Call.{Call}
use Rattle.traffic_rules.specs.declared.held.Holding.{Holding}
use Rattle.traffic_rules.specs.declared.held.Side.{Side}
use Rattle.traffic_rules.specs.Histories.{Entry, History, since}
use Rattle.traffic_rules.specs.Holding.{first_times}
use Rattle.traffic_rules.specs.Occurrences.{Occurrence, is_tick}
use Rattle.traffic_rules.specs.HeldTold.{begun_by, sent_again_at, is_sent, begins, ends, opened, held_since, begun, held_told}
use Rattle.traffic_rules.specs.Repeating.{is_overdue, ticked}

-- a tick gives up what is held
abbrev pub gives_up : (at : ℕ) → Option Holding → Bool
gives_up at None = false
gives_up at (Some x) = is_overdue at x.side x.at && not (x.times == 1)

-- a call was sent once, or was got, when it begins to be held
abbrev pub IsNew : Option Holding → Type 0
IsNew o = IfSome o (λ x. x.times ≡ first_times x.side)

abbrev pub holding : Call → Side → (at times : ℕ) → Holding
holding call side at times = record { call = call; side = side; at = at; times = times }

-- what is held of a call by its side, and by the tick at which it was sent again
abbrev pub again : Side → Option ℕ → Holding → Option Holding
again side first x = if is_sent side then sent_again_at first x else Some x

module _ {What : Type 0} (occurs : What → Occurrence) where
  since_silent : (o : Option Holding) (e : Entry What) (later : History What) → is_tick (occurs e.what) ≡ false → held_since occurs o (e ∷ later) ≡ held_since occurs o later
  since_silent o e later quiet = grind arith

  told_by : (e : Entry What) (h : History What) (k : ℕ) → begins occurs k e ≡ false → ends occurs k e ≡ false
      → held_told occurs (e ∷ h) k ≡ held_since occurs (begun occurs (opened occurs k h)) (e ∷ since (begins occurs k) h)
  told_by e h k no_begin no_end = grind arith

  -- an entry that doesn't mention a number, and is no tick, leaves it
  pub silent : (e : Entry What) (h : History What) (k : ℕ) → begins occurs k e ≡ false → ends occurs k e ≡ false → is_tick (occurs e.what) ≡ false
      → held_told occurs (e ∷ h) k ≡ held_told occurs h k
  silent e h k no_begin no_end no_tick = told_by e h k no_begin no_end ∙ since_silent (begun occurs (opened occurs k h)) e (since (begins occurs k) h) no_tick

  -- an entry frees a number
  pub shuts : (e : Entry What) (h : History What) (k : ℕ) → ends occurs k e ≡ true → held_told occurs (e ∷ h) k ≡ None
  shuts e h k end = grind arith

  -- an entry begins to hold a call
  pub starts : (e : Entry What) (h : History What) (k : ℕ) → begins occurs k e ≡ true → ends occurs k e ≡ false
      → held_told occurs (e ∷ h) k ≡ begun_by (occurs e.what) e.at e.acts
  starts e h k begin no_end = grind arith

  passes_by : (e : Entry What) (h : History What) (k : ℕ) (b : Bool) → begins occurs k e ≡ false → is_tick (occurs e.what) ≡ true
      → ends occurs k e ≡ b → gives_up e.at (held_told occurs h k) ≡ b → held_told occurs (e ∷ h) k ≡ ticked e.at (held_told occurs h k)
  passes_by e h k b no_begin tick end up = grind arith

  -- a tick frees a number exactly where it gives its call up
  pub passes : (e : Entry What) (h : History What) (k : ℕ) → begins occurs k e ≡ false → is_tick (occurs e.what) ≡ true
      → ends occurs k e ≡ gives_up e.at (held_told occurs h k) → held_told occurs (e ∷ h) k ≡ ticked e.at (held_told occurs h k)
  passes e h k no_begin tick end = passes_by e h k (gives_up e.at (held_told occurs h k)) no_begin tick end refl
