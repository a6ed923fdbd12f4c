-- a step of a station, whatever its rules and whatever it keeps of its histories
use Rattle.std.proofs.Common.{◌≡◌, ℕ, ◌≤◌, Option, None, Result, List, ◌∷◌, sym, ap, subst, arith}
use Rattle.std.specs.Prelude.{OnOk, OnErr}
use Rattle.traffic_rules.specs.declared.acts.Act.{Act}
use Rattle.traffic_rules.specs.declared.refusals.StationRefusal.{StationRefusal}
use Rattle.traffic_rules.specs.Histories.{History, last_moment}
use Rattle.traffic_rules.specs.Moments.{time_back}
use Rattle.traffic_rules.specs.Rules.{Rules, refusal_or, answer_to, continued, Legal}
use Rattle.traffic_rules.specs.Giving.{answer_with}
use Rattle.traffic_rules.proofs.Steps.{in_time, entry_at, refused_on_time}

-- an event that isn't before a station's last moment isn't before the history's
pub not_before : {What : Type 0} (last : ℕ) (h : History What) (at : ℕ) → last ≡ last_moment h → None ≡ time_back last at → last_moment h ≤ at
not_before last h at same none = subst (λ (n : ℕ). n ≤ at) same (in_time last at (sym none))

-- a step of a station, whatever it keeps of its histories
module _ {What : Type 0} (rules : Rules What) (h : History What) (at : ℕ) (what : What) where
  pub answer_on_time : last_moment h ≤ at → answer_to rules h at what ≡ refusal_or (rules.refusal h what) (rules.due h at what)
  answer_on_time late = ap (λ (r : Option StationRefusal). refusal_or r (rules.due h at what)) (refused_on_time rules h at what late)

  -- what is kept of the history after a refusal, and of the history with the event put last where it is accepted, is
  -- kept as the history goes on
  pub goes_on : (Keeps : History What → Type 0) (result : Result (Unit {0}) StationRefusal) (acts : List Act) → last_moment h ≤ at → rules.IsEvent what → Legal rules h
      → answer_with result acts ≡ refusal_or (rules.refusal h what) (rules.due h at what) → OnErr result (Keeps h)
      → (rules.refusal h what ≡ None → OnOk result (Keeps (entry_at rules h at what ∷ h))) → Legal rules (continued rules h at what) × Keeps (continued rules h at what)
  goes_on Keeps result acts late event legal answer same after = grind arith
