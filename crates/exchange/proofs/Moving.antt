-- how an end moves at an event
use Rattle.std.proofs.Common.{◌≡◌, ℕ, Option, Some, None, List, refl, ◌∙◌, ap}
use Rattle.traffic_rules.specs.declared.acts.Act.{Act}
use Rattle.traffic_rules.specs.declared.refusals.StationRefusal.{StationRefusal}
use Rattle.traffic_rules.specs.Histories.{History}
use Rattle.traffic_rules.specs.Rules.{Rules, refusal_or, unless_refused, refused, answer_to, continued}
use Rattle.exchange.specs.WorldHistories.{Given}
use Rattle.exchange.specs.WorldRules.{given_by}
use Rattle.exchange.specs.inside.Moves.{after_event}

module _ {What : Type 0} (rules : Rules What) where
  by_refusal : (r : Option StationRefusal) (acts : List Act) (h : History What) (at : ℕ) (what : What)
      → after_event (Some (at, what)) (given_by (refusal_or r acts)) h ≡ unless_refused r (record { at = at; what = what; acts = acts }) h
  by_refusal None acts h at what = refl
  by_refusal (Some refusal) acts h at what = refl

  -- an end goes on by its rules
  pub goes_on : (h : History What) (at : ℕ) (what : What) (g : Given) → g ≡ given_by (answer_to rules h at what)
      → after_event (Some (at, what)) g h ≡ continued rules h at what
  goes_on h at what g is =
      ap (λ (some : Given). after_event (Some (at, what)) some h) is ∙ by_refusal (refused rules h at what) (rules.due h at what) h at what
