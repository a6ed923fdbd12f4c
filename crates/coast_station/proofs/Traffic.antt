-- a heard call that is neither a distress alert nor its acknowledgement
use Rattle.std.proofs.Common.{◌≡◌, ℕ, true, None, if◌then◌else◌, Option, List, [], refl, ◌∙◌, ap, sym}
use Rattle.call_values.specs.declared.calls.Call.{Call}
use Rattle.call_values.specs.declared.calls.Call.TheVariants as call
use Rattle.call_values.specs.declared.calls.Casualty.{Casualty}
use Rattle.traffic_rules.specs.declared.refusals.StationRefusal.{StationRefusal}
use Rattle.traffic_rules.specs.Holding.{Places}
use Rattle.traffic_rules.specs.Rules.{refusal_or}
use Rattle.traffic_rules.specs.Hearing.{heard_refusal, heard_due}
use Rattle.traffic_rules.specs.After.{after_hearing}
use Rattle.coast_station.specs.declared.events.CoastWhat.TheVariants.{Heard}
use Rattle.coast_station.specs.declared.casualties.OpenCasualty.{OpenCasualty}
use Rattle.coast_station.specs.declared.coasts.Coast.{Coast}
use Rattle.coast_station.specs.CoastRules.{is_for, at_call, refusal_at_call}
use Rattle.coast_station.specs.inside.Afterwards.{after_call, held_after_call, answer_by, afterwards}

-- it is one of traffic
pub record IsTraffic (own at : ℕ) (c : Call) : Type 0 where
  pub refusal : (cs : List OpenCasualty) (places : Places) → refusal_at_call cs places c ≡ heard_refusal places c
  pub due : (cs : List OpenCasualty) (places : Places) → at_call own cs places c ≡ heard_due own None places c
  pub open_ones : (cs : List OpenCasualty) → after_call at c cs ≡ cs
  pub held_ones : (places : Places) → held_after_call at c places ≡ after_hearing places c at

pub is_traffic : (own at : ℕ) (c : Call) → ((x : Casualty) → c ≡ call.Alert x → ⊥) → ((f : ℕ) (x : Casualty) → c ≡ call.Ack f x → ⊥) → IsTraffic own at c
is_traffic own at (call.Alert casualty) no_alert no_ack = absurd (no_alert casualty refl)
is_traffic own at (call.Ack from casualty) no_alert no_ack = absurd (no_ack from casualty refl)
is_traffic own at _ no_alert no_ack = record { refusal = λ cs places. refl; due = λ cs places. refl; open_ones = λ cs. refl; held_ones = λ places. refl }

module _ (coast : Coast) (at : ℕ) (c : Call) (traffic : IsTraffic coast.own at c) (is : is_for coast.own c ≡ true) where
  pub answer_to_traffic : refusal_or (heard_refusal coast.held c) (heard_due coast.own None coast.held c) ≡ answer_by coast at (Heard c)
  answer_to_traffic =
      ap (λ (r : Option StationRefusal). refusal_or r (heard_due coast.own None coast.held c)) (sym (traffic.refusal coast.casualties coast.held))
      ∙ ap (refusal_or (refusal_at_call coast.casualties coast.held c)) (sym (traffic.due coast.casualties coast.held))
      ∙ ap (λ b. refusal_or (if b then refusal_at_call coast.casualties coast.held c else None) (if b then at_call coast.own coast.casualties coast.held c else [])) (sym is)

  pub after_traffic : record coast { held = after_hearing coast.held c at } ≡ afterwards coast at (Heard c)
  after_traffic =
      ap (λ (l : Places). record coast { held = l }) (sym (traffic.held_ones coast.held))
      ∙ ap (λ (cs : List OpenCasualty). record coast { casualties = cs; held = held_after_call at c coast.held }) (sym (traffic.open_ones coast.casualties))
      ∙ ap (λ b. record coast { casualties = if b then after_call at c coast.casualties else coast.casualties; held = if b then held_after_call at c coast.held else coast.held }) (sym is)
