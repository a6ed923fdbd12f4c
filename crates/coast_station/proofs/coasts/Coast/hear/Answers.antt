use Rattle.std.proofs.Common.{◌≡◌, true, sym, ◌∙◌, ap}
use Rattle.traffic_rules.specs.Holding.{Places}
use Rattle.coast_station.specs.CoastRules.{is_for}
use Rattle.coast_station.proofs.Traffic.{is_traffic, answer_to_traffic, after_traffic}
use Rattle.coast_station.proofs.coasts.Coast.hear.Goals as goal

pub returns-in_ok-hear-in_default : goal.returns-in_ok-hear-in_default
returns-in_ok-hear-in_default c =
    let coast = c.args.self.now in
    let call = c.args.call.now in
    let at = c.args.at in
    let traffic = is_traffic coast.own at call c.in_default.not-Alert c.in_default.not-Ack in
    let is : is_for coast.own call ≡ true = sym c.is_for.ensures ∙ c.if-not-is_for.false in
    record {
      answer = c.in_ok-hear-in_default.ensures.answer ∙ answer_to_traffic coast at call traffic is;
      after = ap (λ (l : Places). record coast { held = l }) c.in_ok-hear-in_default.ensures.held ∙ after_traffic coast at call traffic is;
      none = tt;
      unchanged = tt;
    }
