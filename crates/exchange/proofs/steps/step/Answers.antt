use Rattle.std.proofs.Common.{sym, ◌∙◌, ap, subst}
use Rattle.traffic_rules.specs.Histories.{History}
use Rattle.exchange.specs.StandsFor.{given_with}
use Rattle.exchange.specs.WorldRules.{given_by}
use Rattle.exchange.proofs.Moving.{goes_on}
use Rattle.exchange.proofs.steps.step.Goals as goal

pub returns-clause-stands : goal.returns-clause-stands
returns-clause-stands g c = λ who h stands.
    let step = c.happen-answer in
    let gave = given_with c.outcome_of.result step.new.acts.items in
    subst (λ (x : History _). g.S.Station.stands step.new.self who x)
    (sym (goes_on (g.S.Station.rules who) h c.args.at c.args.what.now gave (c.outcome_of.ensures.gave ∙ ap given_by (step.ensures.answers who h stands))))
    (step.ensures.goes_on who h stands)
