use Rattle.std.proofs.Common.{sym, ◌∙◌}
use Rattle.coast_station.specs.CoastRules.{coast_rules}
use Rattle.traffic_rules.proofs.PublicLaws.{not_before, answer_on_time}
use Rattle.coast_station.proofs.Keeping.{answer_same, goes}
use Rattle.coast_station.proofs.coasts.Coast.take.Goals as goal

pub returns-in-None-clause-answers : goal.returns-in-None-clause-answers
returns-in-None-clause-answers c who h stands =
    let at = c.args.at in
    let what = c.args.what.now in
    let late = not_before c.args.self.now.last h at stands.1.last c.in-None.ensures in
    c.handle.ensures.answer ∙ answer_same who h c.args.self.now at what stands.1 ∙ sym (answer_on_time (coast_rules who) h at what late)

pub returns-in-None-clause-goes_on : goal.returns-in-None-clause-goes_on
returns-in-None-clause-goes_on c who h stands =
    let at = c.args.at in
    let what = c.args.what.now in
    let late = not_before c.args.self.now.last h at stands.1.last c.in-None.ensures in
    goes who h at what c.args.self.now c.handle.new.self c.handle.result c.handle.new.acts.items late c.lawful.ensures stands c.handle.ensures.answer c.handle.ensures.unchanged c.handle.ensures.after
