use Rattle.evidence_board.proofs.Loads.{in_order, both_looked}
use Rattle.evidence_board.proofs.looking.look_place.Goals as goal

pub keep-requires-clause-order : goal.keep-requires-clause-order
keep-requires-clause-order g c =
    let first = c.load_past-past.ensures in
    let then = c.load_least-least.ensures in
    in_order g.A.Allowed.facts c.args.p c.load_past-past.result c.load_least-least.result _ _ _ c.if-past-eq0.false first.place first.told then.place then.told.met

pub returns-clause-looked : goal.returns-clause-looked
returns-clause-looked g c =
    let first = c.load_past-past.ensures in
    let then = c.load_least-least.ensures in
    both_looked g.A.Allowed.facts c.args.p c.load_past-past.result c.load_least-least.result _ _ _ c.if-past-eq0.false first.place first.told then.place then.told.no_less then.told.met then.told.allowed
