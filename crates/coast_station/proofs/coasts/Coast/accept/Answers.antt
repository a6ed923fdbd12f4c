use Rattle.std.proofs.Common.{List, sym, ◌∙◌, ap}
use Rattle.coast_station.specs.declared.casualties.OpenCasualty.{OpenCasualty}
use Rattle.coast_station.proofs.Places.{taken_at_once}
use Rattle.coast_station.proofs.coasts.Coast.accept.Goals as goal

pub returns-then-is_due_at_once-clause-after : goal.returns-then-is_due_at_once-clause-after
returns-then-is_due_at_once-clause-after c =
    let coast = c.args.self.now in
    ap (λ (cs : List OpenCasualty). record coast { casualties = cs })
    (c.close.ensures ∙ taken_at_once coast.band c.args.at c.args.mmsi c.args.delay coast.casualties c.in-Some.casualty (sym c.in-Some.ensures)
    (sym c.is_some.ensures ∙ c.if-is_some.false) (sym c.is_due_at_once.ensures ∙ c.if-is_due_at_once.true))
