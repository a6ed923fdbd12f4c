use Rattle.std.proofs.Common.{◌≡◌, Some, sym, ◌∙◌, ap, get_or, List}
use Rattle.coast_station.specs.declared.casualties.OpenCasualty.{OpenCasualty}
use Rattle.coast_station.proofs.Places.{at_place, nowhere}
use Rattle.coast_station.proofs.casualties.Casualties.find.Goals as goal

pub returns-in-Some : goal.returns-in-Some
returns-in-Some c =
    let x = c.index-deref-index.result in
    let here = at_place c.args.mmsi c.args.self.now c.in-Some.index x x (sym c.in-Some.ensures.value) in
    let same : c.deref.result.now ≡ c.args.self.now = cc in
    ap (λ (y : OpenCasualty). Some y) (c.index-deref-index.is ∙ ap (λ (xs : List OpenCasualty). get_or xs c.in-Some.index x) same) ∙ sym here.found

pub returns-in-None : goal.returns-in-None
returns-in-None c = sym (nowhere c.args.mmsi c.args.self.now (sym c.in-None.ensures.value)).found
