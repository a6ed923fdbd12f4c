use Rattle.std.proofs.Common.{sym, ◌∙◌, ap, List}
use Rattle.std.specs.List.{remove}
use Rattle.coast_station.specs.declared.casualties.OpenCasualty.{OpenCasualty}
use Rattle.coast_station.proofs.Places.{at_place, nowhere}
use Rattle.coast_station.proofs.casualties.Casualties.close.Goals as goal

pub returns-in-Some : goal.returns-in-Some
returns-in-Some c =
    let x = c.remove.result in
    let taken = (at_place c.args.mmsi c.args.self.now c.in-Some.index x x (sym c.in-Some.ensures.value)).taken in
    c.remove.ensures.items ∙ ap (λ (xs : List OpenCasualty). remove xs c.in-Some.index) c.self.view_is ∙ taken

pub returns-in-None : goal.returns-in-None
returns-in-None c = sym (nowhere c.args.mmsi c.args.self.now (sym c.in-None.ensures.value)).taken
