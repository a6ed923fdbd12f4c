use Rattle.std.proofs.Common.{sym}
use Rattle.coast_station.proofs.Places.{at_place, nowhere}
use Rattle.coast_station.proofs.casualties.Casualties.replace.Goals as goal

pub returns-in-Some : goal.returns-in-Some
returns-in-Some c =
    let x = c.args.casualty.now in
    let put = (at_place x.alert.mmsi c.args.self.now c.in-Some.index x x (sym c.in-Some.ensures.value)).put in
    cc

pub returns-in-None : goal.returns-in-None
returns-in-None c = let x = c.args.casualty.now in sym ((nowhere x.alert.mmsi c.args.self.now (sym c.in-None.ensures.value)).put x)
