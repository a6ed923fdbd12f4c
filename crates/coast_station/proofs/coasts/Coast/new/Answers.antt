use Rattle.std.proofs.Common.{refl, sym, ◌∙◌}
use Rattle.traffic_rules.proofs.PublicLaws.{nothing_held}
use Rattle.coast_station.specs.Events.{coast_occurs}
use Rattle.coast_station.proofs.coasts.Coast.new.Goals as goal

pub returns : goal.returns
returns c = (tt, record { own = refl; band = refl; last = refl; casualties = c.none.ensures; held = c.empty.ensures ∙ sym (nothing_held coast_occurs) })
