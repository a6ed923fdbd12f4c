use Rattle.std.proofs.Common.{refl, sym, ◌∙◌}
use Rattle.traffic_rules.proofs.PublicLaws.{nothing_held}
use Rattle.ship_station.specs.Events.{ship_occurs}
use Rattle.ship_station.proofs.ships.Ship.new.Goals as goal

pub returns : goal.returns
returns c = (
  tt,
  record {
    own = refl;
    groups = c.new.ensures;
    last = refl;
    position = c.unknown.ensures;
    time = c.unknown-2.ensures;
    alert = refl;
    attempted = refl;
    delays = c.new-2.ensures;
    held = c.empty.ensures ∙ sym (nothing_held ship_occurs);
  },
)
