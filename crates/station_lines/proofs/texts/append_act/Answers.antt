use Rattle.std.proofs.Common.{append_assoc}
use Rattle.station_lines.proofs.texts.append_act.Goals as goal

pub returns-in-Distress : goal.returns-in-Distress
returns-in-Distress g c = rw (c.in-Distress.is, c.append_ship_in_distress.ensures.items, c.append-in-Distress.ensures.items) (simp append_assoc)
