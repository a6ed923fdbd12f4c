use Rattle.std.proofs.Common.{[], length, refl, ap, arith}
use Rattle.traffic_replay.proofs.GroupKeeping.{none_kept}
use Rattle.traffic_replay.proofs.command.Replay.new.Goals as goal

pub returns : goal.returns
returns c = record {
  said = [];
  are_said = refl;
  keeps = record {
    point = refl;
    ready = tt;
    heard = none_kept c.new.result c.new.ensures.holds;
    few = omega (arith, ap length c.new.ensures.empty);
    station = (refl, (refl, refl, refl, refl));
  };
}
