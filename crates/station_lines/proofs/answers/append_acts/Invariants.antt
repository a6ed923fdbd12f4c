use Rattle.std.proofs.Common.{◌≡◌, ◌++◌, take, flat_map}
use Rattle.station_lines.specs.Answers.{act_line}
use Rattle.station_lines.proofs.answers.append_acts.Given as goal

abbrev pub invariant-loop-act : goal.invariant-loop-act
invariant-loop-act l = l.out.items ≡ l.initial.out.items ++ flat_map (λ act. l.station ++ act_line l.at act) (take l.act-index l.acts)
