use Rattle.std.proofs.Common.{Option, Some, Ok, refl, subst}
use Rattle.input_lines.specs.declared.join.JoinLine.{JoinLine}
use Rattle.input_lines.specs.PointLine.{joined, traffic}
use Rattle.input_lines.specs.Lines.{ReadsJoinedAt}
use Rattle.dsc_files.proofs.points.point_line.Goals as goal

pub returns-in-Some : goal.returns-in-Some
returns-in-Some c =
    let some : ReadsJoinedAt c.args.point c.args.line.now (Ok (Some c.in-Some.says)) =
    subst (λ (o : Option JoinLine). ReadsJoinedAt c.args.point c.args.line.now (Ok o)) c.in-Some.is c.in_ok-says.ensures in
    (joined some.0, (some.1.0, (c.in-Some.says, (some.1.1, refl))))

pub returns-in_ok-read_traffic-in-None : goal.returns-in_ok-read_traffic-in-None
returns-in_ok-read_traffic-in-None c = (traffic c.in_ok-read_traffic-in-None.field-0, (c.in_ok-read_traffic-in-None.ensures.read.0, refl))
