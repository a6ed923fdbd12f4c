use Rattle.std.proofs.Common.{◌++◌}
use Rattle.std.proofs.lemmas.Result.{on_ok_weaker, IfErr-weaker}
use Rattle.traffic_replay.proofs.Unique.{taken_behind, refused_so}
use Rattle.traffic_replay.proofs.command.ReplayingCommand.take.Goals as goal

pub returns-clause-taken : goal.returns-clause-taken
returns-clause-taken g c = on_ok_weaker c.take_line.result
    (λ ok. λ lines written stands.
    let takes = ok stands.1.said written stands.1.keeps in
    taken_behind c.one_point_line.ensures stands.1.said lines c.args.line.now takes.says stands.1.are_said takes.is_line takes.few)
    c.take_line.ensures.ok

pub returns-clause-refused : goal.returns-clause-refused
returns-clause-refused g c = IfErr-weaker c.take_line.result _ _
    (λ refusal err. λ lines written stands.
    refused_so c.one_point_line.ensures stands.1.said lines c.args.line.now refusal stands.1.are_said (err stands.1.said (written ++ c.args.out.now.items) stands.1.keeps))
    c.take_line.ensures.err
