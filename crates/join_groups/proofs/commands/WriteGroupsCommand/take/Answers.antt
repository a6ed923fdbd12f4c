use Rattle.std.proofs.Common.{◌++◌}
use Rattle.std.proofs.lemmas.Result.{on_ok_weaker, IfErr-weaker}
use Rattle.plain_laws.proofs.Results.{on_ok_both}
use Rattle.join_groups.proofs.LinesTaken.{stands_after, taken_behind, refused_behind}
use Rattle.join_groups.proofs.commands.WriteGroupsCommand.take.Goals as goal

pub returns-clause-stands : goal.returns-clause-stands
returns-clause-stands g c = on_ok_both c.take_line.result
    (λ took few. λ lines written stands. (
      stands.0,
      stands_after c.args.self.now.groups c.take_line.new.groups c.args.line.now lines (written ++ c.args._out.now.items) took few stands.1,
    ))
    c.take_line.ensures.ok
    c.take_line.ensures.few

pub returns-clause-taken : goal.returns-clause-taken
returns-clause-taken g c = on_ok_weaker c.take_line.result
    (λ took. λ lines written stands.
    taken_behind c.one_line.ensures g.T.GroupWriter.tells c.args.self.now.groups c.take_line.new.groups c.args.line.now lines (written ++ c.args._out.now.items) took stands.1)
    c.take_line.ensures.ok

pub returns-clause-refused : goal.returns-clause-refused
returns-clause-refused g c = IfErr-weaker c.take_line.result _ _
    (λ refusal refused. λ lines written stands.
    refused_behind g.T.GroupWriter.tells c.args.self.now.groups c.args.line.now lines (written ++ c.args._out.now.items) refusal refused stands.1)
    c.take_line.ensures.err
