use Rattle.std.proofs.Common.{◌++◌}
use Rattle.std.proofs.lemmas.Result.{on_ok_weaker, IfErr-weaker}
use Rattle.station_exchange.proofs.Further.{stands_on}
use Rattle.station_exchange.proofs.Unique.{taken_behind, refused_so}
use Rattle.station_exchange.proofs.command.ExchangingCommand.take.Goals as goal

pub returns-clause-stands : goal.returns-clause-stands
returns-clause-stands c = on_ok_weaker c.take_line.result
    (λ ok. λ lines written stands.
    stands_on c.args.self.now c.take_line.new.self lines c.args.line.now (written ++ c.args.out.now.items) (written ++ c.take_line.new.out.items) stands (ok stands.said written stands.keeps))
    c.take_line.ensures.ok

pub returns-clause-taken : goal.returns-clause-taken
returns-clause-taken c = on_ok_weaker c.take_line.result
    (λ ok. λ lines written stands.
    let takes = ok stands.said written stands.keeps in
    taken_behind c.one_exchange_line.ensures stands.said lines c.args.line.now takes.says stands.are_said takes.is_line)
    c.take_line.ensures.ok

pub returns-clause-refused : goal.returns-clause-refused
returns-clause-refused c = IfErr-weaker c.take_line.result _ _
    (λ refusal err. λ lines written stands.
    refused_so stands.said lines c.args.line.now refusal stands.are_said (err stands.said (written ++ c.args.out.now.items) stands.keeps))
    c.take_line.ensures.err
