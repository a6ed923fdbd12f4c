use Rattle.std.proofs.Common.{◌++◌}
use Rattle.station_exchange.proofs.Further.{ends_so}
use Rattle.station_exchange.proofs.command.ExchangingCommand.finish.Goals as goal

pub returns-clause-ends : goal.returns-clause-ends
returns-clause-ends c = λ lines written stands.
    ends_so c.args.self.now lines (written ++ c.args._out.now.items) c.of.result c.is_well.result stands c.is_well.ensures c.of.ensures
