use Rattle.std.proofs.Common.{◌++◌}
use Rattle.traffic_replay.specs.inside.Gives.{gives_text}
use Rattle.traffic_replay.proofs.command.ReplayingCommand.finish.Goals as goal

pub returns-clause-ends : goal.returns-clause-ends
returns-clause-ends g c = λ lines written stands.
    let gives = gives_text c.args.self.now.replay lines (written ++ c.args._out.now.items) stands.1 in
    (gives.0, gives.1, c.of.ensures)
