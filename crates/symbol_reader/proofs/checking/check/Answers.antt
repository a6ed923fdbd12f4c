use Rattle.symbol_reader.proofs.Checks.{count_more, count_all}
use Rattle.symbol_reader.proofs.checking.check.Goals as goal

pub loop-symbol-preserved : goal.loop-symbol-preserved
loop-symbol-preserved c =
    count_more c.loop-symbol.check c.loop-symbol.symbol-index _ c.args.list.now c.loop-symbol-test.true c.loop-symbol.invariant

pub returns : goal.returns
returns c = count_all c.loop-symbol.check c.loop-symbol.symbol-index _ c.args.list.now c.loop-symbol-test.false c.loop-symbol.invariant
