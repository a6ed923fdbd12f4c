use Rattle.std.proofs.lemmas.Result.{MatchResult-weaker}
use Rattle.line_engine.proofs.Writing.{fails_first, fails_second, fails_flush, on_err}
use Rattle.line_engine.proofs.telling.write_flushed.Goals as goal

pub returns-in_err-write_all-clause-failed : goal.returns-in_err-write_all-clause-failed
returns-in_err-write_all-clause-failed g c =
    on_err _ (fails_first c.args.text.now c.args.last.now c.in_err-write_all.ensures.front c.in_err-write_all.ensures.cause)

pub returns-in_err-write_all-2-clause-failed : goal.returns-in_err-write_all-2-clause-failed
returns-in_err-write_all-2-clause-failed g c =
    on_err _ (fails_second c.write_all.new.sink c.args.text.now c.args.last.now c.in_ok-write_all.ensures.all c.in_ok-write_all.ensures.sound c.in_err-write_all-2.ensures.front c.in_err-write_all-2.ensures.cause)

pub returns-clause-failed : goal.returns-clause-failed
returns-clause-failed g c =
    MatchResult-weaker c.flush.result c.flush.ensures.cause (λ _ _. tt)
    (λ _ rises. fails_flush c.write_all.new.sink c.write_all-2.new.sink c.args.text.now c.args.last.now c.in_ok-write_all.ensures.all c.in_ok-write_all.ensures.sound c.in_ok-write_all-2.ensures.all c.in_ok-write_all-2.ensures.sound c.flush.ensures.bytes rises)
