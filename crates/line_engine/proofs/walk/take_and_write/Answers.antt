use Rattle.std.proofs.lemmas.Result.{MatchResult-weaker, on_ok_weaker}
use Rattle.line_engine.proofs.Going.{on_line, on_written, counted_line, counted_written, stops_at_line, stops_in_write}
use Rattle.line_engine.proofs.Writing.{exit, on_ok_both}
use Rattle.line_engine.proofs.walk.take_and_write.Goals as goal

pub returns-in_err-take_line-clause-stopped : goal.returns-in_err-take_line-clause-stopped
returns-in_err-take_line-clause-stopped g c =
    exit c.from_residual.result c.in_err-take_line.field-0.0 _ c.from_residual.ensures.1
    (λ start left taken rest t on. stops_at_line c.args.line.now rest c.take_line.new.out.items left g.met.C.Command.gives t on c.in_err-take_line.field-0.0 (c.in_err-take_line.ensures.stopped on.lines on.text on.stands on.count_is))

pub returns-then-len-lt-MOST_PENDING-clause-on : goal.returns-then-len-lt-MOST_PENDING-clause-on
returns-then-len-lt-MOST_PENDING-clause-on g c = λ start taken rest t on.
    on_line c.args.line.now t on (c.in_ok-take_line.ensures.taken on.lines on.text on.stands on.count_is)

pub returns-clause-counted : goal.returns-clause-counted
returns-clause-counted g c =
    let was = c.requires.counted in
    let is = counted_line was (c.in_ok-take_line.ensures.taken was.lines was.written was.stands was.count_is) in
    on_ok_weaker c.write_pending.result (λ e. counted_written c.write_pending.new.out.items e is) c.write_pending.ensures.emptied

pub returns-clause-on : goal.returns-clause-on
returns-clause-on g c =
    on_ok_both c.write_pending.result c.write_pending.ensures.emptied c.write_pending.ensures.wrote
    (λ e wrote start taken rest t on.
    let line = on_line c.args.line.now t on (c.in_ok-take_line.ensures.taken on.lines on.text on.stands on.count_is) in
    on_written c.write_pending.new.out.items e line (wrote start line.text line.wrote))

pub returns-clause-stopped : goal.returns-clause-stopped
returns-clause-stopped g c =
    MatchResult-weaker c.write_pending.result c.write_pending.ensures.failed (λ _ _. tt)
    (λ halt fails start left taken rest t on. stops_in_write c.write_pending.new.sink c.write_pending.new.out.items left g.met.C.Command.gives (on_line c.args.line.now t on (c.in_ok-take_line.ensures.taken on.lines on.text on.stands on.count_is)) halt fails)
