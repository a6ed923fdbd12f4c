use Rattle.std.proofs.Common.{sym, ◌∙◌}
use Rattle.line_engine.proofs.Writing.{some_items, fails_pending}
use Rattle.line_engine.proofs.telling.write_pending.Goals as goal

pub returns-in-Err-clause-failed : goal.returns-in-Err-clause-failed
returns-in-Err-clause-failed g c =
    let part = c.in-Err.ensures.front in (
      some_items _ _ c.args.out.now.ok.0 (sym c.is_empty.ensures ∙ c.if-is_empty.false),
      fails_pending c.args.out.now.items (part.0, part.1, sym c.deref.ensures.value ∙ part.2, part.3) c.in-Err.ensures.cause,
    )
