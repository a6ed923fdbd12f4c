use Rattle.std.proofs.Common.{List, Option, sym, subst}
use Rattle.call_values.specs.declared.calls.Call.{Call}
use Rattle.slot_evidence.specs.declared.places.Seen.{Seen}
use Rattle.slot_evidence.specs.Facts.{union}
use Rattle.slot_evidence.specs.Sheet.{IsEnds, facts_in}
use Rattle.live_watch.specs.Told.{IsReport}
use Rattle.live_watch.proofs.batches.WatchedGroup.take_look.Goals as goal

pub returns-then-is_judged-clause-report : goal.returns-then-is_judged-clause-report
returns-then-is_judged-clause-report c = λ F ends.
    subst (λ (o : Option Call). IsReport (union F (facts_in c.args.sheet.now)) o) (sym c.requires)
    (c.is_judged.ensures c.if-is_judged.true (union F (facts_in c.args.sheet.now)) (c.with_known-all.ensures F ends))

pub returns-in-Ok-clause-report : goal.returns-in-Ok-clause-report
returns-in-Ok-clause-report c = λ F ends. c.in-Ok.ensures.call (union F (facts_in c.args.sheet.now)) (c.with_known-all.ensures F ends)

pub returns-in-Err-clause-report : goal.returns-in-Err-clause-report
returns-in-Err-clause-report c = λ F ends.
    subst (λ (o : Option Call). IsReport (union F (facts_in c.args.sheet.now)) o) (sym c.requires)
    (c.in-Err.unreported.none (union F (facts_in c.args.sheet.now))
    (subst (λ (s : List Seen). IsEnds (union F (facts_in c.args.sheet.now)) s) (sym c.in-Err.ensures.none) (c.with_known-all.ensures F ends)))
