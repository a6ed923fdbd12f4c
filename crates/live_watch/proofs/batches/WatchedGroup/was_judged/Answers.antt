use Rattle.std.proofs.Common.{[], List, None, arith, subst}
use Rattle.std.proofs.lemmas.List.{get_or_read}
use Rattle.slot_evidence.specs.declared.places.Seen.{Seen}
use Rattle.live_watch.specs.Told.{IsReportOf}
use Rattle.live_watch.proofs.batches.WatchedGroup.was_judged.Goals as goal

pub returns-then-self-known : goal.returns-then-self-known
returns-then-self-known c = λ is.
    subst (λ (s : List Seen). IsReportOf s None) (get_or_read c.args.known.now c.args.self.now.group c.index-known-self.result (omega arith) c.index-known-self.is [])
    (c.is_judged.ensures is)
