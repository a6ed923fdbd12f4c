use Rattle.std.proofs.Common.{[], List, arith, sym, subst}
use Rattle.std.proofs.lemmas.List.{get_or_read}
use Rattle.slot_evidence.specs.declared.places.Seen.{Seen}
use Rattle.slot_evidence.specs.Sheet.{IsEnds, facts_in}
use Rattle.live_watch.proofs.batches.with_known.Goals as goal

pub returns : goal.returns
returns c = λ F ends.
    c.meet.ensures F (facts_in c.args.sheet.now)
    (subst (λ (s : List Seen). IsEnds F s) (sym (get_or_read c.args.known.now c.args.group c.index-known-group.result (omega arith) c.index-known-group.is [])) ends)
    c.sheet_has_facts.ensures
