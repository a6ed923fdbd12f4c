use Rattle.std.proofs.Common.{arith, ◌∙◌}
use Rattle.std.proofs.lemmas.List.{get_or_read}
use Rattle.receiver_pool.proofs.Entries.{goes_on_meeting, ends_meeting}
use Rattle.receiver_pool.proofs.Beyond.{met_beyond}
use Rattle.receiver_pool.proofs.workers.meet_entries.Goals as goal

pub loop-entry-preserved : goal.loop-entry-preserved
loop-entry-preserved c =
    let was = c.loop-entry.invariant in
    let i = c.loop-entry.entry-index in
    let entry = c.entry-item.result in
    let at = get_or_read c.args.entries.now i entry (omega arith) c.entry-item.is entry in
    record {
      count = c.meet_sheet.auto.sheets ∙ was.count;
      met = λ F G n f g. goes_on_meeting F G c.loop-entry.sheets c.meet_sheet.new.sheets n i c.args.entries.now entry (omega arith) at c.meet_sheet.ensures (was.met F G n f g);
    }

pub returns : goal.returns
returns c =
    λ F G batch n f g.
    let law = c.ends_are_kept.ensures in
    met_beyond law.kept law.itself law.unions law.sheet F G c.args.sheets.now c.loop-entry.sheets g.news n f g.alike
    (ends_meeting F g.news c.loop-entry.sheets n c.loop-entry.entry-index c.args.entries.now (omega arith) (c.loop-entry.invariant.met F g.news n f g.shows.facts))
