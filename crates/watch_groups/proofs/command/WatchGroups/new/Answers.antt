use Rattle.join_groups.proofs.PublicLaws.{keeps_none}
use Rattle.watch_groups.proofs.Ends.{stands_first}
use Rattle.watch_groups.proofs.command.WatchGroups.new.Goals as goal

pub returns-clause-stands : goal.returns-clause-stands
returns-clause-stands g c = stands_first c.told_calls.ensures.answered c.new.result _ _ c.new-2.ensures.items c.new-3.ensures (keeps_none c.new.result c.new.ensures.holds)
