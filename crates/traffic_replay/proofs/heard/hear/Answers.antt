use Rattle.join_groups.specs.Groups.{is_named}
use Rattle.traffic_replay.specs.HeardGroups.{of_receivers, facts_since_heard}
use Rattle.traffic_replay.proofs.GroupKeeping.{keeps_anew}
use Rattle.traffic_replay.proofs.heard.hear.Goals as goal

pub returns-clause-answer : goal.returns-clause-answer
returns-clause-answer g c = λ said keeps.
    let closed = c.in_ok-close_batch.ensures.holds (is_named (of_receivers said)) (λ k. facts_since_heard k said) keeps in
    c.report.ensures (facts_since_heard c.args.group said) (c.take_out.ensures.sheet (is_named (of_receivers said)) (λ k. facts_since_heard k said) closed)

pub returns-clause-anew : goal.returns-clause-anew
returns-clause-anew g c = λ said at keeps.
    let closed = c.in_ok-close_batch.ensures.holds (is_named (of_receivers said)) (λ k. facts_since_heard k said) keeps in
    keeps_anew c.take_out.new.self said at c.args.group (c.take_out.ensures.anew (is_named (of_receivers said)) (λ k. facts_since_heard k said) closed)
