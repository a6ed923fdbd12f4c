use Rattle.live_watch.proofs.Posting.{last_unreported}
use Rattle.evidence_board.specs.Views.{seen_sheet}
use Rattle.live_watch.proofs.watching.poll_last.Goals as goal

pub returns-clause-last : goal.returns-clause-last
returns-clause-last g c =
    λ F among ends.
    last_unreported record {
      answers = c.alike_facts_have_one_answer.ensures;
      itself = c.ends_are_kept.ensures.itself;
      unions = c.ends_are_kept.ensures.unions;
      sheet = c.ends_are_kept.ensures.sheet;
    } (seen_sheet c.poll-watcher.result.0.seat.view) c.args.watcher.told _ c.poll-watcher.result.1 F (c.poll-watcher.ensures.exact F among ends) c.poll-watcher.ensures.news
