use Rattle.std.proofs.Common.{ap, ◌∙◌}
use Rattle.slot_evidence.specs.Facts.{no_facts, facts_of_all}
use Rattle.slot_evidence.specs.Sheet.{facts_in}
use Rattle.evidence_board.specs.Seats.{Held}
use Rattle.evidence_board.specs.Views.{given_sheet}
use Rattle.live_watch.specs.inside.Known.{known_facts}
use Rattle.live_watch.proofs.Posting.{Alike, Tell, both_posted, watched}
use Rattle.live_watch.proofs.watching.watch_on.Goals as goal

pub returns-clause-ends : goal.returns-clause-ends
returns-clause-ends g c =
    λ F f.
    both_posted F (facts_of_all c.args.list.now) _ _ _ _ _ (c.admit-seat.ensures.union no_facts F c.in_ok-board.ensures.empty f)
    c.split-seat.ensures.given.0
    (c.post_beside-watcher.ensures.given ∙ ap (λ (h : Held). given_sheet h.view) c.new-2.ensures.seat ∙ c.split-seat.ensures.given.1)
    c.post_beside-watcher.ensures.ends
    c.end_watch.ensures.sheet

pub returns-clause-told : goal.returns-clause-told
returns-clause-told g c =
    λ F f.
    let alike : Alike = record {
      answers = c.alike_facts_have_one_answer.ensures;
      itself = c.ends_are_kept.ensures.itself;
      unions = c.ends_are_kept.ensures.unions;
      sheet = c.ends_are_kept.ensures.sheet;
    } in
    let tell : Tell = record { answered = c.told_calls.ensures.answered; more = c.told_calls.ensures.more } in
    let so_far = c.args.so_far.now in
    let posted = returns-clause-ends g c (facts_in so_far) c.sheet_has_facts.ensures in
    let last = c.end_watch.ensures.last (known_facts so_far c.args.list.now) (λ p v may. (c.requires.known p v).0 may) posted in
    watched alike tell g.A.Allowed.facts so_far c.args.list.now c.requires.known F f c.end_watch.result.1 c.end_watch.ensures.posted last
