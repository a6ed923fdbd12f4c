use Rattle.std.proofs.Common.{List, subst, sym}
use Rattle.slot_evidence.specs.declared.places.Seen.{Seen}
use Rattle.live_watch.specs.Watching.{Watched, IsNewsOf, SawCall}
use Rattle.live_watch.proofs.Polling.{news_of_one, carries}
use Rattle.live_watch.proofs.watchers.Watcher.poll.Goals as goal

pub returns-clause-one : goal.returns-clause-one
returns-clause-one g c =
    λ call tail lawful one.
    subst (λ (s : List Seen). IsNewsOf call s c.news_of-news.result) c.look-seat.ensures.sheet
    (news_of_one c.looks_report_the_call.ensures.looked g.A.Allowed.facts call tail lawful one c.look-seat.result.1 c.self.inside.told _ c.news_of-news.result c.look-seat.ensures.allowed c.self.invariant c.news_of-news.ensures)

pub returns-clause-known : goal.returns-clause-known
returns-clause-known g c =
    λ call tail lawful one saw.
    carries g.A.Allowed.facts call c.self.inside.seat.view c.look-seat.result.0.view c.news_of-news.result (c.lists_are_short.ensures call lawful).1 c.seats_are_at_rest.ensures.size c.look-seat.ensures.places
    (subst (λ (w : Watched). SawCall w.seat.view call) (sym c.self.view_is) saw)
    (returns-clause-one g c call tail lawful one)
