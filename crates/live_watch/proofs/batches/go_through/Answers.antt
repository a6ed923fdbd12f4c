use Rattle.std.proofs.Common.{ℕ, refl, subst, sym}
use Rattle.receiver_pool.specs.Rows.{HaveSeenNothing}
use Rattle.live_watch.proofs.Watched.{went_round}
use Rattle.live_watch.proofs.batches.go_through.Goals as goal

pub look_on-requires-clause-round : goal.look_on-requires-clause-round
look_on-requires-clause-round c = (c.args.groups.now, c.args.watched.now, sym c.requires.count, c.find_boards.ensures c.args.seats.now (subst (λ (n : ℕ). HaveSeenNothing n c.args.seats.now) c.requires.count c.requires.unseen))

pub go_once-requires-clause-seats : goal.go_once-requires-clause-seats
go_once-requires-clause-seats c =
    let sit = c.requires.seats in
    record { share = sit.share; enough = sit.enough; facts = sit.facts; are_seats = c.look_on.ensures.kept sit.share sit.facts sit.are_seats }

pub go_once-requires-clause-round : goal.go_once-requires-clause-round
go_once-requires-clause-round c = (
  c.args.groups.now,
  c.args.watched.now,
  sym c.requires.count,
  c.look_on.ensures.round c.args.groups.now c.args.watched.now (c.find_boards.ensures c.args.seats.now (subst (λ (n : ℕ). HaveSeenNothing n c.args.seats.now) c.requires.count c.requires.unseen)),
)

pub returns-clause-kept : goal.returns-clause-kept
returns-clause-kept c = λ share F are. c.go_once.ensures.kept share F (c.look_on.ensures.kept share F are)

pub returns-clause-gone : goal.returns-clause-gone
returns-clause-gone c =
    let groups = c.args.groups.now in
    let begun = c.args.watched.now in
    let round = c.look_on.ensures.round groups begun (c.find_boards.ensures c.args.seats.now (subst (λ (n : ℕ). HaveSeenNothing n c.args.seats.now) c.requires.count c.requires.unseen)) in
    went_round c.args.known.now groups begun c.go_once.new.watched c.go_once.new.seats (c.go_once.ensures.round groups begun round) (c.go_once.ensures.judged refl groups begun round)
