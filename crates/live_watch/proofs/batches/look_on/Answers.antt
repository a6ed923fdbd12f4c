use Rattle.live_watch.proofs.batches.look_on.Goals as goal

pub go_once-requires-clause-seats : goal.go_once-requires-clause-seats
go_once-requires-clause-seats c =
    let sit = c.requires.seats in
    record { share = sit.share; enough = sit.enough; facts = sit.facts; are_seats = c.loop.invariant.kept sit.share sit.facts sit.are_seats }

pub go_once-requires-clause-round : goal.go_once-requires-clause-round
go_once-requires-clause-round c =
    let way = c.requires.round in
    (way.0, way.1, way.2, c.loop.invariant.round way.0 way.1 way.3)

pub loop-init : goal.loop-init
loop-init c = record { kept = λ share F are. are; round = λ groups begun was. was }

pub loop-preserved : goal.loop-preserved
loop-preserved c = record {
  kept = λ share F are. c.go_once.ensures.kept share F (c.loop.invariant.kept share F are);
  round = λ groups begun was. c.go_once.ensures.round groups begun (c.loop.invariant.round groups begun was);
}
