use Rattle.std.proofs.Common.{ℕ, length, arith, sym, subst, inl, inr}
use Rattle.std.proofs.lemmas.Bool.{cases_eq}
use Rattle.live_watch.specs.inside.Rounds.{IsDone, watched_at}
use Rattle.live_watch.proofs.Rounds.{step_round, step_judged, done_judged, on_boards}
use Rattle.live_watch.proofs.batches.go_once.Goals as goal

pub look_once-requires-clause-index : goal.look_once-requires-clause-index
look_once-requires-clause-index c =
    let way = c.requires.round in
    omega (arith, (c.loop-index.invariant.round way.0 way.1 way.3).count, way.3.count)

pub look_once-requires-clause-seats : goal.look_once-requires-clause-seats
look_once-requires-clause-seats c =
    let sit = c.requires.seats in
    record { share = sit.share; enough = sit.enough; facts = sit.facts; are_seats = c.loop-index.invariant.kept sit.share sit.facts sit.are_seats }

pub look_once-requires-clause-boards : goal.look_once-requires-clause-boards
look_once-requires-clause-boards c =
    let way = c.requires.round in
    on_boards c.args.known.now way.0 way.1 c.loop-index.watched c.loop-index.seats (length c.args.boards.now) way.2 (c.loop-index.invariant.round way.0 way.1 way.3)

pub loop-index-init : goal.loop-index-init
loop-index-init c = record {
  kept = λ share F are. are;
  round = λ groups begun was. was;
  judged = λ last groups begun was i k below. absurd (omega arith);
}

pub loop-index-preserved : goal.loop-index-preserved
loop-index-preserved c =
    let inv = c.loop-index.invariant in
    let known = c.args.known.now in
    let index = c.loop-index.index in
    let watched = c.loop-index.watched in
    let more = c.look_once.new.watched in
    let seats = c.loop-index.seats in
    let after = c.look_once.new.seats in
    record {
      kept = λ share F are. c.look_once.ensures.kept share F (inv.kept share F are);
      round = λ groups begun was. step_round known groups begun index watched more seats after (inv.round groups begun was) (omega (arith, was.count)) c.look_once.ensures.step;
      judged = λ last groups begun was i k below inside board.
          let now = step_round known groups begun index watched more seats after (inv.round groups begun was) (omega (arith, was.count)) c.look_once.ensures.step in
          elim (cases_eq i index) [
            | inl same ↦ done_judged known groups begun more after now i k inside board (subst (λ (j : ℕ). IsDone (watched_at more j)) (sym same) (c.look_once.ensures.done last))
            | inr apart ↦
                step_judged known groups begun index watched more seats after (inv.round groups begun was) (omega (arith, was.count)) c.look_once.ensures.step i k inside board
                (λ had. inv.judged last groups begun was i k (omega (arith, below, apart)) inside had)
          ];
    }

pub returns-clause-judged : goal.returns-clause-judged
returns-clause-judged c = λ last groups begun was i k inside board. c.loop-index.invariant.judged last groups begun was i k (omega (arith, inside, was.count)) inside board
