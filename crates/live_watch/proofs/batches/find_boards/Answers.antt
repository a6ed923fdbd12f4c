use Rattle.std.proofs.Common.{ℕ, ◌<◌, Option, None, length, slice_index_or, refl, arith, ap, sym, ◌∙◌, subst}
use Rattle.std.proofs.lemmas.List.{get_or_default}
use Rattle.live_watch.specs.declared.batches.WatchedGroup.{WatchedGroup}
use Rattle.live_watch.specs.Told.{IsReportOf}
use Rattle.live_watch.specs.Batches.{known_of}
use Rattle.live_watch.specs.inside.Rounds.{IsBoardOf, nothing_watched, sight_of, watched_at}
use Rattle.live_watch.proofs.Rounds.{found_more, found_round, same_sight}
use Rattle.live_watch.proofs.batches.find_boards.Goals as goal

pub loop-i-init : goal.loop-i-init
loop-i-init c = record {
  count = refl;
  same = λ j below. refl;
  board = λ j below. absurd (omega arith);
  judged = λ j below. absurd (omega arith);
}

pub loop-i-preserved : goal.loop-i-preserved
loop-i-preserved c =
    let i = c.loop-i.i in
    let watched = c.loop-i.watched in
    let was = c.loop-i.invariant in
    let inside : i < length watched = omega (arith, was.count) in
    let old = slice_index_or watched i c.index-watched-i-in-loop-i.result in
    let one = c.begin.new.self in
    let kept = c.begin.ensures.kept in
    let at = get_or_default watched i c.index-watched-i-in-loop-i.result nothing_watched inside in
    found_more c.args.known.now c.args.groups.now c.args.watched.now watched i one (omega (arith, was.count)) (same_sight one old kept.0 kept.1 ∙ ap sight_of at)
    (subst (λ (o : Option ℕ). IsBoardOf c.args.groups.now (watched_at watched i).group o) (sym kept.2)
    (subst (λ (w : WatchedGroup). IsBoardOf c.args.groups.now w.group c.place_of-place.result) (get_or_default watched i c.index-watched-i.result nothing_watched inside)
    c.place_of-place.ensures))
    (λ is. subst (λ (w : WatchedGroup). IsReportOf (known_of c.args.known.now w.group) None) at (c.begin.ensures.judged is))
    was

pub returns : goal.returns
returns c =
    λ seats nothing.
    found_round
    (record {
      answers = c.alike_facts_have_one_answer.ensures;
      itself = c.ends_are_kept.ensures.itself;
      unions = c.ends_are_kept.ensures.unions;
      sheet = c.ends_are_kept.ensures.sheet;
    })
    c.args.known.now c.args.groups.now c.args.watched.now c.loop-i.watched seats c.loop-i.i (omega arith) nothing c.loop-i.invariant
