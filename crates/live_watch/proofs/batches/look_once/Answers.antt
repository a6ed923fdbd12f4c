use Rattle.std.proofs.Common.{ap, sym, ◌∙◌}
use Rattle.std.proofs.lemmas.List.{get_or_default}
use Rattle.live_watch.specs.declared.batches.WatchedGroup.{WatchedGroup}
use Rattle.live_watch.specs.inside.Rounds.{nothing_watched}
use Rattle.live_watch.proofs.Rounds.{look_step}
use Rattle.live_watch.proofs.batches.look_once.Goals as goal

pub look_at-sheet-requires-clause-number : goal.look_at-sheet-requires-clause-number
look_at-sheet-requires-clause-number c lives =
    c.requires.boards c.args.index c.in-Some.number
    (ap (λ (w : WatchedGroup). w.board) (sym (get_or_default c.args.watched.now c.args.index _ nothing_watched c.requires.index)) ∙ c.in-Some.is)

pub returns-clause-step : goal.returns-clause-step
returns-clause-step c =
    let watched = c.args.watched.now in
    let index = c.args.index in
    look_step c.args.known.now watched c.args.seats.now c.look_at-sheet.new.seats index c.in-Some.number _ c.take_look.new.self c.look_at-sheet.result (get_or_default watched index _ nothing_watched c.requires.index)
    (ap (λ (w : WatchedGroup). w.board) (sym (get_or_default watched index _ nothing_watched c.requires.index)) ∙ c.in-Some.is)
    (ap (λ (w : WatchedGroup). w.call) (sym (get_or_default watched index _ nothing_watched c.requires.index)) ∙ c.is_over.ensures.open c.if-is_over.false)
    c.take_look.ensures.kept.0 c.take_look.ensures.kept.1 c.look_at-sheet.ensures.sheet c.take_look.ensures.report c.look_at-sheet.ensures.others
    (λ p below. (c.look_at-sheet.ensures.places p below).no_less)
