use Rattle.std.proofs.Common.{List, Option, ap, sym, subst, ◌∙◌}
use Rattle.call_values.specs.declared.calls.Call.{Call}
use Rattle.slot_evidence.specs.declared.places.Seen.{Seen}
use Rattle.slot_evidence.specs.Facts.{union}
use Rattle.slot_evidence.specs.Sheet.{IsEnds}
use Rattle.evidence_board.specs.Seats.{Held}
use Rattle.evidence_board.specs.Views.{given_sheet}
use Rattle.live_watch.specs.inside.Posted.{IsUnreported}
use Rattle.live_watch.proofs.watching.end_watch.Goals as goal

pub returns-clause-sheet : goal.returns-clause-sheet
returns-clause-sheet g c = λ F G f h.
    subst (λ (s : List Seen). IsEnds (union F G) s)
    (sym (c.close.ensures.sheet ∙ ap (λ (h : Held). given_sheet h.view) c.leave.ensures ∙ c.poll_last-watcher.ensures.given))
    (c.with_seat.ensures.union F G f h)

pub returns-clause-told : goal.returns-clause-told
returns-clause-told g c = λ call was. c.told-told.ensures.call ∙ c.poll_last-watcher.ensures.told call (c.with_seat.ensures.told ∙ was)

pub returns-clause-last : goal.returns-clause-last
returns-clause-last g c = λ F may ends.
    subst (λ (o : Option Call). IsUnreported F o) (sym c.told-told.ensures.call)
    (c.poll_last-watcher.ensures.last F may
    (subst (λ (s : List Seen). IsEnds F s) (c.close.ensures.sheet ∙ ap (λ (h : Held). given_sheet h.view) c.leave.ensures ∙ c.poll_last-watcher.ensures.given) ends))
