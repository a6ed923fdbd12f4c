use Rattle.std.proofs.Common.{◌||◌, ◌+◌, ℕ, ap, sym, ◌∙◌}
use Rattle.slot_evidence.specs.Sheet.{facts_in}
use Rattle.live_watch.proofs.Places.{shown_here, shown_late, hidden_late, hidden_here}
use Rattle.live_watch.proofs.showing.shows_place.Goals as goal

pub returns-then-keeps-clause-shown : goal.returns-then-keeps-clause-shown
returns-then-keeps-clause-shown c = λ is.
    shown_here (facts_in c.args.sheet.now) c.args.call.now c.args.list.now c.args.place c.requires.list c.requires.place (sym c.keeps.ensures ∙ c.if-keeps.true)

pub returns-then-place-list-clause-shown : goal.returns-then-place-list-clause-shown
returns-then-place-list-clause-shown c = λ is.
    let F = facts_in c.args.sheet.now in
    let p = c.args.place in
    shown_late F c.args.call.now c.args.list.now p c.requires.list c.requires.place c.if-place-list.true
    (ap (λ (v : ℕ). F (p + 2) v || F (p + 3) v) (sym c.end_of.ensures) ∙ sym c.either_keeps.ensures ∙ is)

pub returns-then-place-list-clause-hidden : goal.returns-then-place-list-clause-hidden
returns-then-place-list-clause-hidden c = λ is.
    let F = facts_in c.args.sheet.now in
    let p = c.args.place in
    hidden_late F c.args.call.now c.args.list.now p c.requires.list c.requires.place (sym c.keeps.ensures ∙ c.if-keeps.false)
    (ap (λ (v : ℕ). F (p + 2) v || F (p + 3) v) (sym c.end_of.ensures) ∙ sym c.either_keeps.ensures ∙ is)

pub returns-clause-hidden : goal.returns-clause-hidden
returns-clause-hidden c = λ is.
    hidden_here (facts_in c.args.sheet.now) c.args.call.now c.args.list.now c.args.place c.requires.list c.requires.place (sym c.keeps.ensures ∙ c.if-keeps.false) c.if-place-list.false
