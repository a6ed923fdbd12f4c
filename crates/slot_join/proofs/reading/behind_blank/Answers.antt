use Rattle.std.proofs.Common.{◌+◌, ℕ, length, refl, sym, ap, subst, ◌∙◌, inr, arith}
use Rattle.call_grammar.specs.Walk.{IsViable, after}
use Rattle.slot_join.specs.Shown.{IsLate, IsShown, IsShownLate}
use Rattle.slot_join.proofs.ShownLists.{three, open_viable}
use Rattle.slot_join.proofs.LateEnds.{not_taken, check_next, same_late, late_shown}
use Rattle.slot_join.proofs.Stops.{stops_missing, after_long}
use Rattle.slot_join.proofs.reading.behind_blank.Goals as goal

pub returns-in_default : goal.returns-in_default
returns-in_default c = λ F ends none shown prompt.
    inr (stops_missing c.fronts_differ.ensures F c.args.walk c.args.n c.requires.taken c.requires.open shown none
    (λ v late viable. c.in_default.ensures.none refl F ends late.at_end v late.copies))

pub take-requires-clause-open : goal.take-requires-clause-open
take-requires-clause-open c = λ done. c.open_is_not_done.ensures c.args.walk (inr c.requires.open) done

pub returns-in_default-take : goal.returns-in_default-take
returns-in_default-take c = λ F ends none shown prompt.
    let e = c.in-Some.end in
    let never = not_taken c.one_check_place.ensures c.one_end_place.ensures c.args.walk e c.take.result c.take.new.self c.in-Some.ensures.at_end c.take.ensures.step c.in_default-take.not-More in
    inr (stops_missing c.fronts_differ.ensures F c.args.walk c.args.n c.requires.taken c.requires.open shown none
    (λ v late viable. never (subst (λ (x : ℕ). IsViable (after c.args.walk x)) (same_late F c.args.walk c.args.n e v (c.in-Some.ensures.copies F ends) late) viable)))

pub behind_late_end-requires-clause-taken : goal.behind_late_end-requires-clause-taken
behind_late_end-requires-clause-taken c =
    let step = c.in-More.ensures.step in
    ap length step.taken ∙ after_long c.args.walk c.in-Some.end (omega (arith, three c.args.walk c.in-Some.ensures.at_end)) ∙ ap (λ (k : ℕ). k + 1) c.requires.taken

pub behind_late_end-requires-clause-check : goal.behind_late_end-requires-clause-check
behind_late_end-requires-clause-check c =
    let step = c.in-More.ensures.step in
    check_next c.one_end_place.ensures c.args.walk c.take.new.self c.in-Some.end c.in-Some.ensures.at_end step.taken (open_viable c.take.new.self step.begins)

pub returns : goal.returns
returns c = λ F ends none shown prompt.
    let step = c.in-More.ensures.step in
    let late : IsLate F c.args.walk c.args.n c.in-Some.end = record { at_end = c.in-Some.ensures.at_end; none = none; copies = c.in-Some.ensures.copies F ends } in
    let both = late_shown F c.args.walk c.args.n c.in-Some.end c.requires.taken shown late in
    c.behind_late_end.ensures F ends (subst (λ l. IsShown F l) (sym step.taken) both.0) (subst (λ l. IsShownLate F l) (sym step.taken) both.1)
