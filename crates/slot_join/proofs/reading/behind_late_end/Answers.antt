use Rattle.std.proofs.Common.{sym, ◌∙◌, inl, inr}
use Rattle.slot_evidence.specs.declared.places.Seen.TheVariants as seen
use Rattle.slot_join.proofs.LateEnds.{prompt_check, wrong_check, long_check}
use Rattle.slot_join.proofs.Stops.{seen_there, stops_missing, stops_differ, stops_late, reports, whole_length}
use Rattle.slot_join.proofs.reading.behind_late_end.Goals as goal

pub returns-in-None : goal.returns-in-None
returns-in-None c = λ F ends shown late.
    let none = seen_there F c.args.sheet.now c.args.n seen.None ends c.in-None.ensures.seen in
    inr (stops_missing c.fronts_differ.ensures F c.args.walk c.args.n c.requires.taken c.requires.open shown none
    (λ v is viable. prompt_check c.one_check_place.ensures F c.args.walk c.args.n v c.requires.check is viable))

pub returns-in-Differ : goal.returns-in-Differ
returns-in-Differ c = λ F ends shown late.
    inr (stops_differ c.fronts_differ.ensures F c.args.walk c.args.n c.in-Differ.least c.in-Differ.greatest c.requires.taken c.requires.open shown
    (seen_there F c.args.sheet.now c.args.n (seen.Differ c.in-Differ.least c.in-Differ.greatest) ends c.in-Differ.ensures.seen))

pub take-requires-clause-open : goal.take-requires-clause-open
take-requires-clause-open c = λ done. c.open_is_not_done.ensures c.args.walk (inr c.requires.open) done

pub returns-in_default : goal.returns-in_default
returns-in_default c = λ F ends shown late.
    let v = c.in-One.check in
    inr (stops_late c.fronts_differ.ensures F c.args.walk c.args.n v c.requires.taken c.requires.open shown late (seen_there F c.args.sheet.now c.args.n (seen.One v) ends c.in-One.ensures.seen)
    (wrong_check c.one_check_place.ensures c.args.walk v c.take.result c.take.new.self (long_check c.args.walk c.requires.check) c.requires.check c.take.ensures.step c.in_default.not-Done))

pub read_extra-expansion-requires-clause-place : goal.read_extra-expansion-requires-clause-place
read_extra-expansion-requires-clause-place c =
    let step = c.in-Done.ensures.step in
    whole_length c.args.walk c.in-One.check c.args.n c.in-Done.call c.requires.taken (long_check c.args.walk c.requires.check) (sym step.taken ∙ step.list)

pub returns : goal.returns
returns c = λ F ends shown late.
    let step = c.in-Done.ensures.step in
    let v = c.in-One.check in
    inl (reports F c.args.walk c.args.n v c.in-Done.call c.read_extra-expansion.result c.requires.taken shown (seen_there F c.args.sheet.now c.args.n (seen.One v) ends c.in-One.ensures.seen) step.lawful
    (sym step.taken ∙ step.list) (c.read_extra-expansion.ensures F ends))
