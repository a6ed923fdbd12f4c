use Rattle.std.proofs.Common.{◌≡◌, ◌+◌, ℕ, true, length, sym, ap, ◌∙◌, inl, inr, subst, arith}
use Rattle.slot_evidence.specs.declared.places.Seen.TheVariants as seen
use Rattle.slot_join.specs.Shown.{IsShown, IsShownLate}
use Rattle.slot_join.proofs.ShownLists.{prompt_push}
use Rattle.slot_join.proofs.LateEnds.{after_push}
use Rattle.slot_join.proofs.Stops.{seen_there, after_long, open_short, stops_differ, stops_outside, stops_check, reports, goes_on, whole_length}
use Rattle.slot_join.proofs.reading.follow.Goals as goal

pub returns-in-None : goal.returns-in-None
returns-in-None c = λ F ends shown.
    let i = c.loop-n.invariant in
    c.behind_blank.ensures F ends (seen_there F c.args.sheet.now c.loop-n.n seen.None ends c.in-None.ensures.seen) (i.shown F ends shown) (i.prompt F ends)

pub returns-in-Differ : goal.returns-in-Differ
returns-in-Differ c = λ F ends shown.
    let i = c.loop-n.invariant in
    inr (stops_differ c.fronts_differ.ensures F c.loop-n.walk c.loop-n.n c.in-Differ.least c.in-Differ.greatest i.taken i.open_ (i.shown F ends shown)
    (seen_there F c.args.sheet.now c.loop-n.n (seen.Differ c.in-Differ.least c.in-Differ.greatest) ends c.in-Differ.ensures.seen))

pub take-requires-clause-open : goal.take-requires-clause-open
take-requires-clause-open c = λ done. c.open_is_not_done.ensures c.loop-n.walk (inr c.loop-n.invariant.open_) done

pub read_extra-expansion-requires-clause-place : goal.read_extra-expansion-requires-clause-place
read_extra-expansion-requires-clause-place c =
    let step = c.in-Done.ensures.step in
    whole_length c.loop-n.walk c.in-One.symbol c.loop-n.n c.in-Done.call c.loop-n.invariant.taken (omega (arith, c.loop-n.invariant.taken)) (sym step.taken ∙ step.list)

pub returns-in-Done : goal.returns-in-Done
returns-in-Done c = λ F ends shown.
    let i = c.loop-n.invariant in
    let step = c.in-Done.ensures.step in
    let v = c.in-One.symbol in
    inl (reports F c.loop-n.walk c.loop-n.n v c.in-Done.call c.read_extra-expansion.result i.taken (i.shown F ends shown) (seen_there F c.args.sheet.now c.loop-n.n (seen.One v) ends c.in-One.ensures.seen) step.lawful
    (sym step.taken ∙ step.list) (c.read_extra-expansion.ensures F ends))

pub returns-in-Outside : goal.returns-in-Outside
returns-in-Outside c = λ F ends shown.
    let i = c.loop-n.invariant in
    let step = c.in-Outside.ensures.step in
    let v = c.in-One.symbol in
    inr (stops_outside c.fronts_differ.ensures F c.loop-n.walk c.loop-n.n v i.taken i.open_ (i.shown F ends shown) (i.prompt F ends) (seen_there F c.args.sheet.now c.loop-n.n (seen.One v) ends c.in-One.ensures.seen) step.never step.elsewhere)

pub returns-in-Check : goal.returns-in-Check
returns-in-Check c = λ F ends shown.
    let i = c.loop-n.invariant in
    let step = c.in-Check.ensures.step in
    let v = c.in-One.symbol in
    inr (stops_check c.fronts_differ.ensures F c.loop-n.walk c.loop-n.n v c.in-Check.want c.in-Check.got i.taken i.open_ (i.shown F ends shown) (i.prompt F ends)
    (seen_there F c.args.sheet.now c.loop-n.n (seen.One v) ends c.in-One.ensures.seen) step.never step.place step.check step.symbol)

pub loop-n-preserved : goal.loop-n-preserved
loop-n-preserved c =
    let i = c.loop-n.invariant in
    let step = c.in-More.ensures.step in
    let v = c.in-One.symbol in
    record {
      taken = ap length step.taken ∙ after_long c.loop-n.walk v (omega arith) ∙ ap (λ (k : ℕ). k + 1) i.taken;
      open_ = step.begins;
      shown = λ F ends shown. subst (λ l. IsShown F l) (sym step.taken) (goes_on F c.loop-n.walk c.loop-n.n v i.taken (i.shown F ends shown) (seen_there F c.args.sheet.now c.loop-n.n (seen.One v) ends c.in-One.ensures.seen));
      prompt = λ F ends late.
          let one = seen_there F c.args.sheet.now c.loop-n.n (seen.One v) ends c.in-One.ensures.seen in
          let has = subst (λ (k : ℕ). F k v ≡ true) (sym i.taken) one.0 in
          prompt_push F c.loop-n.walk v v (i.prompt F ends) has (subst (λ l. IsShownLate F l) (step.taken ∙ after_push c.loop-n.walk v (omega arith)) late);
    }

pub unreachable-requires : goal.unreachable-requires
unreachable-requires c = absurd (omega (arith, open_short c.lists_are_short.ensures c.loop-n.walk c.loop-n.invariant.open_))
