use Rattle.std.proofs.Common.{Option, sym, subst, inr}
use Rattle.call_values.specs.declared.calls.Call.{Call}
use Rattle.slot_evidence.specs.Sheet.{facts_in}
use Rattle.live_watch.specs.Told.{IsToTell}
use Rattle.live_watch.proofs.Telling.{report_watched}
use Rattle.live_watch.proofs.showing.call_to_tell.Goals.{in-Some+else-shows_call, in_default}
use Rattle.live_watch.proofs.showing.call_to_tell.Goals as goal

pub returns-clause-watched : goal.returns-clause-watched
returns-clause-watched c = λ F ends. report_watched c.told_calls.ensures.answered F c.reported.result (c.reported.ensures F ends)

pub returns-clause-exact : goal.returns-clause-exact
returns-clause-exact c =
    let F = facts_in c.args.sheet.now in
    let report = c.reported.ensures F c.sheet_has_facts.ensures in
    elim c.match-seen.branch [
      | in-Some+else-shows_call w ↦ subst (λ (o : Option Call). IsToTell F o c.reported.result) (sym w.in-Some.is) (inr (w.shows_call.ensures.hidden w.if-shows_call.false, report))
      | in_default w ↦ subst (λ (o : Option Call). IsToTell F o c.reported.result) (sym w.in_default.is) report
    ]
