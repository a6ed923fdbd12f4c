use Rattle.std.proofs.Common.{Err, inl, inr, refl, ap, sym, subst}
use Rattle.command_line.specs.declared.plans.PlanError.{PlanError}
use Rattle.command_line.specs.declared.plans.Plan.{Plan}
use Rattle.command_line.specs.declared.plans.Plan.TheVariants.{Join, Replay, Make, Capture, Watch, Exchange}
use Rattle.line_engine.specs.Endings.{TellsWhole}
use Rattle.dsc_cmd.specs.Plans.{meaning_of, input_of, HasOneOutput, WritesFrontOfOutput}
use Rattle.dsc_cmd.proofs.FrontsOfOutput.{front_broken_off, front_none}
use Rattle.dsc_cmd.proofs.MadeEndings.{summary_of_whole}
use Rattle.dsc_cmd.proofs.SentGroups.{Laws}
use Rattle.dsc_cmd.proofs.SentJoins.{runs_reporting}
use Rattle.dsc_cmd.proofs.SentWatches.{runs_sent}
use Rattle.dsc_cmd.proofs.StartRuns.{runs_heard}
use Rattle.dsc_cmd.proofs.LegalRuns.{runs_replay, runs_exchange}
use Rattle.dsc_cmd.proofs.PlanRuns.{RunsPlan}
use Rattle.dsc_cmd.proofs.running.run.Goals as goal

-- ---- the run of the words

pub returns-in-Ok-clause-run : goal.returns-in-Ok-clause-run
returns-in-Ok-clause-run g c = inl (record { plan = c.in-Ok.plan; planned = c.in-Ok.ensures.planned; run = c.execute.ensures.run })

pub returns-in-Err-Refused-clause-run : goal.returns-in-Err-Refused-clause-run
returns-in-Err-Refused-clause-run g c = inr (inl (
  c.in-Err-Refused.ensures.refused (ap (λ (e : PlanError). Err e) c.in-Err-Refused.field-0-is),
  record {
    which = c.refuse.ensures.which;
    unread = refl;
    done = c.refuse.ensures.done;
    sound = c.refuse.ensures.sound;
    cut = c.refuse.ensures.cut;
    cause = c.refuse.ensures.cause;
    unflushed = c.refuse.ensures.unflushed;
    told = c.refuse.ensures.told;
  },
))

pub returns-in-Err-Memory-clause-run : goal.returns-in-Err-Memory-clause-run
returns-in-Err-Memory-clause-run g c = inr (inr (record { status_is = c.new.ensures; unread = refl; unwritten = refl }))

-- ---- where the receptions of a group heard one call, join reports this call, or names a lost place of it

pub returns-in-Ok-clause-sent : goal.returns-in-Ok-clause-sent
returns-in-Ok-clause-sent g c = λ n planned.
    let sets = c.ends_are_kept.ensures in
    let laws : Laws = record {
      sets = record { itself = sets.itself; unions = sets.unions; sheet = sets.sheet };
      alike = c.alike_facts_have_one_answer.ensures;
      sent = c.sent_call_is_answered.ensures;
      whole = c.intact_copies_report_the_call.ensures;
    } in
    let same = c.one_plan.ensures _ c.in-Ok.plan (Join n) c.in-Ok.ensures.planned planned in
    inl (runs_reporting laws g.S.Source g.K.Sink _ _ _ _ _ (subst (RunsPlan g.S.Source g.K.Sink _ _ _ _ _) same c.execute.ensures.run))

pub returns-in-Err-Refused-clause-sent : goal.returns-in-Err-Refused-clause-sent
returns-in-Err-Refused-clause-sent g c = λ n planned.
    absurd (c.in-Err-Refused.ensures.refused (ap (λ (e : PlanError). Err e) c.in-Err-Refused.field-0-is) (Join n) planned)

pub returns-in-Err-Memory-clause-sent : goal.returns-in-Err-Memory-clause-sent
returns-in-Err-Memory-clause-sent g c = λ n planned. inr (record { status_is = c.new.ensures; unread = refl; unwritten = refl })

-- ---- a watch tells no call but the one that was sent

pub returns-in-Ok-clause-told_sent : goal.returns-in-Ok-clause-told_sent
returns-in-Ok-clause-told_sent g c = λ n planned.
    let sets = c.ends_are_kept.ensures in
    let same = c.one_plan.ensures _ c.in-Ok.plan (Watch n) c.in-Ok.ensures.planned planned in
    inl (runs_sent
    (record {
      join = record {
        sets = record { itself = sets.itself; unions = sets.unions; sheet = sets.sheet };
        alike = c.alike_facts_have_one_answer.ensures;
        sent = c.sent_call_is_answered.ensures;
        whole = c.intact_copies_report_the_call.ensures;
      };
      told = record {
        sets = record { itself = sets.itself; unions = sets.unions; sheet = sets.sheet };
        heard = c.heard_calls_show_no_other.ensures.call;
        told = c.told_calls.ensures.sent;
      };
    })
    g.S.Source g.K.Sink _ _ _ _ _ (subst (RunsPlan g.S.Source g.K.Sink _ _ _ _ _) same c.execute.ensures.run))

pub returns-in-Err-Refused-clause-told_sent : goal.returns-in-Err-Refused-clause-told_sent
returns-in-Err-Refused-clause-told_sent g c = λ n planned.
    absurd (c.in-Err-Refused.ensures.refused (ap (λ (e : PlanError). Err e) c.in-Err-Refused.field-0-is) (Watch n) planned)

pub returns-in-Err-Memory-clause-told_sent : goal.returns-in-Err-Memory-clause-told_sent
returns-in-Err-Memory-clause-told_sent g c = λ n planned. inr (record { status_is = c.new.ensures; unread = refl; unwritten = refl })

-- ---- what the starts of a capture say of the calls that were received at them

pub returns-in-Ok-clause-starts : goal.returns-in-Ok-clause-starts
returns-in-Ok-clause-starts g c = λ planned.
    let same = c.one_plan.ensures _ c.in-Ok.plan Capture c.in-Ok.ensures.planned planned in
    inl (runs_heard c.start_reports_the_call.ensures g.S.Source g.K.Sink _ _ _ _ _ (subst (RunsPlan g.S.Source g.K.Sink _ _ _ _ _) same c.execute.ensures.run))

pub returns-in-Err-Refused-clause-starts : goal.returns-in-Err-Refused-clause-starts
returns-in-Err-Refused-clause-starts g c = λ planned.
    absurd (c.in-Err-Refused.ensures.refused (ap (λ (e : PlanError). Err e) c.in-Err-Refused.field-0-is) Capture planned)

pub returns-in-Err-Memory-clause-starts : goal.returns-in-Err-Memory-clause-starts
returns-in-Err-Memory-clause-starts g c = λ planned. inr (record { status_is = c.new.ensures; unread = refl; unwritten = refl })

-- ---- the histories of the lines of a replay and of an exchange are legal

pub returns-in-Ok-clause-legal_replay : goal.returns-in-Ok-clause-legal_replay
returns-in-Ok-clause-legal_replay g c = λ n planned.
    let same = c.one_plan.ensures _ c.in-Ok.plan (Replay n) c.in-Ok.ensures.planned planned in
    inl (runs_replay (record { ship = c.histories_are_legal.ensures.ship; coast = c.histories_are_legal.ensures.coast })
    g.S.Source g.K.Sink _ _ _ _ _ (subst (RunsPlan g.S.Source g.K.Sink _ _ _ _ _) same c.execute.ensures.run))

pub returns-in-Err-Refused-clause-legal_replay : goal.returns-in-Err-Refused-clause-legal_replay
returns-in-Err-Refused-clause-legal_replay g c = λ n planned.
    absurd (c.in-Err-Refused.ensures.refused (ap (λ (e : PlanError). Err e) c.in-Err-Refused.field-0-is) (Replay n) planned)

pub returns-in-Err-Memory-clause-legal_replay : goal.returns-in-Err-Memory-clause-legal_replay
returns-in-Err-Memory-clause-legal_replay g c = λ n planned. inr (record { status_is = c.new.ensures; unread = refl; unwritten = refl })

pub returns-in-Ok-clause-legal_exchange : goal.returns-in-Ok-clause-legal_exchange
returns-in-Ok-clause-legal_exchange g c = λ planned.
    let same = c.one_plan.ensures _ c.in-Ok.plan Exchange c.in-Ok.ensures.planned planned in
    inl (runs_exchange c.histories_are_legal-in-Ok.ensures g.S.Source g.K.Sink _ _ _ _ _ (subst (RunsPlan g.S.Source g.K.Sink _ _ _ _ _) same c.execute.ensures.run))

pub returns-in-Err-Refused-clause-legal_exchange : goal.returns-in-Err-Refused-clause-legal_exchange
returns-in-Err-Refused-clause-legal_exchange g c = λ planned.
    absurd (c.in-Err-Refused.ensures.refused (ap (λ (e : PlanError). Err e) c.in-Err-Refused.field-0-is) Exchange planned)

pub returns-in-Err-Memory-clause-legal_exchange : goal.returns-in-Err-Memory-clause-legal_exchange
returns-in-Err-Memory-clause-legal_exchange g c = λ planned. inr (record { status_is = c.new.ensures; unread = refl; unwritten = refl })

pub returns-in-Ok-clause-made : goal.returns-in-Ok-clause-made
returns-in-Ok-clause-made g c = λ n planned finished.
    let same = c.one_plan.ensures _ c.in-Ok.plan (Make n) c.in-Ok.ensures.planned planned in
    summary_of_whole n _ _ _ _ _ _
    (subst (λ (plan : Plan). TellsWhole (meaning_of plan) (input_of plan (g.S.Source.left c.args.source.now)) (input_of plan (g.S.Source.left c.execute.new.source))
    (g.K.Sink.written c.args.sink.now) (g.K.Sink.written c.execute.new.sink) (g.K.Sink.flushed c.execute.new.sink) c.execute.result) same (c.execute.ensures.run.whole finished))

pub returns-in-Ok-clause-unread_made : goal.returns-in-Ok-clause-unread_made
returns-in-Ok-clause-unread_made g c = λ n planned.
    let same = c.one_plan.ensures _ c.in-Ok.plan (Make n) c.in-Ok.ensures.planned planned in
    c.execute.ensures.unread n same

pub returns-in-Err-Refused-clause-unread_made : goal.returns-in-Err-Refused-clause-unread_made
returns-in-Err-Refused-clause-unread_made g c = λ n planned.
    absurd (c.in-Err-Refused.ensures.refused (ap (λ (e : PlanError). Err e) c.in-Err-Refused.field-0-is) (Make n) planned)

-- ---- a run that was broken off wrote a front of the output

pub returns-in-Ok-clause-front : goal.returns-in-Ok-clause-front
returns-in-Ok-clause-front g c = λ plan planned one broken_off.
    subst (λ (plan : Plan). WritesFrontOfOutput (meaning_of plan) (input_of plan (g.S.Source.left c.args.source.now)) (input_of plan (g.S.Source.left c.execute.new.source))
    (g.K.Sink.written c.args.sink.now) (g.K.Sink.written c.execute.new.sink))
    (c.one_plan.ensures _ c.in-Ok.plan plan c.in-Ok.ensures.planned planned)
    (front_broken_off (meaning_of c.in-Ok.plan) (c.inputs_have_one_output.ensures.determined c.in-Ok.plan (subst HasOneOutput (sym (c.one_plan.ensures _ c.in-Ok.plan plan c.in-Ok.ensures.planned planned)) one)) _ _ _ _ c.execute.result broken_off
    c.execute.ensures.run.stopped c.execute.ensures.run.cut c.execute.ensures.run.memory)

pub returns-in-Err-Refused-clause-front : goal.returns-in-Err-Refused-clause-front
returns-in-Err-Refused-clause-front g c = λ plan planned one broken_off. absurd (c.in-Err-Refused.ensures.refused (ap (λ (e : PlanError). Err e) c.in-Err-Refused.field-0-is) plan planned)

pub returns-in-Err-Memory-clause-front : goal.returns-in-Err-Memory-clause-front
returns-in-Err-Memory-clause-front g c = λ plan planned one broken_off. front_none (meaning_of plan) (input_of plan (g.S.Source.left c.args.source.now)) (g.K.Sink.written c.args.sink.now)
