use Rattle.std.proofs.Common.{subst, inl, inr}
use Rattle.std.proofs.lemmas.Result.{on_ok_weaker, IfErr-weaker}
use Rattle.slot_evidence.specs.Facts.{facts_of}
use Rattle.input_lines.specs.declared.join.JoinLine.{JoinLine as Got}
use Rattle.input_lines.specs.Lines.{Says}
use Rattle.join_groups.specs.Groups.{facts_of_line}
use Rattle.traffic_replay.specs.inside.Progress.{IsShown}
use Rattle.traffic_replay.proofs.Receivers.{Tells, reception_shows, evidence_shows, nothing_taken}
use Rattle.traffic_replay.proofs.command.Replay.take_joined.Goals as goal

pub returns-in-Nothing-clause-ok : goal.returns-in-Nothing-clause-ok
returns-in-Nothing-clause-ok g c = λ said line text keeps is.
    nothing_taken c.args.self.now said line text (subst (λ (read : Got). Says line read) c.in-Nothing.is is) keeps

pub returns-in-Reception-clause-ok : goal.returns-in-Reception-clause-ok
returns-in-Reception-clause-ok g c = on_ok_weaker c.hear.result
    (λ ok. λ said line text keeps is.
    let shown : IsShown line c.in-Reception.group (facts_of c.in-Reception.elements) = reception_shows line c.args.read c.in-Reception.group c.in-Reception.elements c.in-Reception.is is in
    ok said line text keeps shown)
    c.hear.ensures.ok

pub returns-in-Reception-clause-err : goal.returns-in-Reception-clause-err
returns-in-Reception-clause-err g c = IfErr-weaker c.hear.result _ _
    (λ refusal err. elim err [
      | inl memory ↦ inl memory
      | inr full ↦ inr (λ said line text keeps is.
          let shown : IsShown line c.in-Reception.group (facts_of c.in-Reception.elements) = reception_shows line c.args.read c.in-Reception.group c.in-Reception.elements c.in-Reception.is is in
          full said line (facts_of c.in-Reception.elements) text keeps shown)
    ])
    c.hear.ensures.err

pub returns-in-Evidence-clause-ok : goal.returns-in-Evidence-clause-ok
returns-in-Evidence-clause-ok g c = on_ok_weaker c.meet.result
    (λ ok. λ said line text keeps is.
    let tells : Tells line c.in-Evidence.group c.in-Evidence.sheet = evidence_shows line c.args.read c.in-Evidence.group c.in-Evidence.sheet c.in-Evidence.is is in
    ok said line (facts_of_line c.in-Evidence.group line) text keeps tells.shown tells.ends)
    c.meet.ensures.ok

pub returns-in-Evidence-clause-err : goal.returns-in-Evidence-clause-err
returns-in-Evidence-clause-err g c = IfErr-weaker c.meet.result _ _
    (λ refusal err. elim err [
      | inl memory ↦ inl memory
      | inr full ↦ inr (λ said line text keeps is.
          let tells : Tells line c.in-Evidence.group c.in-Evidence.sheet = evidence_shows line c.args.read c.in-Evidence.group c.in-Evidence.sheet c.in-Evidence.is is in
          full said line (facts_of_line c.in-Evidence.group line) text keeps tells.shown)
    ])
    c.meet.ensures.err
