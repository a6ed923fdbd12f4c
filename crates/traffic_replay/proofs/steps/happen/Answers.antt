use Rattle.std.proofs.Common.{◌≡◌, ◌∷◌, ◌++◌, ◌∙◌, Some, is_ok, refl, sym, ap, subst}
use Rattle.std.proofs.lemmas.Result.{on_ok_weaker}
use Rattle.call_values.specs.declared.calls.Call.{Call}
use Rattle.traffic_rules.specs.Rules.{answer_to, continued}
use Rattle.traffic_lines.specs.declared.{lines.Event.Event, lines.Hearing.Hearing}
use Rattle.traffic_lines.specs.declared.lines.Event.TheVariants.{Does, Comes}
use Rattle.traffic_lines.specs.declared.lines.Hearing.TheVariants.{Hear, Heard}
use Rattle.traffic_lines.specs.declared.lines.TrafficLine.TheVariants as line
use Rattle.traffic_lines.specs.Lines.{event_with, deed_with}
use Rattle.station_lines.specs.Answers.{answer_lines}
use Rattle.input_lines.specs.PointLine.{traffic}
use Rattle.traffic_replay.specs.inside.Happens.{Happens}
use Rattle.traffic_replay.specs.inside.Kept.{KeepsGroups}
use Rattle.traffic_replay.proofs.GroupKeeping.{silent}
use Rattle.traffic_replay.proofs.Happened.{tell, plain_happens, heard_happens, unheard_happens}
use Rattle.traffic_replay.proofs.steps.happen.Goals as goal

pub returns-in-Does-clause-kept : goal.returns-in-Does-clause-kept
returns-in-Does-clause-kept g c = on_ok_weaker c.step.result
    (λ stands. λ said own keeps.
    subst (λ (e : Event g.row.S-Own.Denot Hearing). KeepsGroups c.args.groups.now (traffic (line.Event c.args.at (event_with own e)) ∷ said)) (sym c.in-Does.is)
    (silent c.args.groups.now said (line.Event c.args.at (Does (deed_with own c.in-Does.deed))) (λ k. refl) keeps))
    c.step.ensures.stands

pub returns-in-Does-clause-happens : goal.returns-in-Does-clause-happens
returns-in-Does-clause-happens g c = tell c.step.result
    (λ accepted stands lines well. λ said taking own who h takes keeps at_who.
    subst (λ (e : Event g.row.S-Own.Denot Hearing). Happens (g.S.Station.rules who) taking (g.S.Station.stands c.step.new.station who) h said c.args.at (event_with own e) c.args.out.now.items c.step.new.out.items accepted)
    (sym c.in-Does.is)
    (plain_happens (g.S.Station.rules who) taking (g.S.Station.stands c.step.new.station who) h said c.args.at (Does (deed_with own c.in-Does.deed)) c.args.out.now.items c.step.new.out.items accepted c.deed.result
    (c.deed.result, takes.deeds c.args.at c.in-Does.deed ∙ ap (λ (e : g.row.S-What.Denot). Some e) (sym c.deed.ensures), refl) (stands who h at_who) (lines who h at_who) (well who h at_who)))
    c.step.ensures.stands c.step.ensures.lines c.step.ensures.accepted

pub returns-in-Hear-clause-kept : goal.returns-in-Hear-clause-kept
returns-in-Hear-clause-kept g c = on_ok_weaker c.step-in-Hear.result
    (λ stands. λ said own keeps.
    let here : ◌≡◌ {A = Event g.row.S-Own.Denot Hearing} c.args.what.now (Comes (Hear c.in-Hear.call c.in-Hear._expansion)) = c.in-Comes.is ∙ ap (λ (x : Hearing). Comes x) c.in-Hear.is in
    subst (λ (e : Event g.row.S-Own.Denot Hearing). KeepsGroups c.args.groups.now (traffic (line.Event c.args.at (event_with own e)) ∷ said)) (sym here)
    (silent c.args.groups.now said (line.Event c.args.at (Comes (Hear c.in-Hear.call c.in-Hear._expansion))) (λ k. refl) keeps))
    c.step-in-Hear.ensures.stands

pub returns-in-Hear-clause-happens : goal.returns-in-Hear-clause-happens
returns-in-Hear-clause-happens g c = tell c.step-in-Hear.result
    (λ accepted stands lines well. λ said taking own who h takes keeps at_who.
    let call = c.in-Hear.call in
    let here : ◌≡◌ {A = Event g.row.S-Own.Denot Hearing} c.args.what.now (Comes (Hear call c.in-Hear._expansion)) = c.in-Comes.is ∙ ap (λ (x : Hearing). Comes x) c.in-Hear.is in
    subst (λ (e : Event g.row.S-Own.Denot Hearing). Happens (g.S.Station.rules who) taking (g.S.Station.stands c.step-in-Hear.new.station who) h said c.args.at (event_with own e) c.args.out.now.items c.step-in-Hear.new.out.items accepted)
    (sym here)
    (plain_happens (g.S.Station.rules who) taking (g.S.Station.stands c.step-in-Hear.new.station who) h said c.args.at (Comes (Hear call c.in-Hear._expansion)) c.args.out.now.items c.step-in-Hear.new.out.items accepted c.heard.result
    (c.heard.result, takes.calls c.args.at call c.in-Hear._expansion ∙ ap (λ (e : g.row.S-What.Denot). Some e) (sym c.heard.ensures), refl) (stands who h at_who) (lines who h at_who) (well who h at_who)))
    c.step-in-Hear.ensures.stands c.step-in-Hear.ensures.lines c.step-in-Hear.ensures.accepted

pub returns-in-Ok-clause-happens : goal.returns-in-Ok-clause-happens
returns-in-Ok-clause-happens g c = tell c.step-in-Ok.result
    (λ accepted stands lines well. λ said taking own who h takes keeps at_who.
    let here : ◌≡◌ {A = Event g.row.S-Own.Denot Hearing} c.args.what.now (Comes (Heard c.in-Heard.group)) = c.in-Comes.is ∙ ap (λ (x : Hearing). Comes x) c.in-Heard.is in
    let same : c.heard-in-Ok.result ≡ taking.heard c.in-Ok.call = c.heard-in-Ok.ensures ∙ sym (ap (λ (f : Call → g.row.S-What.Denot). f c.in-Ok.call) takes.heard) in
    let done = subst (λ (e : g.row.S-What.Denot). g.S.Station.stands c.step-in-Ok.new.station who (continued (g.S.Station.rules who) h c.args.at e)) same (stands who h at_who) in
    subst (λ (e : Event g.row.S-Own.Denot Hearing). Happens (g.S.Station.rules who) taking (g.S.Station.stands c.step-in-Ok.new.station who) h said c.args.at (event_with own e) c.args.out.now.items c.step-in-Ok.new.out.items accepted) (sym here)
    (heard_happens (g.S.Station.rules who) taking (g.S.Station.stands c.step-in-Ok.new.station who) h said c.args.at c.in-Heard.group c.args.out.now.items c.step-in-Ok.new.out.items accepted
    c.in_ok-answer-in-Heard.answer c.in-Ok.call (c.in_ok-answer-in-Heard.ensures.answer said keeps) (sym c.heard_call.ensures ∙ c.in-Ok.is)
    done (lines who h at_who ∙ ap (λ (e : g.row.S-What.Denot). c.args.out.now.items ++ answer_lines c.args.at (answer_to (g.S.Station.rules who) h c.args.at e)) same)
    (well who h at_who ∙ ap (λ (e : g.row.S-What.Denot). is_ok (answer_to (g.S.Station.rules who) h c.args.at e)) same)))
    c.step-in-Ok.ensures.stands c.step-in-Ok.ensures.lines c.step-in-Ok.ensures.accepted

pub returns-in-Err-clause-happens : goal.returns-in-Err-clause-happens
returns-in-Err-clause-happens g c = tell c.append_unreported.result
    (λ accepted line again well. λ said taking own who h takes keeps at_who.
    let here : ◌≡◌ {A = Event g.row.S-Own.Denot Hearing} c.args.what.now (Comes (Heard c.in-Heard.group)) = c.in-Comes.is ∙ ap (λ (x : Hearing). Comes x) c.in-Heard.is in
    subst (λ (e : Event g.row.S-Own.Denot Hearing). Happens (g.S.Station.rules who) taking (g.S.Station.stands c.args.station.now who) h said c.args.at (event_with own e) c.args.out.now.items c.append_unreported.new.out.items accepted) (sym here)
    (unheard_happens (g.S.Station.rules who) taking (g.S.Station.stands c.args.station.now who) h said c.args.at c.in-Heard.group c.args.out.now.items c.append_unreported.new.out.items accepted
    c.in_ok-answer-in-Heard.answer c.in-Err.unreported (c.in_ok-answer-in-Heard.ensures.answer said keeps) (sym c.heard_call.ensures ∙ c.in-Err.is) at_who line well))
    c.append_unreported.ensures.line c.append_unreported.ensures.line c.append_unreported.ensures.accepted
