use Rattle.std.proofs.Common.{◌++◌, Ok, refl, sym, subst, inl, inr}
use Rattle.std.proofs.lemmas.Result.{on_ok_weaker, IfErr-weaker}
use Rattle.traffic_lines.specs.declared.lines.Point.{Point}
use Rattle.input_lines.specs.PointLine.{joined, IsPointLine}
use Rattle.input_lines.specs.Lines.{ReadsJoinedAt}
use Rattle.join_groups.proofs.PublicLaws.{short_read}
use Rattle.line_engine.specs.declared.command.Refusal.{Refusal}
use Rattle.traffic_replay.specs.inside.Progress.{Refuses, point_at}
use Rattle.traffic_replay.proofs.Receivers.{IsReceivers, receivers_line, joined_taken}
use Rattle.traffic_replay.proofs.command.Replay.take_line.Goals as goal

pub take_joined-requires-clause-short : goal.take_joined-requires-clause-short
take_joined-requires-clause-short g c =
    let one : IsReceivers (point_at c.args.self.now.stage) c.in-Some.says c.args.line.now = receivers_line (point_at c.args.self.now.stage) c.in-Ok.joined c.in-Some.says c.args.line.now c.in-Some.is (subst (λ (p : Point). ReadsJoinedAt p c.args.line.now (Ok c.in-Ok.joined)) c.point.ensures c.in-Ok.ensures) in
    short_read one.line c.in-Some.says c.args.line.now one.is_line.1 one.says_it c.requires.short

pub returns-in-Some-clause-ok : goal.returns-in-Some-clause-ok
returns-in-Some-clause-ok g c = on_ok_weaker c.take_joined.result
    (λ ok. λ said text keeps.
    let one : IsReceivers (point_at c.args.self.now.stage) c.in-Some.says c.args.line.now = receivers_line (point_at c.args.self.now.stage) c.in-Ok.joined c.in-Some.says c.args.line.now c.in-Some.is (subst (λ (p : Point). ReadsJoinedAt p c.args.line.now (Ok c.in-Ok.joined)) c.point.ensures c.in-Ok.ensures) in
    let taken = ok said one.line (text ++ c.args.out.now.items) keeps one.says_it in
    record {
      says = joined one.line;
      is_line = subst (λ (p : Point). IsPointLine p (joined one.line) c.args.line.now) keeps.point one.is_line;
      few = λ b. joined_taken said one.line taken.0 b;
      keeps = taken.1;
    })
    c.take_joined.ensures.ok

pub returns-in-Some-clause-err : goal.returns-in-Some-clause-err
returns-in-Some-clause-err g c = IfErr-weaker c.take_joined.result _ _
    (λ refusal err. elim err [
      | inl memory ↦ λ said text keeps. subst (λ (r : Refusal). Refuses said c.args.line.now r) (sym memory) tt
      | inr full ↦ λ said text keeps.
          let one : IsReceivers (point_at c.args.self.now.stage) c.in-Some.says c.args.line.now = receivers_line (point_at c.args.self.now.stage) c.in-Ok.joined c.in-Some.says c.args.line.now c.in-Some.is (subst (λ (p : Point). ReadsJoinedAt p c.args.line.now (Ok c.in-Ok.joined)) c.point.ensures c.in-Ok.ensures) in
          let brings = full said one.line text keeps one.says_it in
          subst (λ (r : Refusal). Refuses said c.args.line.now r) (sym brings.0)
          (joined one.line, (subst (λ (p : Point). IsPointLine p (joined one.line) c.args.line.now) keeps.point one.is_line, record { line = one.line; is_joined = refl; brings = brings.1 }))
    ])
    c.take_joined.ensures.err

pub take_joined-requires-clause-may : goal.take_joined-requires-clause-may
take_joined-requires-clause-may g c =
    let one : IsReceivers (point_at c.args.self.now.stage) c.in-Some.says c.args.line.now = receivers_line (point_at c.args.self.now.stage) c.in-Ok.joined c.in-Some.says c.args.line.now c.in-Some.is (subst (λ (p : Point). ReadsJoinedAt p c.args.line.now (Ok c.in-Ok.joined)) c.point.ensures c.in-Ok.ensures) in
    one.may
