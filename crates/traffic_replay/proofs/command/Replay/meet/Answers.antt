use Rattle.std.proofs.Common.{◌<◌, ℕ, length, refl, ap, sym, subst, inl, inr}
use Rattle.std.proofs.lemmas.Result.{err_from_is_err_and}
use Rattle.join_groups.specs.declared.groups.TheConstants.{MOST_IN_BATCH}
use Rattle.join_groups.specs.Groups.{is_named}
use Rattle.join_groups.proofs.PublicLaws.{brings_full, full_brings}
use Rattle.traffic_replay.specs.HeardGroups.{of_receivers, facts_since_heard}
use Rattle.traffic_replay.proofs.GroupKeeping.{keeps_line}
use Rattle.traffic_replay.proofs.Told.{keeps_shown}
use Rattle.traffic_replay.proofs.command.Replay.meet.Goals as goal

pub returns-clause-ok : goal.returns-clause-ok
returns-clause-ok c = λ said line G text keeps shown ends.
    let old = c.args.self.now in
    let taken = c.in_ok-meet.ensures.ok (is_named (of_receivers said)) (λ k. facts_since_heard k said) G keeps.heard ends in (
      λ b. taken.0 (brings_full (of_receivers said) line c.args.group shown.named b),
      keeps_shown old _ line said text keeps refl c.begin.ensures c.requires.body (shown.point said)
          (keeps_line c.meet.new.self said line c.args.group G shown.named shown.facts taken.1) (subst (λ (n : ℕ). n < MOST_IN_BATCH) (sym (ap (λ b. length b.items) c.meet.ensures.batch)) keeps.few),
    )

pub returns-in_err-meet-clause-err : goal.returns-in_err-meet-clause-err
returns-in_err-meet-clause-err c =
    let p = err_from_is_err_and c.from_residual.result c.from_residual.ensures.1 in
    rw (p.1, p.2) (elim c.in_err-meet.ensures.err [
      | inl memory ↦ inl memory
      | inr full ↦ inr (λ said line G text keeps shown.
          let is = full (is_named (of_receivers said)) (λ k. facts_since_heard k said) keeps.heard in
          (is.0, full_brings (of_receivers said) line c.args.group shown.named is.1))
    ])
