use Rattle.std.proofs.lemmas.Result.{err_from_is_err_and}
use Rattle.slot_evidence.specs.Facts.{facts_of}
use Rattle.join_groups.specs.Holds.{named_with, facts_with}
use Rattle.join_groups.proofs.groups.NamedGroups.hear.Goals as goal

pub close_full-requires-clause-ready : goal.close_full-requires-clause-ready
close_full-requires-clause-ready g c =
    let ready = c.requires.ready in
    record {
      named = named_with c.args.group ready.named;
      facts = facts_with c.args.group (facts_of c.args.heard) ready.facts;
      holds = (c.in_ok-wait.ensures.ok ready.named ready.facts ready.holds).1;
    }

pub returns-clause-ok : goal.returns-clause-ok
returns-clause-ok g c = λ named F holds.
    let taken = c.in_ok-wait.ensures.ok named F holds in
    (taken.0, c.in_ok-close_full.ensures.holds (named_with c.args.group named) (facts_with c.args.group (facts_of c.args.heard) F) taken.1)

pub returns-in_err-wait-clause-err : goal.returns-in_err-wait-clause-err
returns-in_err-wait-clause-err g c =
    let p = err_from_is_err_and c.from_residual.result c.from_residual.ensures.1 in
    rw (p.1, p.2) c.in_err-wait.ensures.err
