use Rattle.std.proofs.Common.{List, sym, subst}
use Rattle.std.proofs.lemmas.Result.{on_ok_weaker, err_from_is_err_and}
use Rattle.slot_evidence.specs.Facts.{facts_of}
use Rattle.receiver_pool.specs.declared.group_entries.GroupReception.{GroupReception}
use Rattle.join_groups.specs.Holds.{HoldsIn, named_with, facts_with, number_in}
use Rattle.join_groups.proofs.Holding.{holds_heard}
use Rattle.join_groups.proofs.groups.NamedGroups.wait.Goals as goal

pub returns-in-Some-clause-ok : goal.returns-in-Some-clause-ok
returns-in-Some-clause-ok c = on_ok_weaker c.meet.result (λ ok. λ named F holds. ok named F (facts_of c.args.heard) holds c.in-Some.ensures) c.meet.ensures.ok

pub returns-clause-ok : goal.returns-clause-ok
returns-clause-ok c = λ named F holds.
    let known = c.in_ok-number.ensures.ok named F holds in
    let given = c.number_of.new.self in
    let with = named_with c.args.group named in (
      known.0,
      subst (λ (b : List GroupReception). HoldsIn (number_in given) given.sheets.items b with (facts_with c.args.group (facts_of c.args.heard) F)) (sym c.in_ok-push.ensures.items)
          (holds_heard (number_in given) given.sheets.items given.batch.items with F c.args.group c.in_ok-number.number known.2 known.1 c.args.heard c.requires.short),
    )

pub returns-in_err-number-clause-err : goal.returns-in_err-number-clause-err
returns-in_err-number-clause-err c =
    let p = err_from_is_err_and c.from_residual.result c.from_residual.ensures.1 in
    rw (p.1, p.2) c.in_err-number.ensures.err
