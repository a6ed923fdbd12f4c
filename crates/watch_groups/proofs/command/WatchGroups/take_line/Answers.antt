use Rattle.std.proofs.Common.{◌++◌, ◌∷◌, []}
use Rattle.std.proofs.lemmas.Result.{err_from_is_err_and}
use Rattle.join_groups.specs.Groups.{is_named, group_facts}
use Rattle.watch_groups.proofs.command.WatchGroups.take_line.Goals as goal

pub count-requires-clause-ready : goal.count-requires-clause-ready
count-requires-clause-ready g c =
    let said = c.requires.ready.0 in
    let line = c.requires.says.0 in
    record {
      named = is_named (said ++ line ∷ []);
      facts = group_facts (said ++ line ∷ []);
      holds = (c.in_ok-take_read.ensures.ok said line c.requires.ready.1 c.requires.says.1).1;
    }

pub returns-clause-stands : goal.returns-clause-stands
returns-clause-stands g c = λ said line written was says text.
    let taken = c.in_ok-take_read.ensures.ok said line was.keeps says in
    let done = c.in_ok-count.ensures.stands c.args.self.now.groups said line written was taken.1 (c.named_by-named.ensures line says) text in
    (taken.0, done.0, done.1)

pub returns-in_err-take_read-clause-refused : goal.returns-in_err-take_read-clause-refused
returns-in_err-take_read-clause-refused g c =
    let p = err_from_is_err_and c.from_residual.result c.from_residual.ensures.1 in
    rw (p.1, p.2) c.in_err-take_read.ensures.err
