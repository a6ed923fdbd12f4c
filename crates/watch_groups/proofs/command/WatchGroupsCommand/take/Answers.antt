use Rattle.std.proofs.Common.{◌++◌, subst, sym, inl, inr}
use Rattle.std.proofs.lemmas.Result.{on_ok_weaker, IfErr-weaker}
use Rattle.plain_laws.proofs.Results.{on_ok_both}
use Rattle.watch_groups.proofs.Ends.{stands_after, taken_behind, refused_behind}
use Rattle.watch_groups.proofs.command.WatchGroupsCommand.take.Goals as goal

pub returns-in-Ok-clause-stands : goal.returns-in-Ok-clause-stands
returns-in-Ok-clause-stands g c = on_ok_both c.take_line.result
    (λ same ok. λ lines written stands.
    let line = c.in-Ok.ensures in
    let new = c.take_line.new.self in
    let taken = ok stands.1.said line.0 written stands.1.watches line.1.1 stands.1.text_is in (
      subst g.W.WatchedJoiner.can_join (sym same) stands.0,
      stands_after stands.1 line.0 c.args.line.now new.groups new.named.items new.told new.heard (written ++ c.take_line.new.out.items) line.1.0 taken.1 taken.2,
    ))
    c.take_line.ensures.workers
    c.take_line.ensures.stands

pub returns-in-Ok-clause-taken : goal.returns-in-Ok-clause-taken
returns-in-Ok-clause-taken g c = on_ok_weaker c.take_line.result
    (λ ok. λ lines written stands.
    let line = c.in-Ok.ensures in
    let taken = ok stands.1.said line.0 written stands.1.watches line.1.1 stands.1.text_is in
    taken_behind stands.1 c.one_line.ensures line.0 c.args.line.now line.1.0 taken.0)
    c.take_line.ensures.stands

pub returns-in-Ok-clause-refused : goal.returns-in-Ok-clause-refused
returns-in-Ok-clause-refused g c = IfErr-weaker c.take_line.result _ _
    (λ refusal err. λ lines written stands.
    let line = c.in-Ok.ensures in
    refused_behind stands.1 line.0 c.args.line.now refusal line.1.0 (elim err [
      | inl memory ↦ inl memory
      | inr full ↦ inr (full stands.1.said line.0 stands.1.watches.keeps line.1.1)
    ]))
    c.take_line.ensures.refused
