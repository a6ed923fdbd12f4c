use Rattle.std.proofs.Common.{[], ◌∷◌, ◌++◌, sym, subst, inl, inr}
use Rattle.std.proofs.lemmas.Result.{err_from_is_err_and}
use Rattle.line_engine.specs.declared.command.Refusal.{Refusal}
use Rattle.join_groups.specs.Groups.{is_named, group_facts}
use Rattle.join_groups.specs.inside.Kept.{IsRefused}
use Rattle.join_groups.proofs.Keeping.{short_read}
use Rattle.join_groups.proofs.taking.take_other.Goals as goal

pub take_read-requires-clause-short : goal.take_read-requires-clause-short
take_read-requires-clause-short g c = let line = c.in-Ok.ensures in short_read line.0 c.in-Ok.read c.args.text.now line.1.0 line.1.1 c.requires.short

pub close_full-requires-clause-ready : goal.close_full-requires-clause-ready
close_full-requires-clause-ready g c =
    let line = c.in-Ok.ensures in
    let said = c.requires.ready.0 ++ line.0 ∷ [] in
    record {
      named = is_named said;
      facts = group_facts said;
      holds = (c.in_ok-take_read.ensures.ok c.requires.ready.0 line.0 c.requires.ready.1 line.1.1).1;
    }

pub returns-clause-ok : goal.returns-clause-ok
returns-clause-ok g c = λ said keeps.
    let line = c.in-Ok.ensures in
    let taken = c.in_ok-take_read.ensures.ok said line.0 keeps line.1.1 in
    (line.0, (line.1.0, taken.0, c.in_ok-close_full.ensures.holds (is_named (said ++ line.0 ∷ [])) (group_facts (said ++ line.0 ∷ [])) taken.1))

pub returns-in_err-take_read-clause-err : goal.returns-in_err-take_read-clause-err
returns-in_err-take_read-clause-err g c =
    let p = err_from_is_err_and c.from_residual.result c.from_residual.ensures.1 in
    rw (p.1, p.2)
    (elim c.in_err-take_read.ensures.err [
      | inl memory ↦ λ said keeps. subst (λ (r : Refusal). IsRefused said c.args.text.now r) (sym memory) tt
      | inr full ↦ λ said keeps.
          let line = c.in-Ok.ensures in
          let brings = full said line.0 keeps line.1.1 in
          subst (λ (r : Refusal). IsRefused said c.args.text.now r) (sym brings.0) (line.0, (line.1.0, brings.1))
    ])
