use Rattle.std.proofs.Common.{List, sym, subst}
use Rattle.std.proofs.lemmas.Result.{on_ok_weaker}
use Rattle.join_groups.specs.Groups.{is_named, group_facts}
use Rattle.watch_groups.specs.declared.telling.ToldCall.{ToldCall}
use Rattle.watch_groups.specs.inside.Kept.{LooksAt}
use Rattle.watch_groups.proofs.Calls.{tells_none, tells_one, one_is_told}
use Rattle.watch_groups.proofs.telling.look_at.Goals as goal

pub returns-in_ok-append_told-in-Ok : goal.returns-in_ok-append_told-in-Ok
returns-in_ok-append_told-in-Ok c = on_ok_weaker c.push.result
    (λ more. λ said keeps named.
    let group = c.args.group in
    let told = c.args.told.now in
    let one : ToldCall = record { group = group; call = c.in-Ok.call } in
    let shown = c.in-Ok.ensures.call (group_facts said group) (c.sheet_of.ensures (is_named said) (group_facts said) keeps) in
    subst (λ (l : List ToldCall). LooksAt said group told c.args.out.now.items l c.append_told.new.out.items) (sym more)
    record {
      tells = tells_one said told one c.args.out.now.items c.append_told.new.out.items (record { named = named; call = shown }) (sym c.if-has.ensures) c.in_ok-append_told-in-Ok.ensures;
      done = λ call extra is. one_is_told told one;
    })
    c.push.ensures

pub returns-in_ok-keep-in-Err : goal.returns-in_ok-keep-in-Err
returns-in_ok-keep-in-Err c = λ said keeps named.
    let none = c.in-Err.ensures.none (group_facts said c.args.group) (c.sheet_of.ensures (is_named said) (group_facts said) keeps) in
    record {
      tells = tells_none said c.args.told.now c.args.out.now.items;
      done = λ call extra is. absurd (none call extra is);
    }
