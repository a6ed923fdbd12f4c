use Rattle.std.proofs.Common.{◌++◌, ◌∷◌, [], refl, sym, ◌∙◌}
use Rattle.std.proofs.lemmas.Result.{on_ok_weaker}
use Rattle.watch_groups.proofs.Begun.{one_watched, none_more}
use Rattle.watch_groups.proofs.telling.watch_group.Goals as goal

pub returns-in-Some : goal.returns-in-Some
returns-in-Some c = on_ok_weaker c.add.result
    (λ then. λ named was.
    one_watched c.args.groups.now named (named ++ c.args.group ∷ []) c.args.watcher.now c.add.new.self c.args.group c.in-Some.number refl (sym c.number.ensures.number ∙ c.in-Some.is) then was)
    c.add.ensures

pub returns-in-None : goal.returns-in-None
returns-in-None c = λ named was. none_more c.args.groups.now named (named ++ c.args.group ∷ []) c.args.watcher.now c.args.group refl (sym c.number.ensures.number ∙ c.in-None.is) was
