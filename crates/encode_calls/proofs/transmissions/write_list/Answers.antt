use Rattle.std.proofs.Common.{◌≡◌, ◌<◌, ◌++◌, ap, sym, subst, ◌∙◌}
use Rattle.std.specs.List.{All}
use Rattle.std.proofs.lemmas.List.Elements.{All-append}
use Rattle.call_grammar.specs.Spelling.{spell}
use Rattle.expansion.specs.Spelling.{spell as expanded}
use Rattle.encode_calls.proofs.transmissions.write_list.Goals as goal

pub returns-in-Some-clause-symbols : goal.returns-in-Some-clause-symbols
returns-in-Some-clause-symbols c =
    let behind = expanded c.in-Some.sets c.own_end.result in
    let list : c.append.new.out.items ≡ spell c.args.call.now ++ behind =
    c.append.ensures.items
    ∙ ap (λ l. l ++ c.deref.result.now) c.spell_into.ensures
    ∙ ap (λ l. spell c.args.call.now ++ l) (c.deref.ensures.0 ∙ c.spell_sets.ensures.list) in
    subst (All (λ v. v < 128)) (sym list)
    (All-append (λ v. v < 128) (spell c.args.call.now) behind (c.lists_are_characters.ensures c.args.call.now c.lawful.ensures) (c.lists_are_characters-2.ensures c.in-Some.sets c.own_end.result c.lawful-in-Some.ensures))
