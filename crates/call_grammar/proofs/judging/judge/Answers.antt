use Rattle.std.proofs.Common.{◌≡◌, ◌-◌, length, take, drop, sym, ◌∙◌, subst, arith}
use Rattle.std.proofs.lemmas.Grind.{common_steps}
use Rattle.symbol_reader.specs.inside.Reading.{Took}
use Rattle.call_grammar.specs.inside.Grammar.{CheckedCharacters}
use Rattle.call_grammar.proofs.Steps.{checked_at}
use Rattle.call_grammar.proofs.judging.judge.Goals as goal

pub returns-in-Some : goal.returns-in-Some
returns-in-Some c =
    let whole : take (length c.args.list.now - 1) (drop 1 c.args.list.now) ≡ drop 1 c.args.list.now = grind (arith, common_steps) in
    let once : c.new-cursor.result ≡ drop 1 c.args.list.now = c.new-cursor.ensures ∙ whole in
    let took = subst (λ m. Took CheckedCharacters c.in-Ok.call c.new-cursor.result m) (sym c.rest-rest.ensures) (c.in-Ok.ensures).outcome in
    let list = checked_at c.in-Ok.call c.new-cursor.result c.rest-rest.result.now c.in-Some.got.now took
    (c.in-Some.ensures).item.3.0 ((c.in-Some.ensures).item.3.1 0) in
    c.compare.ensures _ (drop 1 c.rest-rest.result.now) (sym once ∙ list)
