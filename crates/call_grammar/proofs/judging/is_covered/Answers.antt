use Rattle.std.proofs.Common.{◌≡◌, ◌-◌, true, false, length, take, drop, sym, ◌∙◌, subst, arith, Err}
use Rattle.std.proofs.lemmas.Bool.Decides.{nat_tests}
use Rattle.std.proofs.lemmas.Grind.{common_steps}
use Rattle.symbol_reader.specs.inside.Reading.{Took, Outcome}
use Rattle.call_grammar.specs.inside.Grammar.{CheckedCharacters}
use Rattle.call_grammar.proofs.Ends.{read_covered, none_left, not_refused}
use Rattle.call_grammar.proofs.judging.is_covered.Goals as goal
use Rattle.std.proofs.lemmas.Bool.{eq-eqb}

pub returns-in-Ok : goal.returns-in-Ok
returns-in-Ok c =
    let whole : take (length c.args.list.now - 1) (drop 1 c.args.list.now) ≡ drop 1 c.args.list.now = grind (arith, common_steps) in
    let once : c.new-cursor.result ≡ drop 1 c.args.list.now = c.new-cursor.ensures ∙ whole in
    let took = subst (λ a. Took CheckedCharacters c.in-Ok.field-0 a c.checked_characters.new.list) once (c.in-Ok.ensures).outcome in
    let read = subst (λ a. Took CheckedCharacters c.in-Ok.field-0 (drop 1 c.args.list.now) a) (sym c.rest.ensures) took in (
      (λ yes. (let empty : length c.rest.result.now ≡ 0 = grind (arith, nat_tests) in read_covered _ _ _ read empty)),
      (λ w. c.is_empty.ensures ∙ eq-eqb _ 0 (none_left _ _ _ w read)),
    )

pub returns-in-Err : goal.returns-in-Err
returns-in-Err c =
    let whole : take (length c.args.list.now - 1) (drop 1 c.args.list.now) ≡ drop 1 c.args.list.now = grind (arith, common_steps) in
    let once : c.new-cursor.result ≡ drop 1 c.args.list.now = c.new-cursor.ensures ∙ whole in
    let stopped = subst (λ a. Outcome CheckedCharacters a (Err c.in-Err.field-0) c.checked_characters.new.list) once (c.in-Err.ensures).outcome in (
      (λ (no : false ≡ true). absurd (cc)),
      (λ w. absurd (not_refused _ _ c.in-Err.field-0 w stopped)),
    )
