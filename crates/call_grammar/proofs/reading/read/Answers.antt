use Rattle.std.proofs.Common.{◌≡◌, ◌-◌, ◌≤◌, length, take, drop, sym, ◌∙◌, subst, arith}
use Rattle.std.proofs.lemmas.Grind.{common_steps}
use Rattle.symbol_reader.specs.inside.Reading.{Wants, Leaves}
use Rattle.call_grammar.specs.inside.Grammar.{CheckedCharacters}
use Rattle.call_grammar.proofs.Readings.{checked_short, checked_outside, part_short, outside_short}
use Rattle.call_grammar.proofs.reading.read.Goals as goal

pub overflow_cast-result : goal.overflow_cast-result
overflow_cast-result c =
    let whole : take (length c.args.list.now - 1) (drop 1 c.args.list.now) ≡ drop 1 c.args.list.now = grind (arith, common_steps) in
    let wants = subst (Wants CheckedCharacters) (c.new-cursor.ensures ∙ whole) (rw c.in-Err-Short.field-0-is at c.in-Err-Short.ensures).outcome.wants in
    let short : length c.args.list.now ≤ 31 = part_short _ (checked_short c.args.list.now c.in_ok-heading.ensures wants).part in
    omega arith

pub returns-in-Err-Short : goal.returns-in-Err-Short
returns-in-Err-Short c =
    let whole : take (length c.args.list.now - 1) (drop 1 c.args.list.now) ≡ drop 1 c.args.list.now = grind (arith, common_steps) in
    let wants = subst (Wants CheckedCharacters) (c.new-cursor.ensures ∙ whole) (rw c.in-Err-Short.field-0-is at c.in-Err-Short.ensures).outcome.wants in
    checked_short c.args.list.now c.in_ok-heading.ensures wants

pub overflow_cast-result-in-Err-Outside : goal.overflow_cast-result-in-Err-Outside
overflow_cast-result-in-Err-Outside c =
    let whole : take (length c.args.list.now - 1) (drop 1 c.args.list.now) ≡ drop 1 c.args.list.now = grind (arith, common_steps) in
    let once = subst (λ a. Leaves CheckedCharacters a c.checked_characters.new.list) (c.new-cursor.ensures ∙ whole) (rw c.in-Err-Outside.field-0-is at c.in-Err-Outside.ensures).outcome in
    let leaves = subst (λ a. Leaves CheckedCharacters (drop 1 c.args.list.now) a) (sym c.rest-in-Err-Outside.ensures) once in
    let short : length c.args.list.now - length c.rest-in-Err-Outside.result.now ≤ 31 =
    outside_short _ _ _ (checked_outside c.args.list.now c.rest-in-Err-Outside.result.now c.in_ok-heading.ensures leaves) in
    omega arith

pub returns-in-Err-Outside : goal.returns-in-Err-Outside
returns-in-Err-Outside c =
    let whole : take (length c.args.list.now - 1) (drop 1 c.args.list.now) ≡ drop 1 c.args.list.now = grind (arith, common_steps) in
    let once = subst (λ a. Leaves CheckedCharacters a c.checked_characters.new.list) (c.new-cursor.ensures ∙ whole) (rw c.in-Err-Outside.field-0-is at c.in-Err-Outside.ensures).outcome in
    let leaves = subst (λ a. Leaves CheckedCharacters (drop 1 c.args.list.now) a) (sym c.rest-in-Err-Outside.ensures) once in
    checked_outside c.args.list.now c.rest-in-Err-Outside.result.now c.in_ok-heading.ensures leaves
