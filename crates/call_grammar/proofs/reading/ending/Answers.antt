use Rattle.std.proofs.Common.{◌≤◌, sym, ◌∙◌, ap, arith}
use Rattle.std.proofs.lemmas.Result.{err_from_is_err_and}
use Rattle.call_grammar.specs.Spelling.{check_of}
use Rattle.call_grammar.proofs.Endings.{at_start, at_short, at_wrong, after_check, after_end, after_last, missed, place_short, covered_part}
use Rattle.call_grammar.proofs.reading.ending.Goals as goal

pub returns-in-None : goal.returns-in-None
returns-in-None c =
    at_short c.args.call _ c.args.place _ _ _
    (at_start c.args.call c.args.list.now c.requires.front.0 c.args.place c.requires.lawful c.requires.front.1 c.requires.place)
    (c.in-None.ensures).lookup.3

pub returns-in-Some : goal.returns-in-Some
returns-in-Some c =
    at_wrong c.args.call _ c.args.place c.in-Some.got.now c.check-want.result _ _
    (at_start c.args.call c.args.list.now c.requires.front.0 c.args.place c.requires.lawful c.requires.front.1 c.requires.place)
    (c.in-Some.ensures).lookup.3.0 (sym ((c.in-Some.ensures).lookup.3.1 0))
    (c.check-want.ensures ∙ ap check_of (covered_part c.args.call c.args.list.now c.requires.front.0 c.args.place c.requires.front.1 c.requires.place))
    c.if-got-want.true

pub overflow_add-n : goal.overflow_add-n
overflow_add-n c = let h : c.args.place ≤ 29 = place_short c.args.call c.args.place c.requires.place in omega arith

pub overflow_add-n-2 : goal.overflow_add-n-2
overflow_add-n-2 c = let h : c.args.place ≤ 29 = place_short c.args.call c.args.place c.requires.place in omega arith

pub returns-in_err-expect : goal.returns-in_err-expect
returns-in_err-expect c =
    let first = after_check c.args.call c.args.list.now c.requires.front.0 c.args.place c.in-Some.got.now c.requires.lawful c.requires.front.1 c.requires.place
    (c.in-Some.ensures).lookup.3.0 (sym ((c.in-Some.ensures).lookup.3.1 0)) (c.if-got-want.false ∙ c.check-want.ensures) in
    let p = err_from_is_err_and c.from_residual.result c.from_residual.ensures.1 in
    rw (p.1, p.2) (missed c.args.call c.args.list.now _ _ _ _ _ _ c.in_err-expect.field-0.0 first c.end_of-end.ensures c.in_err-expect.ensures)

pub returns-in_err-expect-2 : goal.returns-in_err-expect-2
returns-in_err-expect-2 c =
    let first = after_check c.args.call c.args.list.now c.requires.front.0 c.args.place c.in-Some.got.now c.requires.lawful c.requires.front.1 c.requires.place
    (c.in-Some.ensures).lookup.3.0 (sym ((c.in-Some.ensures).lookup.3.1 0)) (c.if-got-want.false ∙ c.check-want.ensures) in
    let second = after_end c.args.call c.args.list.now c.args.place c.end_of-end.result _ first c.in_ok-expect.ensures c.end_of-end.ensures in
    let p = err_from_is_err_and c.from_residual-in_err-expect-2.result c.from_residual-in_err-expect-2.ensures.1 in
    rw (p.1, p.2) (missed c.args.call c.args.list.now _ _ _ _ _ _ c.in_err-expect-2.field-0.0 second c.end_of-end.ensures c.in_err-expect-2.ensures)

pub returns : goal.returns
returns c =
    let first = after_check c.args.call c.args.list.now c.requires.front.0 c.args.place c.in-Some.got.now c.requires.lawful c.requires.front.1 c.requires.place
    (c.in-Some.ensures).lookup.3.0 (sym ((c.in-Some.ensures).lookup.3.1 0)) (c.if-got-want.false ∙ c.check-want.ensures) in
    let second = after_end c.args.call c.args.list.now c.args.place c.end_of-end.result _ first c.in_ok-expect.ensures c.end_of-end.ensures in
    after_last c.args.call c.args.list.now c.args.place c.end_of-end.result _ _ second c.in_ok-expect-2.ensures c.end_of-end.ensures

pub overflow_cast-n : goal.overflow_cast-n
overflow_cast-n c = let h : c.args.place ≤ 29 = place_short c.args.call c.args.place c.requires.place in omega arith
