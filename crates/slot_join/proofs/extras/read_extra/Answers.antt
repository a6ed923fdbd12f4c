use Rattle.std.proofs.Common.{ℕ, ◌+◌, ◌<◌, length, sym, ap, ◌∙◌, arith}
use Rattle.slot_join.specs.declared.joined.Extra.TheVariants.{Absent, Whole, Broken}
use Rattle.slot_join.proofs.Followers.{blank_facts, some_facts, none_one, followed, whole_of, broken_of, open_short}
use Rattle.slot_join.proofs.extras.read_extra.Goals as goal

pub returns-then-is_blank_from : goal.returns-then-is_blank_from
returns-then-is_blank_from c = λ F ends.
    followed F c.args.call.now Absent c.own_end-last.result (c.args.check_place + 3) c.own_end-last.ensures c.requires.place
    (blank_facts F c.args.sheet.now (c.args.check_place + 3) ends (c.is_blank_from.ensures.blank c.if-is_blank_from.true))

pub returns-in-Ok : goal.returns-in-Ok
returns-in-Ok c = λ F ends.
    let from : ℕ = c.args.check_place + 3 in
    let found = c.in-Ok.ensures in
    followed F c.args.call.now (Whole c.in-Ok.expansion) c.own_end-last.result from c.own_end-last.ensures c.requires.place
    (whole_of c.fronts_differ.ensures F from c.own_end-last.result c.shown_from-shown.result.items (c.shown_from-shown.ensures.shown F ends)
    (λ v below one. none_one F c.args.sheet.now (from + length c.shown_from-shown.result.items) ends (c.shown_from-shown.ensures.stops below) v one)
    c.in-Ok.expansion found.rest found.lawful (sym c.as_slice.ensures.value ∙ found.list))

pub returns-in-Err : goal.returns-in-Err
returns-in-Err c = λ F ends.
    let from : ℕ = c.args.check_place + 3 in
    let found = c.in-Err.ensures in
    let few : from + length found.front < 64 =
    omega (arith, open_short c.lists_are_short-2.ensures c.own_end-last.result found.front found.open_, (c.lists_are_short.ensures c.args.call.now c.requires.lawful).1, c.requires.place) in
    followed F c.args.call.now (Broken (from + c.in-Err.n)) c.own_end-last.result from c.own_end-last.ensures c.requires.place
    (broken_of c.fronts_differ.ensures F from c.own_end-last.result c.shown_from-shown.result.items (c.shown_from-shown.ensures.shown F ends)
    (λ v below one. none_one F c.args.sheet.now (from + length c.shown_from-shown.result.items) ends (c.shown_from-shown.ensures.stops below) v one)
    found.front found.rest (sym c.as_slice.ensures.value ∙ found.list) found.open_ few found.never
    (λ blank. some_facts F c.args.sheet.now from ends (c.is_blank_from.ensures.some c.if-is_blank_from.false) blank)
    (from + c.in-Err.n) (ap (λ (n : ℕ). from + n) found.place))
