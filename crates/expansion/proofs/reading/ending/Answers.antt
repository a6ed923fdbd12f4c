use Rattle.std.proofs.Common.{◌≡◌, ◌-◌, ◌≤◌, length, refl, sym, ◌∙◌, ap, arith, Ok, Err, ◌==◌}
use Rattle.symbol_reader.specs.Checks.{check_of}
use Rattle.symbol_reader.specs.declared.reading.Stop.TheVariants.{Short, Outside}
use Rattle.symbol_reader.specs.inside.Reading.{Reads, Leaves}
use Rattle.symbol_reader.specs.inside.Closings.{Closing}
use Rattle.expansion.specs.Spelling.{covered}
use Rattle.expansion.specs.Reading.{EndsShort}
use Rattle.expansion.proofs.WholeLists.{Lists, part_of, part_short, closed_ok, closed_short, closed_left, closed_refused, covered_part, closing_as, left_place}
use Rattle.expansion.proofs.reading.ending.Goals as goal

short : (c : goal.In-Err-Short) → EndsShort c.args.end c.args.list.now (length c.args.list.now)
short c =
    let p : Reads (Closing c.check-want.result c.symbol.result) c.new-cursor.result (Err Short) c.closing.new.list = rw c.in-Err-Short.field-0-is at c.in-Err-Short.ensures in
    let want : c.check-want.result ≡ check_of (covered c.args.expansion c.args.end) =
    c.check-want.ensures ∙ ap check_of (covered_part c.args.end c.args.expansion c.args.list.now c.args.rest.now c.requires.list) in
    closed_short c.args.end c.args.expansion c.args.list.now c.args.rest.now c.closing.new.list c.requires.lawful c.requires.list
    (closing_as _ _ _ _ _ _ _ _ (Err Short) want c.symbol.ensures c.new-cursor.ensures refl p)

left : (c : goal.After-rest) → Leaves (Lists c.args.end) c.args.list.now c.rest.result.now
left c =
    let p : Reads (Closing c.check-want.result c.symbol.result) c.new-cursor.result (Err Outside) c.closing.new.list = rw c.in-Err-Outside.field-0-is at c.in-Err-Outside.ensures in
    let want : c.check-want.result ≡ check_of (covered c.args.expansion c.args.end) =
    c.check-want.ensures ∙ ap check_of (covered_part c.args.end c.args.expansion c.args.list.now c.args.rest.now c.requires.list) in
    closed_left c.args.end c.args.expansion c.args.list.now c.args.rest.now c.rest.result.now c.requires.lawful c.requires.list
    (closing_as _ _ _ _ _ _ _ _ (Err Outside) want c.symbol.ensures c.new-cursor.ensures (sym c.rest.ensures) p)

pub overflow_cast-result : goal.overflow_cast-result
overflow_cast-result c =
    let few : length c.args.list.now ≤ 14 = part_short c.args.end c.args.list.now (short c).part in
    omega arith

pub overflow_cast-n : goal.overflow_cast-n
overflow_cast-n c =
    let v = left c in
    let place : length c.args.list.now - length c.rest.result.now ≡ length v.front = left_place c.args.end c.args.list.now c.rest.result.now v in
    let few : length v.front ≤ 14 = part_short c.args.end v.front (part_of c.args.end v.front v.wants) in
    omega arith

pub returns-in-Ok : goal.returns-in-Ok
returns-in-Ok c =
    let p : Reads (Closing c.check-want.result c.symbol.result) c.new-cursor.result (Ok c.in-Ok.field-0) c.closing.new.list = c.in-Ok.ensures in
    let want : c.check-want.result ≡ check_of (covered c.args.expansion c.args.end) =
    c.check-want.ensures ∙ ap check_of (covered_part c.args.end c.args.expansion c.args.list.now c.args.rest.now c.requires.list) in
    closed_ok c.args.end c.args.expansion c.args.list.now c.args.rest.now c.closing.new.list c.in-Ok.field-0 c.requires.lawful c.requires.list
    (closing_as _ _ _ _ _ _ _ _ (Ok c.in-Ok.field-0) want c.symbol.ensures c.new-cursor.ensures refl p)

pub returns-in-Err-Short : goal.returns-in-Err-Short
returns-in-Err-Short c = short c

pub returns-in-Err-Outside : goal.returns-in-Err-Outside
returns-in-Err-Outside c =
    let p : Reads (Closing c.check-want.result c.symbol.result) c.new-cursor.result (Err Outside) c.closing.new.list = rw c.in-Err-Outside.field-0-is at c.in-Err-Outside.ensures in
    let want : c.check-want.result ≡ check_of (covered c.args.expansion c.args.end) =
    c.check-want.ensures ∙ ap check_of (covered_part c.args.end c.args.expansion c.args.list.now c.args.rest.now c.requires.list) in
    let v = closed_left c.args.end c.args.expansion c.args.list.now c.args.rest.now c.rest.result.now c.requires.lawful c.requires.list
    (closing_as _ _ _ _ _ _ _ _ (Err Outside) want c.symbol.ensures c.new-cursor.ensures (sym c.rest.ensures) p) in
    closed_refused c.args.end c.args.expansion c.args.list.now c.args.rest.now c.rest.result.now v c.check-want.result c.refusal.result
    ((length c.args.list.now - length c.rest.result.now) == (length c.args.list.now - length c.args.rest.now))
    c.requires.lawful c.requires.list want refl c.refusal.ensures.at_check c.refusal.ensures.elsewhere
