use Rattle.std.proofs.Common.{◌-◌, ◌≤◌, length, sym, subst, arith, Err}
use Rattle.symbol_reader.specs.declared.reading.Stop.TheVariants.{Short, Outside}
use Rattle.symbol_reader.specs.inside.Reading.{Reads}
use Rattle.expansion.specs.inside.Grammar.{CheckedSets}
use Rattle.expansion.proofs.WholeLists.{part_short, checked_short, checked_outside, outside_short}
use Rattle.expansion.proofs.reading.read_sets.Goals as goal

pub overflow_cast-result : goal.overflow_cast-result
overflow_cast-result c =
    let p : Reads (CheckedSets c.args.end) c.new-cursor.result (Err Short) c.checked_sets.new.list = rw c.in-Err-Short.field-0-is at c.in-Err-Short.ensures in
    let short = checked_short c.args.end c.args.list.now c.checked_sets.new.list (subst (λ a. Reads (CheckedSets c.args.end) a (Err Short) c.checked_sets.new.list) c.new-cursor.ensures p) in
    let few : length c.args.list.now ≤ 14 = part_short c.args.end c.args.list.now short.part in
    omega arith

pub returns-in-Err-Short : goal.returns-in-Err-Short
returns-in-Err-Short c =
    let p : Reads (CheckedSets c.args.end) c.new-cursor.result (Err Short) c.checked_sets.new.list = rw c.in-Err-Short.field-0-is at c.in-Err-Short.ensures in
    checked_short c.args.end c.args.list.now c.checked_sets.new.list (subst (λ a. Reads (CheckedSets c.args.end) a (Err Short) c.checked_sets.new.list) c.new-cursor.ensures p)

pub overflow_cast-result-in-Err-Outside : goal.overflow_cast-result-in-Err-Outside
overflow_cast-result-in-Err-Outside c =
    let p : Reads (CheckedSets c.args.end) c.new-cursor.result (Err Outside) c.checked_sets.new.list = rw c.in-Err-Outside.field-0-is at c.in-Err-Outside.ensures in
    let q = subst (λ a. Reads (CheckedSets c.args.end) a (Err Outside) c.checked_sets.new.list) c.new-cursor.ensures p in
    let r = subst (λ a. Reads (CheckedSets c.args.end) c.args.list.now (Err Outside) a) (sym c.rest-in-Err-Outside.ensures) q in
    let few : length c.args.list.now - length c.rest-in-Err-Outside.result.now ≤ 14 =
    outside_short c.args.end c.args.list.now _ _ (checked_outside c.args.end c.args.list.now c.rest-in-Err-Outside.result.now r) in
    omega arith

pub returns-in-Err-Outside : goal.returns-in-Err-Outside
returns-in-Err-Outside c =
    let p : Reads (CheckedSets c.args.end) c.new-cursor.result (Err Outside) c.checked_sets.new.list = rw c.in-Err-Outside.field-0-is at c.in-Err-Outside.ensures in
    let q = subst (λ a. Reads (CheckedSets c.args.end) a (Err Outside) c.checked_sets.new.list) c.new-cursor.ensures p in
    let r = subst (λ a. Reads (CheckedSets c.args.end) c.args.list.now (Err Outside) a) (sym c.rest-in-Err-Outside.ensures) q in
    checked_outside c.args.end c.args.list.now c.rest-in-Err-Outside.result.now r
