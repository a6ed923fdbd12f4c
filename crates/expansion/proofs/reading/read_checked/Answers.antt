use Rattle.std.proofs.Common.{sym, subst, Err}
use Rattle.symbol_reader.specs.inside.Reading.{Reads}
use Rattle.expansion.specs.inside.Grammar.{CheckedSets}
use Rattle.expansion.proofs.CheckedLists.{checked_stop}
use Rattle.expansion.proofs.reading.read_checked.Goals as goal

pub returns-in-Err : goal.returns-in-Err
returns-in-Err c =
    let p : Reads (CheckedSets c.args.end) c.new-cursor.result (Err c.in-Err.field-0) c.checked_sets.new.list = c.in-Err.ensures in
    let q = subst (λ a. Reads (CheckedSets c.args.end) a (Err c.in-Err.field-0) c.checked_sets.new.list) c.new-cursor.ensures p in
    let r = subst (λ a. Reads (CheckedSets c.args.end) c.args.list.now (Err c.in-Err.field-0) a) (sym c.rest-in-Err.ensures) q in
    checked_stop c.args.end c.args.list.now c.rest-in-Err.result.now c.in-Err.field-0 r
