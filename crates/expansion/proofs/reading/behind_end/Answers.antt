use Rattle.std.proofs.Common.{◌≡◌, ◌∷◌, length, sym, ap, ◌∙◌, arith}
use Rattle.symbol_reader.specs.Checks.{check_of}
use Rattle.expansion.specs.Spelling.{covered}
use Rattle.expansion.proofs.WholeLists.{covered_part}
use Rattle.expansion.proofs.CheckedLists.{checked_found, checked_missed}
use Rattle.expansion.proofs.reading.behind_end.Goals as goal

pub returns-in_default : goal.returns-in_default
returns-in_default c =
    checked_missed c.args.end c.args.expansion c.args.list.now c.args.rest.now c.requires.lawful c.requires.list (λ symbol more is _.
    (let none : length c.args.rest.now ≡ 0 = c.in_default.ensures.cases in
    let some : length c.args.rest.now ≡ length (symbol ∷ more) = ap length is in
    absurd (omega arith)))

pub returns-then-symbol-want : goal.returns-then-symbol-want
returns-then-symbol-want c =
    let want : c.check-want.result ≡ check_of (covered c.args.expansion c.args.end) =
    c.check-want.ensures ∙ ap check_of (covered_part c.args.end c.args.expansion c.args.list.now c.args.rest.now c.requires.list) in
    checked_found c.args.end c.args.expansion c.args.list.now c.args.rest.now _ c.check-want.result c.in-Some.symbol.now
    c.requires.lawful c.requires.list want c.in-Some.ensures.cases.0 c.if-symbol-want.true

pub returns-else-symbol-want : goal.returns-else-symbol-want
returns-else-symbol-want c =
    let want : c.check-want.result ≡ check_of (covered c.args.expansion c.args.end) =
    c.check-want.ensures ∙ ap check_of (covered_part c.args.end c.args.expansion c.args.list.now c.args.rest.now c.requires.list) in
    checked_missed c.args.end c.args.expansion c.args.list.now c.args.rest.now c.requires.lawful c.requires.list (λ symbol more is wanted.
    (let first : c.in-Some.symbol.now ∷ c.in-Some.field-0-1.now ≡ symbol ∷ more = sym c.in-Some.ensures.cases.0 ∙ is in
    let same : c.in-Some.symbol.now ≡ symbol = cc in
    c.if-symbol-want.false (same ∙ wanted ∙ sym want)))
