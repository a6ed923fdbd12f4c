use Rattle.std.proofs.Common.{◌≤◌, List, length, map, take, get_or, ◌∙◌, ap, sym, arith}
use Rattle.std.proofs.lemmas.List.{length-take-le, length-take, length-map, get_or-take, take-map}
use Rattle.ten_unit.specs.declared.character.Element.{Element}
use Rattle.ten_unit.specs.declared.character.Element.TheVariants.{Lost}
use Rattle.ten_unit.specs.Signs.{element_of}
use Rattle.long_capture.proofs.Blocks.{reads_block, quiet_block}
use Rattle.long_capture.proofs.scans.Scan.skip.Goals as goal

pub returns-clause-reads : goal.returns-clause-reads
returns-clause-reads c = λ e n reads next.
    let signs = c.args.signs.now in
    let most = c.min-most.result in
    let count = c.push_front-count.result in
    let given = map element_of (take most signs) in
    let front : count ≤ length (take most signs) = c.push_front-count.ensures.front in
    let few : count ≤ most = omega (arith, front, length-take most signs) in
    reads_block c.args.self.now c.push_front-count.new.self (take count given) count c.push_front-count.ensures.pushed
    (length-take-le count given (omega (arith, front, length-map (take most signs) element_of))) (omega (arith, few, c.min-most.ensures)) e n reads
    (λ k below.
    next k below
    ∙ sym (get_or-take count given k Lost below ∙ ap (λ (l : List Element). get_or l k Lost) (sym (take-map element_of most signs))
    ∙ get_or-take most (map element_of signs) k Lost (omega arith)))

pub returns-clause-quiet : goal.returns-clause-quiet
returns-clause-quiet c = λ e n reads.
    let signs = c.args.signs.now in
    let most = c.min-most.result in
    let front : c.push_front-count.result ≤ length (take most signs) = c.push_front-count.ensures.front in
    quiet_block c.args.self.now c.push_front-count.result (omega (arith, front, length-take most signs, c.min-most.ensures)) e n reads
