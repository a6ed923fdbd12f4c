use Rattle.std.proofs.Common.{◌+◌, ◌*◌, arith}
use Rattle.phasing.specs.Origin.{is_phased}
use Rattle.phasing.specs.inside.Likely.{filled}
use Rattle.phasing.specs.inside.Places.{element_at}
use Rattle.phasing.proofs.Blocks.{none_in_block, first_in_block}
use Rattle.phasing.proofs.Counts.{phasing_at, planes_at, block_at}
use Rattle.phasing.proofs.phase.first_within.Goals as goal

pub returns-then-fourth-ne0-clause-first : goal.returns-then-fourth-ne0-clause-first
returns-then-fourth-ne0-clause-first g c =
    let base = 64 * (c.args.begin + 3 * c.loop-turn.turn) + 22 in
    first_in_block (g.E.Elements.list c.args.e) c.search_block-fourth.result.phased (64 * c.args.begin + 22) base
    c.search_block-fourth.ensures.phased (omega arith) (omega arith) (λ k low high. c.loop-turn.invariant.none k low (omega arith))

pub returns-then-fifth-ne0-clause-first : goal.returns-then-fifth-ne0-clause-first
returns-then-fifth-ne0-clause-first g c =
    let e = g.E.Elements.list c.args.e in
    let from = 64 * c.args.begin + 22 in
    let base = 64 * (c.args.begin + 3 * c.loop-turn.turn) + 22 in
    let none = none_in_block e c.search_block-fourth.result.phased from base c.search_block-fourth.ensures.phased (omega arith) (λ k low high. c.loop-turn.invariant.none k low (omega arith)) in
    first_in_block e c.search_block-fifth.result.phased from (base + 64) (block_at c.search_block-fifth.result.phased _ _ (is_phased e) (omega arith) c.search_block-fifth.ensures.phased)
    (omega arith) (omega arith) none

pub returns-then-sixth-ne0-clause-first : goal.returns-then-sixth-ne0-clause-first
returns-then-sixth-ne0-clause-first g c =
    let e = g.E.Elements.list c.args.e in
    let from = 64 * c.args.begin + 22 in
    let base = 64 * (c.args.begin + 3 * c.loop-turn.turn) + 22 in
    let none = none_in_block e c.search_block-fourth.result.phased from base c.search_block-fourth.ensures.phased (omega arith) (λ k low high. c.loop-turn.invariant.none k low (omega arith)) in
    let none = none_in_block e c.search_block-fifth.result.phased from (base + 64) (block_at c.search_block-fifth.result.phased _ _ (is_phased e) (omega arith) c.search_block-fifth.ensures.phased)
    (omega arith) none in
    first_in_block e c.search_block-sixth.result.phased from (base + 128) (block_at c.search_block-sixth.result.phased _ _ (is_phased e) (omega arith) c.search_block-sixth.ensures.phased)
    (omega arith) (omega arith) (λ k low high. none k low (omega arith))

pub loop-turn-preserved : goal.loop-turn-preserved
loop-turn-preserved g c =
    let e = g.E.Elements.list c.args.e in
    let from = 64 * c.args.begin + 22 in
    let base = 64 * (c.args.begin + 3 * c.loop-turn.turn) + 22 in
    let none = none_in_block e c.search_block-fourth.result.phased from base c.search_block-fourth.ensures.phased (omega arith) (λ k low high. c.loop-turn.invariant.none k low (omega arith)) in
    let none = none_in_block e c.search_block-fifth.result.phased from (base + 64) (block_at c.search_block-fifth.result.phased _ _ (is_phased e) (omega arith) c.search_block-fifth.ensures.phased)
    (omega arith) none in
    let none = none_in_block e c.search_block-sixth.result.phased from (base + 128) (block_at c.search_block-sixth.result.phased _ _ (is_phased e) (omega arith) c.search_block-sixth.ensures.phased)
    (omega arith) (λ k low high. none k low (omega arith)) in
    record {
      first = phasing_at c.search_block-fourth.result.marks _ _ (filled (element_at e)) (omega arith) c.search_block-fourth.ensures.marks;
      second = phasing_at c.search_block-fifth.result.marks _ _ (filled (element_at e)) (omega arith) c.search_block-fifth.ensures.marks;
      third = phasing_at c.search_block-sixth.result.marks _ _ (filled (element_at e)) (omega arith) c.search_block-sixth.ensures.marks;
      next = planes_at _ _ _ _ (element_at e) (omega arith) c.search_block-sixth.ensures.behind;
      none = λ k low high. none k low (omega arith);
    }
