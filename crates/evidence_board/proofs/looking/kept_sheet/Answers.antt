use Rattle.std.proofs.Common.{arith, inl, inr, ◌∙◌, sym}
use Rattle.std.specs.Mem.Slots.{slots_items}
use Rattle.evidence_board.proofs.Loads.{word_small, words_are, words_in_order}
use Rattle.evidence_board.proofs.looking.kept_sheet.Goals as goal

pub overflow_cast-leasts : goal.overflow_cast-leasts
overflow_cast-leasts c =
    let k = c.loop-p.p in
    let small = word_small (slots_items c.args.closed.now.words) k c.word.result (c.requires.rest k (omega arith)) (inl c.word.ensures) in
    record { fits = omega arith }

pub overflow_cast-pasts : goal.overflow_cast-pasts
overflow_cast-pasts c =
    let k = c.loop-p.p in
    let small = word_small (slots_items c.args.closed.now.words) k c.word-in-loop-p.result (c.requires.rest k (omega arith)) (inr c.word-in-loop-p.ensures) in
    record { fits = omega arith }

pub between-requires : goal.between-requires
between-requires c =
    λ p below.
    words_in_order (slots_items c.args.closed.now.words) p _ _ (c.loop-p.invariant.least p (omega arith)) (c.loop-p.invariant.past p (omega arith)) (c.requires.rest p below)

pub returns-clause-each : goal.returns-clause-each
returns-clause-each c =
    λ p below.
    c.between.ensures.each p below
    ∙ sym (words_are (slots_items c.args.closed.now.words) p _ _ (c.loop-p.invariant.least p (omega arith)) (c.loop-p.invariant.past p (omega arith)))
