use Rattle.std.proofs.Common.{◌≡◌, ◌++◌, length, take, flat_map, ap, ◌∙◌, arith}
use Rattle.std.proofs.Math.Seq.{take-length}
use Rattle.ten_unit.specs.Word.{word_of}
use Rattle.phasing.specs.Sent.{dots, dot_count, sent}
use Rattle.phasing.proofs.sending.transmission.Goals as goal

pub returns-clause-sent : goal.returns-clause-sent
unfolding sent
returns-clause-sent c =
    let all : c.loop-symbol.symbol-index ≡ length c.args.slots.now = omega arith in
    let slots = ap (λ n. take n c.args.slots.now) all ∙ take-length c.args.slots.now in
    c.loop-symbol.invariant.sent ∙ ap (λ l. dots (dot_count c.args.long) ++ flat_map word_of l) slots
