use Rattle.std.proofs.Common.{ℕ, length, subst}
use Rattle.slot_evidence.specs.Facts.{union}
use Rattle.slot_evidence.specs.Sheet.{IsEnds}
use Rattle.evidence_board.specs.Views.{given_sheet}
use Rattle.receiver_pool.specs.inside.Turns.{is_turn, part}
use Rattle.receiver_pool.proofs.Posted.{part_among, sheet_among}
use Rattle.receiver_pool.proofs.pools.work.Goals as goal

pub post_sheet-requires-clause-allowed : goal.post_sheet-requires-clause-allowed
post_sheet-requires-clause-allowed g c lives last =
    let turn = is_turn c.args.workers c.enter-entered.result.low c.enter-entered.result.high in
    sheet_among g.A.Allowed.facts (part turn c.args.list.now (length c.args.list.now)) c.heard_by-sheet.result c.heard_by-sheet.ensures
    (λ p v is. c.requires.may p v (part_among turn c.args.list.now p v is))

pub returns-clause-ends : goal.returns-clause-ends
returns-clause-ends g c =
    λ F f.
    let P : ℕ → ℕ → Type 0 = λ low high. IsEnds (union F (part (is_turn c.args.workers low high) c.args.list.now (length c.args.list.now))) (given_sheet c.post_sheet.new.seat.view) in
    subst (λ (h : ℕ). P c.args.low h) c.enter-entered.ensures.1
    (subst (λ (l : ℕ). P l c.enter-entered.result.high) c.enter-entered.ensures.0
    (c.post_sheet.ensures.ends F _ f c.heard_by-sheet.ensures))
