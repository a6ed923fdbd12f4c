use Rattle.std.proofs.Common.{ℕ, List, length, arith, subst, sym}
use Rattle.slot_evidence.specs.declared.places.Seen.{Seen}
use Rattle.slot_evidence.specs.Facts.{no_facts, facts_of_all}
use Rattle.slot_evidence.specs.Sheet.{IsEnds}
use Rattle.receiver_pool.specs.inside.Turns.{is_turn, part}
use Rattle.receiver_pool.proofs.Parts.{all_joined, all_by_one}
use Rattle.receiver_pool.proofs.Posted.{all_may}
use Rattle.receiver_pool.proofs.pools.pool.Goals as goal

pub returns-then-workers-eq1 : goal.returns-then-workers-eq1
returns-then-workers-eq1 g c =
    let P : ℕ → ℕ → Type 0 = λ low high. IsEnds (part (is_turn 1 low high) c.args.list.now (length c.args.list.now)) c.heard_by.result in
    all_by_one 1 c.args.list.now c.heard_by.result (omega arith)
    (subst (λ (h : ℕ). P 0 h) c.enter-entered.ensures.1 (subst (λ (l : ℕ). P l c.enter-entered.result.high) c.enter-entered.ensures.0 c.heard_by.ensures))

pub returns : goal.returns
returns g c =
    subst (λ (s : List Seen). IsEnds (facts_of_all c.args.list.now) s) (sym c.close.ensures.sheet)
    (all_joined c.args.list.now _ (c.post_all-seat.ensures.ends no_facts c.in_ok-board.ensures.empty))

pub post_all-seat-requires-clause-may : goal.post_all-seat-requires-clause-may
post_all-seat-requires-clause-may g c lives last = all_may c.args.list.now
