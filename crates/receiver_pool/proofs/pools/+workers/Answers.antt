use Rattle.std.proofs.Common.{arith, subst, sym, List}
use Rattle.slot_evidence.specs.declared.places.Seen.{Seen}
use Rattle.slot_evidence.specs.Sheet.{IsEnds}
use Rattle.receiver_pool.proofs.Parts.{halves_joined}
use Rattle.receiver_pool.proofs.pools.+workers.Goals as goal

pub returns-clause-ends : goal.returns-clause-ends
returns-clause-ends g t c =
    λ F f.
    let middle = c.parted-middle.result in
    let split = c.split-first.ensures.given in
    let first = c.join-first.ensures.first.2 F (subst (λ (s : List Seen). IsEnds F s) (sym split.0) f) in
    let second = c.join-first.ensures.second.2 F (subst (λ (s : List Seen). IsEnds F s) (sym split.1) f) in
    halves_joined c.args.workers c.args.low middle c.args.high c.args.list.now F _ (omega arith) (omega arith) (c.join.ensures.union _ _ first second)
