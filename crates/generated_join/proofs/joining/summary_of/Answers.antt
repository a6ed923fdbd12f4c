use Rattle.std.proofs.Common.{◌≡◌, ℕ, subst, arith}
use Rattle.generated_join.specs.inside.Counted.{HasCounted}
use Rattle.generated_join.proofs.Counting.{counted_more, counted_few, summarised}
use Rattle.generated_join.proofs.joining.summary_of.Goals as goal

pub with-summary-requires : goal.with-summary-requires
with-summary-requires g c =
    let h = c.loop-group.invariant in
    let few = counted_few c.loop-group.group c.loop-group.summary h in
    (omega (arith, h.groups), omega (arith, h.receptions), omega (arith, few.0), omega (arith, few.1))

pub loop-group-preserved : goal.loop-group-preserved
loop-group-preserved g c =
    let with = c.with-summary.ensures in
    counted_more c.loop-group.group c.loop-group.summary c.with-summary.result c.in_ok-answer.answer c.loop-group.invariant c.in_ok-answer.ensures
    with.groups with.receptions with.reported with.missing

pub returns : goal.returns
returns g c =
    let all : c.loop-group.group ≡ c.args.groups = omega arith in
    summarised c.args.groups c.loop-group.summary (subst (λ (n : ℕ). HasCounted n c.loop-group.summary) all c.loop-group.invariant)
