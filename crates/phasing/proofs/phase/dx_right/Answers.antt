use Rattle.std.proofs.Common.{◌+◌, arith}
use Rattle.dsc_symbols.specs.declared.phasing.TheConstants.{DX}
use Rattle.phasing.specs.Origin as sequence
use Rattle.phasing.proofs.Counts.{same_count}
use Rattle.phasing.proofs.Words.{first_slot, later_slot}
use Rattle.phasing.proofs.phase.dx_right.Goals as goal

pub returns : goal.returns
returns c = λ base e first second third.
    let s0 = first_slot c.args.first.now.dx base DX e first.dx in
    let s2 = later_slot _ _ c.shifted.result base base (base + 64) 20 2 DX e c.shifted.ensures (omega arith) (omega arith) first.dx second.dx in
    let s4 = later_slot _ _ c.shifted-2.result base base (base + 64) 40 4 DX e c.shifted-2.ensures (omega arith) (omega arith) first.dx second.dx in
    let s6 = later_slot _ _ c.shifted-3.result base base (base + 64) 60 6 DX e c.shifted-3.ensures (omega arith) (omega arith) first.dx second.dx in
    let s8 = later_slot _ _ c.shifted-4.result base (base + 64) (base + 128) 16 8 DX e c.shifted-4.ensures (omega arith) (omega arith) second.dx third.dx in
    let s10 = later_slot _ _ c.shifted-5.result base (base + 64) (base + 128) 36 10 DX e c.shifted-5.ensures (omega arith) (omega arith) second.dx third.dx in
    let n0 = c.add.ensures base _ _ (c.none.ensures base) s0 in
    let n2 = c.add-2.ensures base _ _ n0 s2 in
    let n4 = c.add-3.ensures base _ _ n2 s4 in
    let n6 = c.add-4.ensures base _ _ n4 s6 in
    let n8 = c.add-5.ensures base _ _ n6 s8 in
    let n10 = c.add-6.ensures base _ _ n8 s10 in
    same_count c.add-6.result base _ (sequence.dx_right e) (λ lead. omega arith) n10
