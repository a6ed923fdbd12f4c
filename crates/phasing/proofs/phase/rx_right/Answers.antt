use Rattle.std.proofs.Common.{◌+◌, lit<, arith}
use Rattle.dsc_symbols.specs.declared.phasing.TheConstants.{RX_0, RX_1, RX_2, RX_3, RX_4, RX_5, RX_6, RX_7}
use Rattle.phasing.specs.Origin as sequence
use Rattle.phasing.proofs.Counts.{same_count}
use Rattle.phasing.proofs.Words.{later_slot}
use Rattle.phasing.proofs.phase.rx_right.Goals as goal

pub returns : goal.returns
returns c = λ base e first second third fourth.
    let s1 = later_slot _ _ c.shifted.result base base (base + 64) 10 1 RX_7 e c.shifted.ensures (omega arith) (omega arith) (first.rx 0 (lit< tt)) (second.rx 0 (lit< tt)) in
    let s3 = later_slot _ _ c.shifted-2.result base base (base + 64) 30 3 RX_6 e c.shifted-2.ensures (omega arith) (omega arith) (first.rx 1 (lit< tt)) (second.rx 1 (lit< tt)) in
    let s5 = later_slot _ _ c.shifted-3.result base base (base + 64) 50 5 RX_5 e c.shifted-3.ensures (omega arith) (omega arith) (first.rx 2 (lit< tt)) (second.rx 2 (lit< tt)) in
    let s7 = later_slot _ _ c.shifted-4.result base (base + 64) (base + 128) 6 7 RX_4 e c.shifted-4.ensures (omega arith) (omega arith) (second.rx 3 (lit< tt)) (third.rx 3 (lit< tt)) in
    let s9 = later_slot _ _ c.shifted-5.result base (base + 64) (base + 128) 26 9 RX_3 e c.shifted-5.ensures (omega arith) (omega arith) (second.rx 4 (lit< tt)) (third.rx 4 (lit< tt)) in
    let s11 = later_slot _ _ c.shifted-6.result base (base + 64) (base + 128) 46 11 RX_2 e c.shifted-6.ensures (omega arith) (omega arith) (second.rx 5 (lit< tt)) (third.rx 5 (lit< tt)) in
    let s13 = later_slot _ _ c.shifted-7.result base (base + 128) (base + 192) 2 13 RX_1 e c.shifted-7.ensures (omega arith) (omega arith) (third.rx 6 (lit< tt)) (fourth.rx 6 (lit< tt)) in
    let s15 = later_slot _ _ c.shifted-8.result base (base + 128) (base + 192) 22 15 RX_0 e c.shifted-8.ensures (omega arith) (omega arith) (third.rx 7 (lit< tt)) (fourth.rx 7 (lit< tt)) in
    let n1 = c.add.ensures base _ _ (c.none.ensures base) s1 in
    let n3 = c.add-2.ensures base _ _ n1 s3 in
    let n5 = c.add-3.ensures base _ _ n3 s5 in
    let n7 = c.add-4.ensures base _ _ n5 s7 in
    let n9 = c.add-5.ensures base _ _ n7 s9 in
    let n11 = c.add-6.ensures base _ _ n9 s11 in
    let n13 = c.add-7.ensures base _ _ n11 s13 in
    let n15 = c.add-8.ensures base _ _ n13 s15 in
    same_count c.add-8.result base _ (sequence.rx_right e) (λ lead. omega arith) n15
