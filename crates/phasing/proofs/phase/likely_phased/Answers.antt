use Rattle.std.proofs.Common.{◌+◌, nat_le, lit<, arith}
use Rattle.dsc_symbols.specs.declared.phasing.TheConstants.{DX, RX_0, RX_1, RX_2, RX_3, RX_4, RX_5, RX_6, RX_7}
use Rattle.phasing.specs.Origin.{is_phased}
use Rattle.phasing.specs.inside.Likely.{filled}
use Rattle.phasing.specs.inside.Places.{element_at}
use Rattle.phasing.proofs.BitTests.{or_marks}
use Rattle.phasing.proofs.Groups.{groups, two_groups, has_all}
use Rattle.phasing.proofs.Words.{first_word, later_word}
use Rattle.phasing.proofs.phase.likely_phased.Goals as goal

pub returns : goal.returns
returns c = λ base e first second third fourth.
    let f = filled (element_at e) in
    let s0 = first_word c.args.first.now.dx base DX f first.dx in
    let s2 = later_word _ _ c.shifted.result base base (base + 64) 20 2 DX f c.shifted.ensures (omega arith) (omega arith) first.dx second.dx in
    let s4 = later_word _ _ c.shifted-2.result base base (base + 64) 40 4 DX f c.shifted-2.ensures (omega arith) (omega arith) first.dx second.dx in
    let s6 = later_word _ _ c.shifted-3.result base base (base + 64) 60 6 DX f c.shifted-3.ensures (omega arith) (omega arith) first.dx second.dx in
    let s8 = later_word _ _ c.shifted-4.result base (base + 64) (base + 128) 16 8 DX f c.shifted-4.ensures (omega arith) (omega arith) second.dx third.dx in
    let s10 = later_word _ _ c.shifted-5.result base (base + 64) (base + 128) 36 10 DX f c.shifted-5.ensures (omega arith) (omega arith) second.dx third.dx in
    let s1 = later_word _ _ c.shifted-6.result base base (base + 64) 10 1 RX_7 f c.shifted-6.ensures (omega arith) (omega arith) (first.rx 0 (lit< tt)) (second.rx 0 (lit< tt)) in
    let s3 = later_word _ _ c.shifted-7.result base base (base + 64) 30 3 RX_6 f c.shifted-7.ensures (omega arith) (omega arith) (first.rx 1 (lit< tt)) (second.rx 1 (lit< tt)) in
    let s5 = later_word _ _ c.shifted-8.result base base (base + 64) 50 5 RX_5 f c.shifted-8.ensures (omega arith) (omega arith) (first.rx 2 (lit< tt)) (second.rx 2 (lit< tt)) in
    let s7 = later_word _ _ c.shifted-9.result base (base + 64) (base + 128) 6 7 RX_4 f c.shifted-9.ensures (omega arith) (omega arith) (second.rx 3 (lit< tt)) (third.rx 3 (lit< tt)) in
    let s9 = later_word _ _ c.shifted-10.result base (base + 64) (base + 128) 26 9 RX_3 f c.shifted-10.ensures (omega arith) (omega arith) (second.rx 4 (lit< tt)) (third.rx 4 (lit< tt)) in
    let s11 = later_word _ _ c.shifted-11.result base (base + 64) (base + 128) 46 11 RX_2 f c.shifted-11.ensures (omega arith) (omega arith) (second.rx 5 (lit< tt)) (third.rx 5 (lit< tt)) in
    let s13 = later_word _ _ c.shifted-12.result base (base + 128) (base + 192) 2 13 RX_1 f c.shifted-12.ensures (omega arith) (omega arith) (third.rx 6 (lit< tt)) (fourth.rx 6 (lit< tt)) in
    let s15 = later_word _ _ c.shifted-13.result base (base + 128) (base + 192) 22 15 RX_0 f c.shifted-13.ensures (omega arith) (omega arith) (third.rx 7 (lit< tt)) (fourth.rx 7 (lit< tt)) in
    let dx = or_marks _ _ base _ _ (or_marks _ _ base _ _ (or_marks _ _ base _ _ (or_marks _ _ base _ _ (or_marks _ _ base _ _ s0 s2) s4) s6) s8) s10 in
    let n1 = c.add.ensures base _ _ (c.none.ensures base) dx in
    let n2 = c.add-2.ensures base _ _ n1 (or_marks _ _ base _ _ s1 s3) in
    let n3 = c.add-3.ensures base _ _ n2 (or_marks _ _ base _ _ s5 s7) in
    let n4 = c.add-4.ensures base _ _ n3 (or_marks _ _ base _ _ s9 s11) in
    let n5 = c.add-5.ensures base _ _ n4 (or_marks _ _ base _ _ s13 s15) in
    has_all c.add-5.result.two base (is_phased e) (λ p. nat_le 2 (groups f p)) n5.two (two_groups e)
