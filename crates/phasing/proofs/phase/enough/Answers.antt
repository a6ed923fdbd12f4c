use Rattle.std.proofs.Common.{ℕ, nat_le, ◌&&◌, ◌||◌}
use Rattle.phasing.specs.Origin as sequence
use Rattle.phasing.specs.Origin.{is_phased}
use Rattle.phasing.proofs.BitTests.{and_marks, or_marks}
use Rattle.phasing.proofs.phase.enough.Goals as goal

pub returns : goal.returns
unfolding is_phased
returns c = λ base e dx rx.
    let two_dx = λ (p : ℕ). nat_le 2 (sequence.dx_right e p) && nat_le 1 (sequence.rx_right e p) in
    let two_rx = λ (p : ℕ). nat_le 2 (sequence.rx_right e p) && nat_le 1 (sequence.dx_right e p) in
    let with_two_dx = and_marks _ _ base _ _ dx.two rx.one in
    let with_two_rx = and_marks _ _ base _ _ rx.two dx.one in
    let with_two = or_marks _ _ base two_dx two_rx with_two_dx with_two_rx in
    or_marks _ _ base (λ p. two_dx p || two_rx p) _ with_two rx.three
