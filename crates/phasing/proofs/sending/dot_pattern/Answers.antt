use Rattle.std.proofs.Common.{◌≡◌, length, ap, ◌∙◌, lit<, arith}
use Rattle.phasing.proofs.Dots.{dots-none, length-dots, dots-more}
use Rattle.phasing.proofs.sending.dot_pattern.Goals as goal

pub loop-number-init : goal.loop-number-init
loop-number-init c = c.new-elements.ensures ∙ dots-none

pub push-requires : goal.push-requires
push-requires c =
    let long : length c.loop-number.elements.items ≡ c.loop-number.number =
    ap length c.loop-number.invariant ∙ length-dots c.loop-number.number
    in
    (lit< tt, omega arith)

pub loop-number-preserved : goal.loop-number-preserved
loop-number-preserved c =
    let more = dots-more c.loop-number.number in
    cc

pub returns-clause-length : goal.returns-clause-length
returns-clause-length c = omega (arith, ap length c.loop-number.invariant, length-dots c.loop-number.number)
