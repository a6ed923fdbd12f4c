use Rattle.std.proofs.Common.{◌≡◌, ℕ, false, sym, ◌∙◌, ap, arith}
use Rattle.std.proofs.lemmas.Bool.Decides.{nat_tests}
use Rattle.phasing.specs.Origin.{dx_right, is_enough, is_phased}
use Rattle.phasing.proofs.one_lead.is_phased.Goals as goal

no_rx : (dx : ℕ) → is_enough dx 0 ≡ false
no_rx dx = grind (arith, nat_tests)

pub returns-then-rx-eq0 : goal.returns-then-rx-eq0
unfolding is_phased
returns-then-rx-eq0 c =
    let dx = dx_right c.args.e.now c.args.lead in
    sym (ap (is_enough dx) (sym c.rx_right-rx.ensures ∙ c.if-rx-eq0.true) ∙ no_rx dx)

pub returns : goal.returns
unfolding is_phased
returns c =
    c.is_enough.ensures ∙ ap (λ (dx : ℕ). is_enough dx c.rx_right-rx.result) c.dx_right.ensures ∙ ap (is_enough (dx_right c.args.e.now c.args.lead)) c.rx_right-rx.ensures
