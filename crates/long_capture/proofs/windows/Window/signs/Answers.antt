use Rattle.std.proofs.Common.{◌≡◌, ℕ, ◌-◌, map, take, drop, ◌∙◌, ap, arith}
use Rattle.ten_unit.specs.Signs.{element_of}
use Rattle.long_capture.proofs.windows.Window.signs.Goals as goal

pub returns-clause-elements : goal.returns-clause-elements
returns-clause-elements c =
    let few : c.self.inside.end - (c.self.inside.end - 1600) ≡ 1600 = omega (arith, c.self.invariant) in
    ap (λ (n : ℕ). map element_of (take n (drop (c.self.inside.end - 1600) c.self.inside.buffer))) few ∙ c.self.view_is
