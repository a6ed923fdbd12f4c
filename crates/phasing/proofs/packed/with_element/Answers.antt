use Rattle.std.proofs.Common.{◌∙◌}
use Rattle.phasing.proofs.Pushes.{with_y, with_b, with_lost}
use Rattle.phasing.proofs.packed.with_element.Goals as goal

pub returns-in-Y : goal.returns-in-Y
returns-in-Y c = λ base e f is lost here others. with_y c.args.here c.args.at base e f c.requires is (record { lost = lost; here = here ∙ c.in-Y.is; others = others })

pub returns-in-B : goal.returns-in-B
returns-in-B c = λ base e f is lost here others. with_b c.args.here c.args.at base e f c.requires is (record { lost = lost; here = here ∙ c.in-B.is; others = others })

pub returns-in-Lost : goal.returns-in-Lost
returns-in-Lost c = λ base e f is lost here others. with_lost c.args.here c.args.at base e f is (record { lost = lost; here = here ∙ c.in-Lost.is; others = others })
