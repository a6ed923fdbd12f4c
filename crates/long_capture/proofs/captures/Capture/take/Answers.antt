use Rattle.std.proofs.Common.{◌≡◌, ℕ, ◌+◌, ◌-◌, List, [], ◌∷◌, ◌++◌, length, append_assoc, length-append, arith, sym, subst}
use Rattle.ten_unit.specs.declared.character.Element.{Element}
use Rattle.long_capture.specs.Told.{Tells}
use Rattle.long_capture.specs.inside.Reads.{Reads}
use Rattle.long_capture.proofs.Steps.{at_end}
use Rattle.long_capture.proofs.captures.Capture.take.Goals as goal

pub returns-clause-stands : goal.returns-clause-stands
returns-clause-stands c = λ e stands.
    let x = c.args.x in
    let new = c.step.new.self in
    let one : length (e ++ x ∷ []) ≡ length e + 1 = length-append e (x ∷ []) in
    let seen = c.step.ensures.seen in
    record {
      going = stands.going;
      count = omega (arith, one, seen, stands.count, stands.going);
      far = omega (arith, one, seen, stands.count, stands.going);
      reads =
          λ more.
          subst (λ (n : ℕ). Reads new ((e ++ x ∷ []) ++ more) n) (sym one)
          (subst (λ (l : List Element). Reads new l (length e + 1)) (sym (append_assoc e (x ∷ []) more))
          (c.step.ensures.reads (e ++ x ∷ more) (length e) (stands.reads (x ∷ more)) (at_end e x more)));
    }

pub returns-clause-tells : goal.returns-clause-tells
returns-clause-tells c = λ e more stands.
    let x = c.args.x in
    let low : length e - 1449 ≡ c.args.self.now.scan.seen - 1449 = omega (arith, stands.count, stands.going) in
    let high : length e + 1 - 1449 ≡ c.step.new.self.seen - 1449 = omega (arith, stands.count, stands.going, c.step.ensures.seen) in
    subst (λ (n : ℕ). Tells (e ++ x ∷ more) n (c.step.new.self.seen - 1449) c.step.result) low
    (subst (λ (n : ℕ). Tells (e ++ x ∷ more) (length e - 1449) n c.step.result) high
    (c.step.ensures.tells (e ++ x ∷ more) (length e) (stands.reads (x ∷ more)) (at_end e x more)))
