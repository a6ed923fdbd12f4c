use Rattle.std.proofs.Common.{◌≡◌, ℕ, List, [], ◌∷◌, map, take, ap, refl, arith, sym, subst, ◌∙◌}
use Rattle.std.proofs.lemmas.List.{length-map, take-map}
use Rattle.ten_unit.specs.declared.character.Element.{Element}
use Rattle.ten_unit.specs.Signs.{element_of}
use Rattle.long_capture.proofs.Blocks.{IsSkip, IsStepOf, skip_stands, skip_tells, step_stands, step_tells, first_one}
use Rattle.long_capture.proofs.captures.Capture.take_signs.Goals as goal

pub returns-then-count-gt0-clause-stands : goal.returns-then-count-gt0-clause-stands
returns-then-count-gt0-clause-stands c =
    let took = c.skip-count.ensures in
    let xs = map element_of c.args.signs.now in
    let skip : IsSkip c.args.self.now.scan c.skip-count.new.self xs c.skip-count.result =
    record { front = omega (arith, took.front, length-map c.args.signs.now element_of); seen = took.seen; reads = took.reads; quiet = took.quiet } in
    skip_stands c.args.self.now _ xs c.skip-count.result refl skip

pub returns-then-count-gt0-clause-tells : goal.returns-then-count-gt0-clause-tells
returns-then-count-gt0-clause-tells c =
    let took = c.skip-count.ensures in
    let xs = map element_of c.args.signs.now in
    let skip : IsSkip c.args.self.now.scan c.skip-count.new.self xs c.skip-count.result =
    record { front = omega (arith, took.front, length-map c.args.signs.now element_of); seen = took.seen; reads = took.reads; quiet = took.quiet } in
    skip_tells c.args.self.now c.skip-count.new.self xs c.skip-count.result skip

pub returns-in-None-clause-stands : goal.returns-in-None-clause-stands
returns-in-None-clause-stands c =
    let took = c.skip-count.ensures in
    let xs = map element_of c.args.signs.now in
    let skip : IsSkip c.args.self.now.scan c.skip-count.new.self xs c.skip-count.result =
    record { front = omega (arith, took.front, length-map c.args.signs.now element_of); seen = took.seen; reads = took.reads; quiet = took.quiet } in
    skip_stands c.args.self.now _ xs c.skip-count.result refl skip

-- the first sign's element alone
first_element : (signs : List ℕ) (sign : ℕ) (x : Element) → take 1 signs ≡ sign ∷ [] → x ≡ element_of sign → take 1 (map element_of signs) ≡ x ∷ []
first_element signs sign x first is = take-map element_of 1 signs ∙ ap (map element_of) first ∙ ap (λ (y : Element). y ∷ []) (sym is)

pub returns-in-Some-clause-stands : goal.returns-in-Some-clause-stands
returns-in-Some-clause-stands c =
    let took = c.skip-count.ensures in
    let signs = c.args.signs.now in
    let xs = map element_of signs in
    let x = c.element_of.result in
    let none : 0 ≡ c.skip-count.result = omega (arith, c.if-count-gt0.false) in
    let skipped : IsSkip c.args.self.now.scan c.skip-count.new.self xs c.skip-count.result =
    record { front = omega (arith, took.front, length-map signs element_of); seen = took.seen; reads = took.reads; quiet = took.quiet } in
    let skip = subst (λ (n : ℕ). IsSkip c.args.self.now.scan c.skip-count.new.self xs n) (sym none) skipped in
    let step : IsStepOf x c.skip-count.new.self c.step.new.self c.step.result = record { seen = c.step.ensures.seen; reads = c.step.ensures.reads; tells = c.step.ensures.tells } in
    step_stands c.args.self.now _ c.skip-count.new.self xs x c.step.result refl skip step
    (first_element signs c.in-Some.sign.now x (first_one signs c.in-Some.sign.now c.in-Some.ensures.value) c.element_of.ensures)

pub returns-in-Some-clause-tells : goal.returns-in-Some-clause-tells
returns-in-Some-clause-tells c =
    let took = c.skip-count.ensures in
    let signs = c.args.signs.now in
    let xs = map element_of signs in
    let x = c.element_of.result in
    let none : 0 ≡ c.skip-count.result = omega (arith, c.if-count-gt0.false) in
    let skipped : IsSkip c.args.self.now.scan c.skip-count.new.self xs c.skip-count.result =
    record { front = omega (arith, took.front, length-map signs element_of); seen = took.seen; reads = took.reads; quiet = took.quiet } in
    let skip = subst (λ (n : ℕ). IsSkip c.args.self.now.scan c.skip-count.new.self xs n) (sym none) skipped in
    let step : IsStepOf x c.skip-count.new.self c.step.new.self c.step.result = record { seen = c.step.ensures.seen; reads = c.step.ensures.reads; tells = c.step.ensures.tells } in
    step_tells c.args.self.now c.skip-count.new.self c.step.new.self xs x c.step.result skip step
    (first_element signs c.in-Some.sign.now x (first_one signs c.in-Some.sign.now c.in-Some.ensures.value) c.element_of.ensures)
