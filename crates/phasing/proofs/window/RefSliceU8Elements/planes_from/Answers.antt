use Rattle.std.proofs.Common.{◌≡◌, ℕ, ◌+◌, ◌-◌, min, List, length, map, take, drop, get_or, arith, ap, sym, ◌∙◌}
use Rattle.std.proofs.Math.ListN.{get_or-map}
use Rattle.std.proofs.lemmas.List.{get_or-take}
use Rattle.ten_unit.specs.declared.character.Element.TheVariants.{Lost}
use Rattle.ten_unit.specs.Signs.{element_of}
use Rattle.phasing.specs.inside.Places.{element_at}
use Rattle.phasing.proofs.Padding.{in_rest}
use Rattle.phasing.proofs.Words.{element_at-inside}
use Rattle.phasing.proofs.window.RefSliceU8Elements.planes_from.Goals as goal

-- the element of a sign of what follows
at_rest : (signs : List ℕ) (begin from i : ℕ) → from ≡ min begin (length signs) → element_at (map element_of signs) (begin + 150 + i) ≡ element_of (get_or (take (length signs - from) (drop from signs)) i 0)
at_rest signs begin from i is =
    let index : begin + 150 + i - 150 ≡ begin + i = omega arith in
    element_at-inside (map element_of signs) (begin + 150 + i) (omega arith) ∙ ap (λ (n : ℕ). get_or (map element_of signs) n Lost) index
    ∙ get_or-map element_of signs (begin + i) 0
    ∙ ap element_of (in_rest signs 0 begin from i is)

pub returns-in-Some : goal.returns-in-Some
returns-in-Some c =
    let signs = c.args.self.now in
    c.sign_planes.ensures (c.args.begin + 150) (element_at (map element_of signs))
    (λ i below.
    at_rest signs c.args.begin c.min.result i c.min.ensures
    ∙ ap element_of (sym (get_or-take 64 (take (length signs - c.min.result) (drop c.min.result signs)) i 0 below)
    ∙ ap (λ (l : List ℕ). get_or l i 0) (sym c.in-Some.ensures.cases.same)))

pub returns-in-None : goal.returns-in-None
returns-in-None c =
    let signs = c.args.self.now in
    let rest = take (length signs - c.min.result) (drop c.min.result signs) in
    c.last_planes.ensures (c.args.begin + 150) (element_at (map element_of signs))
    (λ i below. at_rest signs c.args.begin c.min.result i c.min.ensures ∙ sym (get_or-map element_of rest i 0))
