use Rattle.std.proofs.Common.{◌≡◌, ℕ, ◌+◌, ◌-◌, min, List, length, take, drop, get_or, arith, ap, sym, ◌∙◌}
use Rattle.std.proofs.lemmas.List.{get_or-take}
use Rattle.ten_unit.specs.declared.character.Element.{Element}
use Rattle.ten_unit.specs.declared.character.Element.TheVariants.{Lost}
use Rattle.phasing.specs.inside.Places.{element_at}
use Rattle.phasing.proofs.Padding.{in_rest}
use Rattle.phasing.proofs.Words.{element_at-inside}
use Rattle.phasing.proofs.window.RefSliceElementElements.planes_from.Goals as goal

at_rest : (e : List Element) (begin from i : ℕ) → from ≡ min begin (length e) → element_at e (begin + 150 + i) ≡ get_or (take (length e - from) (drop from e)) i Lost
at_rest e begin from i is =
    let index : begin + 150 + i - 150 ≡ begin + i = omega arith in
    element_at-inside e (begin + 150 + i) (omega arith) ∙ ap (λ (n : ℕ). get_or e n Lost) index
    ∙ in_rest e Lost begin from i is

pub returns-in-Some : goal.returns-in-Some
returns-in-Some c =
    let e = c.args.self.now in
    c.pack_elements.ensures (c.args.begin + 150) (element_at e)
    (λ i below.
    at_rest e c.args.begin c.min.result i c.min.ensures
    ∙ sym (get_or-take 64 (take (length e - c.min.result) (drop c.min.result e)) i Lost below)
    ∙ ap (λ (l : List Element). get_or l i Lost) (sym c.in-Some.ensures.cases.same))

pub returns-in-None : goal.returns-in-None
returns-in-None c =
    let e = c.args.self.now in
    c.pack_elements-in-None.ensures (c.args.begin + 150) (element_at e)
    (λ i below. at_rest e c.args.begin c.min.result i c.min.ensures ∙ sym (c.padded.ensures i below))
