use Rattle.std.proofs.Common.{◌≡◌, ℕ, List, get_or, ap, sym, ◌∙◌}
use Rattle.std.proofs.Math.ListN.{get_or-map}
use Rattle.ten_unit.specs.Signs.{element_of}
use Rattle.phasing.proofs.Padding.{padded_at}
use Rattle.phasing.proofs.window.last_planes.Goals as goal

-- past the last sign the element is lost, whatever byte is taken there
no_sign : (signs : List ℕ) (i : ℕ) → element_of (get_or signs i 0) ≡ element_of (get_or signs i 45)
no_sign signs i = sym (get_or-map element_of signs i 0) ∙ get_or-map element_of signs i 45

pub returns : goal.returns
returns c = λ base e is.
    let rest = c.args.rest.now in
    let padded = c.padded_signs.result in
    c.sign_planes.ensures base e
    (λ i below.
    is i below ∙ get_or-map element_of rest i 0 ∙ no_sign rest i
    ∙ ap element_of (sym (ap (λ (l : List ℕ). get_or l i 45) c.padded_signs.ensures ∙ padded_at rest 45 i below))
    ∙ sym (no_sign padded i))
