use Rattle.std.proofs.Common.{ℕ, ◌+◌, take}
use Rattle.ten_unit.specs.declared.character.Element.{Element}
use Rattle.ten_unit.specs.inside.Marks.{IsMarks, IsPlanes}
use Rattle.phasing.specs.inside.Places.{is_at}
use Rattle.phasing.proofs.marking.run_marked.Given as goal

abbrev pub invariant-loop-number : goal.invariant-loop-number
invariant-loop-number l =
    (base : ℕ) (e : ℕ → Element) → IsPlanes l.here.y l.here.b base e → IsPlanes l.next.y l.next.b (base + 64) e → IsMarks l.all base (λ p. is_at e (take l.number l.elements) (p + l.behind))
