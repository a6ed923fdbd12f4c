use Rattle.std.proofs.Common.{◌≡◌, ℕ, ◌+◌, [], List, length, arith, subst}
use Rattle.std.proofs.lemmas.List.{append-nil}
use Rattle.ten_unit.specs.declared.character.Element.{Element}
use Rattle.long_capture.specs.inside.Reads.{Reads}
use Rattle.long_capture.proofs.laws.taking_ends.Goals as goal

pub returns : goal.returns
returns c = λ capture e stands.
    let all : length e ≡ length e + capture.lost = omega (arith, stands.going) in
    record {
      some = omega (arith, stands.going);
      far = omega (arith, stands.far);
      reads =
          subst (λ (n : ℕ). Reads capture.scan e n) all
          (subst (λ (l : List Element). Reads capture.scan l (length e)) (append-nil e) (stands.reads []));
    }
