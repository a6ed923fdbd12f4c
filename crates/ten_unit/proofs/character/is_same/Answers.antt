use Rattle.std.proofs.Common.{◌≡◌, Bool, ◌&&◌, List, [], ◌∷◌, refl, ap, ◌∙◌}
use lib.Pointwise.{pointwise}
use Rattle.ten_unit.specs.contracts.character.ElementPartialEq.TheImpl as derived
use Rattle.ten_unit.specs.declared.character.Element.{Element}
use Rattle.ten_unit.specs.declared.character.Element.TheVariants.{Y, B, Lost}
use Rattle.ten_unit.specs.Word.{elements_eq, element_eq}
use Rattle.ten_unit.proofs.character.is_same.Goals as goal

-- the derived comparison is that of the definition
same_element : (a b : Element) → derived.eq-value.it a b ≡ element_eq a b
same_element Y Y = refl
same_element Y B = refl
same_element Y Lost = refl
same_element B Y = refl
same_element B B = refl
same_element B Lost = refl
same_element Lost Y = refl
same_element Lost B = refl
same_element Lost Lost = refl

same_elements : (xs ys : List Element) → pointwise derived.eq-value.it xs ys ≡ elements_eq xs ys
same_elements [] [] = refl
same_elements [] (y ∷ ys) = refl
same_elements (x ∷ xs) [] = refl
same_elements (x ∷ xs) (y ∷ ys) =
    ap (λ (b : Bool). b && pointwise derived.eq-value.it xs ys) (same_element x y) ∙ ap (λ (b : Bool). element_eq x y && b) (same_elements xs ys)

pub returns : goal.returns
returns c = c.eq.ensures ∙ same_elements c.args.w.now c.as_slice.result.now ∙ ap (elements_eq c.args.w.now) c.as_slice.ensures
