-- Elements are read back from their number, where none of them is lost.
use Rattle.std.proofs.Common.{◌≡◌, ℕ, zero, suc, ◌+◌, ◌*◌, ◌/◌, ◌%◌, ◌<◌, List, [], ◌∷◌, length, refl, ap, sym, ◌∙◌, arith}
use Rattle.ten_unit.specs.declared.character.Element.{Element}
use Rattle.ten_unit.specs.declared.character.Element.TheVariants.{Y, B, Lost}
use Rattle.ten_unit.specs.Word.{element}
use Rattle.ten_unit.specs.inside.Number.{number_of}

-- the last so many binary digits of a number, as elements
elements_of : ℕ → ℕ → List Element
elements_of zero n = []
elements_of (suc count) n = element (n % 2) ∷ elements_of count (n / 2)

one_more : (x : Element) (d h n m : ℕ) (rest : List Element) → n % 2 ≡ d → n / 2 ≡ h → element d ≡ x → elements_of m h ≡ rest → elements_of (suc m) n ≡ x ∷ rest
unfolding elements_of
one_more x d h n m rest digit half first others =
    ap (λ (k : ℕ). element k ∷ elements_of m (n / 2)) digit
    ∙ ap (λ (k : ℕ). element d ∷ elements_of m k) half
    ∙ ap (λ (y : Element). y ∷ elements_of m h) first
    ∙ ap (λ (l : List Element). x ∷ l) others

elements_back : (w : List Element) → number_of w < 1024 → elements_of (length w) (number_of w) ≡ w
unfolding elements_of
elements_back [] small = refl
elements_back (Y ∷ rest) small =
    one_more Y 1 (number_of rest) (1 + 2 * number_of rest) (length rest) rest (omega arith) (omega arith) refl (elements_back rest (omega arith))
elements_back (B ∷ rest) small =
    one_more B 0 (number_of rest) (0 + 2 * number_of rest) (length rest) rest (omega arith) (omega arith) refl (elements_back rest (omega arith))
elements_back (Lost ∷ rest) small = absurd (omega arith)

-- as many elements with the same number are the same
pub same_number : (v w : List Element) → length v ≡ length w → number_of v ≡ number_of w → number_of w < 1024 → v ≡ w
same_number v w long number small =
    sym (elements_back v (omega arith)) ∙ ap (λ (m : ℕ). elements_of m (number_of v)) long ∙ ap (elements_of (length w)) number ∙ elements_back w small
