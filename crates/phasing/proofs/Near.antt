-- what a slot shows, and whether a lead is phased, by the elements there alone
use Rattle.std.proofs.Common.{◌≡◌, ℕ, suc, ◌+◌, ◌-◌, ◌*◌, ◌/◌, ◌<◌, ◌≤◌, ◌&&◌, Bool, List, [], ◌∷◌, length, add-zero, refl, arith, ap, sym, ◌∙◌}
use Rattle.ten_unit.specs.declared.character.Element.{Element}
use Rattle.ten_unit.specs.Word.{element_eq, word_of}
use Rattle.ten_unit.proofs.PublicLaws.{length-word}
use Rattle.dsc_symbols.specs.declared.phasing.TheConstants.{DX, RX_7}
use Rattle.phasing.specs.inside.Places.{element_at, is_at}
use Rattle.phasing.specs.Origin.{dx_right, rx_right, is_enough, is_phased}
use Rattle.phasing.specs.Slot.{shows}
use Rattle.phasing.proofs.Kept.{no_fewer}
use Rattle.phasing.proofs.Words.{is_at-shows}

-- a word begins at two places that have the same elements, or at neither
is_at-near : (e f : ℕ → Element) (w : List Element) (p q : ℕ) → ((i : ℕ) → i < length w → e (p + i) ≡ f (q + i)) → is_at e w p ≡ is_at f w q
is_at-near e f [] p q same = refl
is_at-near e f (a ∷ w) p q same =
    ap (λ (x : Element). element_eq x a && is_at e w (p + 1)) (ap e (sym (add-zero p)) ∙ same 0 (omega arith) ∙ ap f (add-zero q))
    ∙ ap (λ (b : Bool). element_eq (f q) a && b)
    (is_at-near e f w (p + 1) (q + 1)
    (λ i below.
    let here : p + 1 + i ≡ p + suc i = omega arith in
    let there : q + suc i ≡ q + 1 + i = omega arith in
    ap e here ∙ same (suc i) (omega arith) ∙ ap f there))

pub shows-near : (e f : List Element) (q r s v : ℕ) → ((i : ℕ) → i < 10 → element_at e (q + 10 * s + i) ≡ element_at f (r + 10 * s + i)) → shows e q s v ≡ shows f r s v
shows-near e f q r s v same =
    sym (is_at-shows e q s v)
    ∙ is_at-near (element_at e) (element_at f) (word_of v) (q + 10 * s) (r + 10 * s) (λ i below. same i (omega (arith, length-word v)))
    ∙ is_at-shows f r s v

-- of slots up to 15
slots-near : (e f : List Element) (q r s v : ℕ) → ((i : ℕ) → i < 160 → element_at e (q + i) ≡ element_at f (r + i)) → s ≤ 15 → shows e q s v ≡ shows f r s v
slots-near e f q r s v same few =
    shows-near e f q r s v
    (λ i below.
    let here : q + 10 * s + i ≡ q + (10 * s + i) = omega arith in
    let there : r + (10 * s + i) ≡ r + 10 * s + i = omega arith in
    ap (element_at e) here ∙ same (10 * s + i) (omega arith) ∙ ap (element_at f) there)

pub is_phased-near : (e f : List Element) (q r : ℕ) → ((i : ℕ) → i < 160 → element_at e (q + i) ≡ element_at f (r + i)) → is_phased e q ≡ is_phased f r
unfolding is_phased
is_phased-near e f q r same =
    let dx = 0 ∷ 2 ∷ 4 ∷ 6 ∷ 8 ∷ 10 ∷ [] in
    let rx = 1 ∷ 3 ∷ 5 ∷ 7 ∷ 9 ∷ 11 ∷ 13 ∷ 15 ∷ [] in
    let d = no_fewer (λ s. shows e q s DX) (λ s. shows f r s DX) dx refl (λ s few h. sym (slots-near e f q r s DX same few) ∙ h) in
    let d_back = no_fewer (λ s. shows f r s DX) (λ s. shows e q s DX) dx refl (λ s few h. slots-near e f q r s DX same few ∙ h) in
    let x = no_fewer (λ s. shows e q s (RX_7 - (s - 1) / 2)) (λ s. shows f r s (RX_7 - (s - 1) / 2)) rx refl (λ s few h. sym (slots-near e f q r s _ same few) ∙ h) in
    let x_back = no_fewer (λ s. shows f r s (RX_7 - (s - 1) / 2)) (λ s. shows e q s (RX_7 - (s - 1) / 2)) rx refl (λ s few h. slots-near e f q r s _ same few ∙ h) in
    let same_dx : dx_right e q ≡ dx_right f r = omega (arith, d, d_back) in
    let same_rx : rx_right e q ≡ rx_right f r = omega (arith, x, x_back) in
    ap (λ (n : ℕ). is_enough n (rx_right e q)) same_dx ∙ ap (is_enough (dx_right f r)) same_rx
