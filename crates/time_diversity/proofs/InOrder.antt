-- the slots of a transmission, one after the other
use Rattle.std.proofs.Common.{◌≡◌, ℕ, ◌+◌, ◌-◌, ◌*◌, ◌<◌, ◌≤◌, ◌==◌, true, List, [], ◌∷◌, length, get_or, take, drop, slice_index, inl, inr, refl, sym, ap, ◌∙◌, arith, length-drop}
use Rattle.std.proofs.lemmas.Bool.{eqb-true, agree_below, agree_below_at}
use Rattle.std.proofs.lemmas.List.{get_or-take, get_or-drop, length-take-le, ext_get_or}
use Rattle.dsc_symbols.specs.declared.phasing.TheConstants.{DX, RX_0, RX_1, RX_2, RX_3, RX_4, RX_5, RX_6, RX_7}
use Rattle.time_diversity.specs.OnAir.{phasing_symbol, sent_symbol, on_air}
use Rattle.time_diversity.proofs.Shows.{shows_character, shows_phasing, phasing_odd, sent_at, length-on_air}

abbrev front : List ℕ
front = DX ∷ RX_7 ∷ DX ∷ RX_6 ∷ DX ∷ RX_5 ∷ DX ∷ RX_4 ∷ DX ∷ RX_3 ∷ DX ∷ RX_2 ∷ []

front_table : agree_below (λ n. get_or front n 0 == phasing_symbol n) (λ _. true) 12 ≡ true
front_table = refl

-- the first twelve slots show phasing symbols
pub front_of_on_air : (list : List ℕ) → take 12 (on_air list) ≡ front
front_of_on_air list =
    let long : length (take 12 (on_air list)) ≡ 12 = length-take-le 12 (on_air list) (omega (arith, length-on_air list)) in
    ext_get_or 0 (take 12 (on_air list)) front long (λ i below.
    get_or-take 12 (on_air list) i 0 (omega (arith, below, long))
    ∙ sent_at list i (omega (arith, below, long))
    ∙ shows_phasing list i (inl (omega (arith, below, long)))
    ∙ sym (eqb-true (get_or front i 0) (phasing_symbol i) (agree_below_at (λ n. get_or front n 0 == phasing_symbol n) (λ _. true) 12 i front_table (omega (arith, below, long)))))

-- two slots for each character come after them
pub length_after_front : (list : List ℕ) → length (drop 12 (on_air list)) ≡ 2 * length list
length_after_front list = omega (arith, length-drop 12 (on_air list), length-on_air list)

shown_after : (list : List ℕ) (i : ℕ) → i < 2 * length list → get_or (drop 12 (on_air list)) i 0 ≡ sent_symbol list (12 + i)
shown_after list i below = get_or-drop 12 (on_air list) i 0 ∙ sent_at list (12 + i) (omega arith)

-- each character in a DX slot, and after it the character two before, or a phasing symbol, in an RX slot
pub dx_after_front : (list : List ℕ) (k : ℕ) → k < length list → get_or (drop 12 (on_air list)) (2 * k) 0 ≡ slice_index list k
dx_after_front list k below = shown_after list (2 * k) (omega arith) ∙ shows_character list (12 + 2 * k) k (inl refl)

pub rx_after_front : (list : List ℕ) (k : ℕ) → 2 ≤ k → k < length list → get_or (drop 12 (on_air list)) (2 * k + 1) 0 ≡ slice_index list (k - 2)
rx_after_front list k late below = shown_after list (2 * k + 1) (omega arith) ∙ shows_character list (12 + (2 * k + 1)) (k - 2) (inr (omega arith))

pub first_rx_after_front : (list : List ℕ) → 2 ≤ length list → (get_or (drop 12 (on_air list)) 1 0 ≡ RX_1) × (get_or (drop 12 (on_air list)) 3 0 ≡ RX_0)
first_rx_after_front list long = (
  shown_after list 1 (omega arith) ∙ shows_phasing list 13 (inr (inl refl)) ∙ phasing_odd 6,
  shown_after list 3 (omega arith) ∙ shows_phasing list 15 (inr (inr refl)) ∙ phasing_odd 7,
)
