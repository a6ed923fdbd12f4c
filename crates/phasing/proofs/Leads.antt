-- past a reception's end and long before its first element nothing is phased
use Rattle.std.proofs.Common.{◌≡◌, ℕ, ◌+◌, ◌*◌, ◌<◌, ◌≤◌, Bool, true, false, cond, List, length, Option, Some, None, refl, arith, ap, ◌∙◌, inl, inr}
use Rattle.std.proofs.lemmas.Bool.{cases_lt, cases_order, both_ways}
use Rattle.plain_laws.proofs.Searches.{find_least, find_none}
use Rattle.ten_unit.specs.declared.character.Element.{Element}
use Rattle.dsc_symbols.specs.declared.phasing.TheConstants.{DX, RX_0, RX_1, RX_2, RX_3, RX_4, RX_5, RX_6, RX_7}
use Rattle.phasing.specs.Origin.{dx_right, rx_right, is_enough, is_phased, lead_of}
use Rattle.phasing.specs.Slot.{shows}
use Rattle.phasing.proofs.Slots.{shows-past, shows-early}

-- no origin after all elements is phased
pub is_phased-past : (e : List Element) (lead : ℕ) → length e + 150 ≤ lead → is_phased e lead ≡ false
unfolding is_phased
is_phased-past e lead past = simp shows-past

-- without an origin no lead is phased
pub none_anywhere : (e : List Element) → lead_of e ≡ None → (k : ℕ) → is_phased e k ≡ false
none_anywhere e h k =
    elim (cases_lt k (length e + 150)) [
      | inl inside ↦ find_none (is_phased e) 0 (length e + 150) h k (omega arith) (omega arith)
      | inr past ↦ is_phased-past e k past
    ]

-- the least phased lead is found
pub least_found : (e : List Element) (lead : ℕ) (found : Option ℕ) → lead_of e ≡ found → is_phased e lead ≡ true → ((q : ℕ) → q < lead → is_phased e q ≡ false) → found ≡ Some lead
least_found e lead None h phased least = absurd (both_ways (is_phased e lead) (none_anywhere e h lead) phased)
least_found e lead (Some q) h phased least =
    let l = find_least (is_phased e) 0 (length e + 150) q h in
    elim (cases_order q lead) [
      | inl same ↦ ap Some same
      | inr (inl below) ↦ absurd (both_ways (is_phased e q) (least q below) l.passes)
      | inr (inr above) ↦ absurd (both_ways (is_phased e lead) (l.least lead (omega arith) above) phased)
    ]

-- where no lead is phased there is no origin
pub none_found : (e : List Element) (found : Option ℕ) → lead_of e ≡ found → ((k : ℕ) → k < length e + 150 → is_phased e k ≡ false) → found ≡ None
none_found e None h none = refl
none_found e (Some q) h none =
    let l = find_least (is_phased e) 0 (length e + 150) q h in
    absurd (both_ways (is_phased e q) (none q (omega (arith, l.within))) l.passes)

none_of : (b : Bool) → b ≡ false → ◌≡◌ {A = ℕ} (cond b 1 0) 0
none_of true h = absurd cc
none_of false h = refl

too_few : (x y : Bool) → is_enough 0 (cond x 1 0 + cond y 1 0) ≡ false
too_few true true = refl
too_few true false = refl
too_few false true = refl
too_few false false = refl

-- below lead 40 two RX slots at most begin inside the reception, and no DX slot does
pub is_phased-early : (e : List Element) (lead : ℕ) → lead < 40 → is_phased e lead ≡ false
unfolding is_phased
is_phased-early e lead early =
    let none = λ (s v : ℕ) (before : lead + 10 * s < 150). none_of (shows e lead s v) (shows-early e lead s v before) in
    let d0 = none 0 DX (omega arith) in
    let d2 = none 2 DX (omega arith) in
    let d4 = none 4 DX (omega arith) in
    let d6 = none 6 DX (omega arith) in
    let d8 = none 8 DX (omega arith) in
    let d10 = none 10 DX (omega arith) in
    let r1 = none 1 RX_7 (omega arith) in
    let r3 = none 3 RX_6 (omega arith) in
    let r5 = none 5 RX_5 (omega arith) in
    let r7 = none 7 RX_4 (omega arith) in
    let r9 = none 9 RX_3 (omega arith) in
    let r11 = none 11 RX_2 (omega arith) in
    let dx : dx_right e lead ≡ 0 = omega (arith, d0, d2, d4, d6, d8, d10) in
    let rx : rx_right e lead ≡ cond (shows e lead 13 RX_1) 1 0 + cond (shows e lead 15 RX_0) 1 0 = omega (arith, r1, r3, r5, r7, r9, r11) in
    ap (λ (n : ℕ). is_enough n (rx_right e lead)) dx ∙ ap (is_enough 0) rx ∙ too_few (shows e lead 13 RX_1) (shows e lead 15 RX_0)
