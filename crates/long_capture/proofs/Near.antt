-- elements that two lists have alike decide the same facts; elements at places
use Rattle.std.proofs.Common.{◌≡◌, ℕ, ◌+◌, ◌-◌, ◌*◌, ◌<◌, ◌≤◌, Bool, true, false, ◌&&◌, ◌||◌, nat_lt, List, length, get_or, Some, refl, arith, ap, ◌∙◌}
use Rattle.std.proofs.lemmas.Bool.{ltb-true}
use Rattle.ten_unit.specs.declared.character.Element.{Element}
use Rattle.ten_unit.specs.declared.character.Element.TheVariants.{Lost}
use Rattle.time_diversity.specs.Slots.{dx_slot, rx_slot}
use Rattle.phasing.specs.Origin.{is_phased}
use Rattle.phasing.specs.Slot.{shows}
use Rattle.phasing.specs.inside.Places.{element_at}
use Rattle.phasing.proofs.PublicLaws.{element_at-inside}
use Rattle.slot_evidence.specs.Facts.{facts_at}

-- the laws of phasing that proofs here rest on
pub record Laws : Type 0 where
  pub slot : (e f : List Element) (q r s v : ℕ) → ((i : ℕ) → i < 10 → element_at e (q + 10 * s + i) ≡ element_at f (r + 10 * s + i)) → shows e q s v ≡ shows f r s v
  pub lead : (e f : List Element) (q r : ℕ) → ((i : ℕ) → i < 160 → element_at e (q + i) ≡ element_at f (r + i)) → is_phased e q ≡ is_phased f r
  pub past : (e : List Element) (lead : ℕ) → length e + 150 ≤ lead → is_phased e lead ≡ false

-- an element at a place, by its index
pub at_index : (e : List Element) (i : ℕ) → element_at e (150 + i) ≡ get_or e i Lost
at_index e i =
    let index : 150 + i - 150 ≡ i = omega arith in
    element_at-inside e (150 + i) (omega arith) ∙ ap (λ (n : ℕ). get_or e n Lost) index

-- a slot whose elements are alike shows the same
alike_slot : Laws → (e f : List Element) (q r s v : ℕ) → ((j : ℕ) → j < 1440 → element_at e (q + j) ≡ element_at f (r + j)) → s < 144 → shows e q s v ≡ shows f r s v
alike_slot laws e f q r s v same few =
    laws.slot e f q r s v
    (λ i below.
    let here : q + 10 * s + i ≡ q + (10 * s + i) = omega arith in
    let there : r + (10 * s + i) ≡ r + 10 * s + i = omega arith in
    ap (element_at e) here ∙ same (10 * s + i) (omega arith) ∙ ap (element_at f) there)

place_alike : (b : Bool) (small x y z w : Bool) → (b ≡ true → x ≡ z) → (b ≡ true → y ≡ w) → (b && (small && (x || y))) ≡ (b && (small && (z || w)))
place_alike true small x y z w dx rx = ap (λ (t : Bool). small && (t || y)) (dx refl) ∙ ap (λ (t : Bool). small && (z || t)) (rx refl)
place_alike false small x y z w dx rx = refl

-- 1,440 elements from a lead on decide the facts there
pub facts_alike : Laws → (e f : List Element) (q r : ℕ) → ((j : ℕ) → j < 1440 → element_at e (q + j) ≡ element_at f (r + j)) → (p v : ℕ) → facts_at e (Some q) p v ≡ facts_at f (Some r) p v
facts_alike laws e f q r same p v =
    place_alike (nat_lt p 64) (nat_lt v 128) (shows e q (dx_slot p) v) (shows e q (rx_slot p) v) (shows f r (dx_slot p) v) (shows f r (rx_slot p) v)
    (λ inside.
    let place : p < 64 = ltb-true p 64 inside in
    alike_slot laws e f q r (dx_slot p) v same (omega arith))
    (λ inside.
    let place : p < 64 = ltb-true p 64 inside in
    alike_slot laws e f q r (rx_slot p) v same (omega arith))
