-- in a reception of fewer than 30 elements, three slots' length, no lead is phased
use Rattle.std.proofs.Common.{◌≡◌, ℕ, ◌+◌, ◌-◌, ◌*◌, ◌/◌, ◌<◌, ◌≤◌, ◌==◌, Bool, true, false, ◌||◌, List, [], ◌∷◌, length, None, refl, arith}
use Rattle.std.specs.Prelude.{count_by, not}
use Rattle.std.specs.List.{range_with_len, list_all}
use Rattle.std.proofs.lemmas.Bool.{both_ways, false_from_ne_true}
use Rattle.ten_unit.specs.declared.character.Element.{Element}
use Rattle.dsc_symbols.specs.declared.phasing.TheConstants.{DX, RX_7}
use Rattle.phasing.specs.Origin.{dx_right, rx_right, is_enough, is_phased, lead_of}
use Rattle.phasing.specs.Slot.{shows}
use Rattle.phasing.proofs.EarlyLeads.{none_at}
use Rattle.phasing.proofs.Kept.{word_at, no_fewer, enough_more}
use Rattle.phasing.proofs.Leads.{none_found}

-- whether a slot is this one or the next
abbrev is_near : ℕ → ℕ → Bool
is_near j s = s == j || s == j + 1

-- how many DX slots of phasing these two are, and how many RX slots
abbrev dx_near : ℕ → ℕ
dx_near j = count_by (is_near j) (0 ∷ 2 ∷ 4 ∷ 6 ∷ 8 ∷ 10 ∷ [])

abbrev rx_near : ℕ → ℕ
rx_near j = count_by (is_near j) (1 ∷ 3 ∷ 5 ∷ 7 ∷ 9 ∷ 11 ∷ 13 ∷ 15 ∷ [])

-- two slots in a row aren't enough: each pair is tried
two_are_few : list_all (λ j. not (is_enough (dx_near j) (rx_near j))) (range_with_len 0 16) ≡ true
two_are_few = refl

-- the first slot that isn't before the reception
abbrev first_slot : ℕ → ℕ
first_slot lead = (159 - lead) / 10

is_near-true : (j s : ℕ) → j ≤ s → s ≤ j + 1 → is_near j s ≡ true
is_near-true j s low high = grind arith

-- what a short reception shows is in two slots in a row
near_shown : (e : List Element) (lead s v : ℕ) → length e < 30 → shows e lead s v ≡ true → is_near (first_slot lead) s ≡ true
near_shown e lead s v short h =
    let w = word_at e lead s v h in
    let low : 150 ≤ lead + 10 * s = w.low in
    let high : lead + 10 * s + 10 ≤ length e + 150 = w.high in
    is_near-true (first_slot lead) s (omega arith) (omega arith)

pub is_phased-short : (e : List Element) (lead : ℕ) → length e < 30 → is_phased e lead ≡ false
unfolding is_phased
is_phased-short e lead short =
    let j = first_slot lead in
    let d = no_fewer (λ s. shows e lead s DX) (is_near j) (0 ∷ 2 ∷ 4 ∷ 6 ∷ 8 ∷ 10 ∷ []) refl (λ s few. near_shown e lead s DX short) in
    let r = no_fewer (λ s. shows e lead s (RX_7 - (s - 1) / 2)) (is_near j) (1 ∷ 3 ∷ 5 ∷ 7 ∷ 9 ∷ 11 ∷ 13 ∷ 15 ∷ []) refl (λ s few. near_shown e lead s _ short) in
    let few = none_at (λ n. is_enough (dx_near n) (rx_near n)) 0 16 j two_are_few (omega arith) (omega arith) in
    false_from_ne_true (is_phased e lead)
    (λ phased. both_ways (is_enough (dx_near j) (rx_near j)) few (enough_more (dx_right e lead) (rx_right e lead) (dx_near j) (rx_near j) d r phased))

-- so there is no origin
pub none_short : (e : List Element) → length e < 30 → lead_of e ≡ None
none_short e short = none_found e (lead_of e) refl (λ k below. is_phased-short e k short)
