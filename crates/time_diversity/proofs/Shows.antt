-- what the slots of a transmission show
use Rattle.std.proofs.Common.{◌≡◌, ℕ, ◌+◌, ◌-◌, ◌*◌, ◌/◌, ◌<◌, ◌≤◌, ◌⊎◌, List, length, slice_index, inl, inr, arith, All, get_or}
use Rattle.std.proofs.lemmas.List.FromFn.{length-map-range_with_len, get_or-map-range_with_len}
use Rattle.std.proofs.lemmas.List.{get_or_past}
use Rattle.std.proofs.lemmas.Bool.Decides.{nat_tests}
use Rattle.dsc_symbols.specs.declared.phasing.TheConstants.{DX, RX_7}
use Rattle.time_diversity.specs.Slots.{dx_slot, rx_slot, IsSlotOf}
use Rattle.time_diversity.specs.OnAir.{phasing_symbol, sent_symbol, on_air}

half-dx : (slot p : ℕ) → slot ≡ 12 + 2 * p → (slot - 12) / 2 ≡ p
half-dx slot p e = omega arith

half-rx : (slot p : ℕ) → slot ≡ 17 + 2 * p → (slot - 17) / 2 ≡ p
half-rx slot p e = omega arith

dx_shows : (list : List ℕ) (slot p : ℕ) → slot ≡ dx_slot p → sent_symbol list slot ≡ slice_index list p
unfolding sent_symbol
dx_shows list slot p e =
    let half = half-dx slot p e in
    grind (arith, nat_tests)

rx_shows : (list : List ℕ) (slot p : ℕ) → slot ≡ rx_slot p → sent_symbol list slot ≡ slice_index list p
unfolding sent_symbol
rx_shows list slot p e =
    let half = half-rx slot p e in
    grind (arith, nat_tests)

-- both slots of a place show its character
pub shows_character : (list : List ℕ) (slot p : ℕ) → IsSlotOf slot p → sent_symbol list slot ≡ slice_index list p
shows_character list slot p h = elim h [ inl e ↦ dx_shows list slot p e | inr e ↦ rx_shows list slot p e ]

-- below the copies of place 63 every other slot shows its phasing symbol
pub shows_phasing : (list : List ℕ) (slot : ℕ) → (slot ≤ 11) ⊎ (slot ≡ 13) ⊎ (slot ≡ 15) → sent_symbol list slot ≡ phasing_symbol slot
unfolding sent_symbol
shows_phasing list slot h = grind (arith, nat_tests)

pub phasing_even : (n : ℕ) → phasing_symbol (2 * n) ≡ DX
phasing_even n = grind (arith, nat_tests)

pub phasing_odd : (n : ℕ) → phasing_symbol (2 * n + 1) ≡ RX_7 - n
phasing_odd n = let half : (2 * n + 1 - 1) / 2 ≡ n = omega arith in grind (arith, nat_tests)

-- each place is sent twice, among twelve more
pub length-on_air : (list : List ℕ) → length (on_air list) ≡ 2 * length list + 12
unfolding on_air
length-on_air list = length-map-range_with_len (sent_symbol list) 0 (2 * length list + 12)

-- what is sent in a slot
pub sent_at : (list : List ℕ) (s : ℕ) → s < 2 * length list + 12 → get_or (on_air list) s 0 ≡ sent_symbol list s
unfolding on_air
sent_at list s below = get_or-map-range_with_len (sent_symbol list) 0 (2 * length list + 12) s s 0 below (omega arith)

character_below : (list : List ℕ) (k : ℕ) → All (λ v. v < 128) list → slice_index list k < 128
character_below list k h = grind (arith, h k 0, get_or_past list k 0)

symbol_below : (list : List ℕ) (slot : ℕ) → All (λ v. v < 128) list → sent_symbol list slot < 128
unfolding sent_symbol
symbol_below list slot h =
    let dx = character_below list ((slot - 12) / 2) h in
    let rx = character_below list ((slot - 17) / 2) h in
    grind (arith, nat_tests)

pub on_air_below : (list : List ℕ) → All (λ v. v < 128) list → All (λ v. v < 128) (on_air list)
unfolding on_air
on_air_below list h k d lt =
    let long = length-map-range_with_len (sent_symbol list) 0 (2 * length list + 12) in
    let is = get_or-map-range_with_len (sent_symbol list) 0 (2 * length list + 12) k k d (omega arith) (omega arith) in
    omega (arith, is, symbol_below list k h)
