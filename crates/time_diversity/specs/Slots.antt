-- The slots of a transmission: ITU-R M.493, section on time diversity.
use Rattle.std.specs.Prelude.{◌≡◌, ℕ, ◌+◌, ◌*◌, ◌%◌, ◌≤◌, ◌⊎◌}
use Rattle.time_diversity.specs.declared.slots.TheConstants.{FIRST_DX, FIRST_RX}

-- the slot of the DX copy of a place, which is sent first
abbrev pub dx_slot : ℕ → ℕ
dx_slot place = FIRST_DX + 2 * place

-- the slot of the RX copy of a place, five slots after
abbrev pub rx_slot : ℕ → ℕ
rx_slot place = FIRST_RX + 2 * place

-- a slot is one of the two of a place
abbrev pub IsSlotOf : ℕ → ℕ → Type 0
IsSlotOf slot place = (slot ≡ dx_slot place) ⊎ (slot ≡ rx_slot place)

-- slots of no place below 64: those of the phasing symbols, and those after the copies of place 63
abbrev pub IsNoPlace : ℕ → Type 0
IsNoPlace slot =
    (slot ≤ 11) ⊎ (slot ≡ 13) ⊎ (slot ≡ 15) ⊎ ((slot % 2 ≡ 0) × (140 ≤ slot)) ⊎ ((slot % 2 ≡ 1) × (145 ≤ slot))
