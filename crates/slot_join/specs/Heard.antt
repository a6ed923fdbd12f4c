-- A transmission as a receiver heard it, with errors in one sense alone: ITU-R M.493, time diversity; the definitions
-- are this project's profile.
use Rattle.std.specs.Prelude.{◌≡◌, ℕ, ◌<◌, ◌⊎◌, List, length, slice_index, Some, None}
use Rattle.ten_unit.specs.declared.character.Element.{Element}
use Rattle.ten_unit.specs.Word.{word_of}
use Rattle.ten_unit.specs.Errors.{IsOneWay}
use Rattle.time_diversity.specs.OnAir.{on_air}
use Rattle.phasing.specs.Slot.{slot}
use Rattle.phasing.specs.Origin.{lead_of}

-- at this lead each slot of the list's transmission that is wholly inside the reception went wrong in one sense alone;
-- before the transmission and after its end anything may come
abbrev pub IsOneWayAt : List Element → List ℕ → ℕ → Type 0
IsOneWayAt reception list lead =
    (s : ℕ) → s < length (on_air list) → length (slot reception lead s) ≡ 10 → IsOneWay (word_of (slice_index (on_air list) s)) (slot reception lead s)

-- the origin that is found is the true one, or none is found
abbrev pub IsTrulyPhased : List Element → ℕ → Type 0
IsTrulyPhased reception lead = (lead_of reception ≡ Some lead) ⊎ (lead_of reception ≡ None)

-- a truly phased reception of the list's transmission: no origin is found in it; or the true origin is found, and each
-- character went wrong in one sense alone
abbrev pub IsHeard : List Element → List ℕ → Type 0
IsHeard reception list =
    (lead_of reception ≡ None) ⊎ ((lead : ℕ) × (lead_of reception ≡ Some lead) × IsOneWayAt reception list lead)
