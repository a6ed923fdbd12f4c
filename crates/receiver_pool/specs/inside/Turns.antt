-- Which receptions are whose turn. This project's own form.
use Rattle.std.specs.Prelude.{ℕ, zero, suc, ◌%◌, Bool, false, ◌&&◌, ◌||◌, ◌==◌, nat_le, nat_lt, List, [], slice_index_or}
use Rattle.ten_unit.specs.declared.character.Element.{Element}
use Rattle.slot_evidence.specs.Facts.{Facts, facts_of}
use Rattle.receiver_pool.specs.declared.group_entries.GroupReception.{GroupReception}

-- the reception with this index is the turn of a worker from low on and below high
abbrev pub is_turn : ℕ → ℕ → ℕ → ℕ → Bool
is_turn workers low high index = nat_le low (index % workers) && nat_lt (index % workers) high

-- the facts of those of the first n that are taken
abbrev pub taken : (ℕ → Bool) → (ℕ → Facts) → ℕ → Facts
taken takes F zero p v = false
taken takes F (suc n) p v = taken takes F n p v || (takes n && F n p v)

-- what the reception with this index shows
abbrev pub nth : List (List Element) → ℕ → Facts
nth list index = facts_of (slice_index_or list index [])

-- the facts of those of the first n receptions that are taken
abbrev pub part : (ℕ → Bool) → List (List Element) → ℕ → Facts
part takes list = taken takes (nth list)

-- what stands for a reception where there is none
abbrev pub nobody : GroupReception
nobody = record { group = 0; reception = [] }

-- what the reception of a batch with this index shows of group k
abbrev pub nth_of : List GroupReception → ℕ → ℕ → Facts
nth_of batch k index p v = (slice_index_or batch index nobody).group == k && facts_of (slice_index_or batch index nobody).reception p v

-- the same of a group of a batch
abbrev pub group_part : (ℕ → Bool) → List GroupReception → ℕ → ℕ → Facts
group_part takes batch n k = taken takes (nth_of batch k) n
