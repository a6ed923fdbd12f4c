-- The facts of receptions: ITU-R M.493, section on time diversity. That a group's facts are united is this project's
-- profile.
use Rattle.std.specs.Prelude.{ℕ, Bool, false, ◌&&◌, ◌||◌, ◌==◌, nat_lt, List, Option, Some, None}
use Rattle.std.specs.List.{list_any}
use Rattle.ten_unit.specs.declared.character.Element.{Element}
use Rattle.time_diversity.specs.Slots.{dx_slot, rx_slot}
use Rattle.phasing.specs.Slot.{shows}
use Rattle.phasing.specs.Origin.{lead_of}

-- a set of symbols is its test
abbrev pub Symbols : Type 0
Symbols = ℕ → Bool

-- facts: the symbols that each place showed
abbrev pub Facts : Type 0
Facts = ℕ → ℕ → Bool

-- no place showed a symbol
abbrev pub no_facts : Facts
no_facts p v = false

-- this place showed this symbol
abbrev pub one_fact : ℕ → ℕ → Facts
one_fact place symbol p v = p == place && v == symbol

-- what the one or the other showed
abbrev pub union : Facts → Facts → Facts
union F G p v = F p v || G p v

-- what a reception gives at the lead of its origin: for each place below 64 the symbols of its DX slot and of its RX
-- slot
abbrev pub facts_at : List Element → Option ℕ → Facts
facts_at e None p v = false
facts_at e (Some lead) p v =
    nat_lt p 64 && (nat_lt v 128 && (shows e lead (dx_slot p) v || shows e lead (rx_slot p) v))

-- the facts of a reception; none where it has no origin
unfoldable pub facts_of : List Element → Facts
facts_of e = facts_at e (lead_of e)

-- the facts of several receptions: what any of them shows
unfoldable pub facts_of_all : List (List Element) → Facts
facts_of_all receptions p v = list_any (λ e. facts_of e p v) receptions
