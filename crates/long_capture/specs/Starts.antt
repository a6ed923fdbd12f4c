-- The starts of a long stream and the facts at each: this project's profile, over the phasing sequence and the time
-- diversity of ITU-R M.493. A lead counts from 150 elements before the stream's first one.
use Rattle.std.specs.Prelude.{ℕ, ◌+◌, ◌-◌, List, length, take, find, Option, Some, None}
use Rattle.std.specs.List.{filter, range_with_len}
use Rattle.ten_unit.specs.declared.character.Element.{Element}
use Rattle.phasing.specs.declared.reception.TheConstants.{LEAD_OF_FIRST}
use Rattle.phasing.specs.Origin.{is_phased}
use Rattle.slot_evidence.specs.Facts.{Facts, facts_at}

-- the starts below a lead, rising: all leads there that are phased
unfoldable pub starts_below : List Element → ℕ → List ℕ
starts_below e bound = filter (is_phased e) (range_with_len 0 bound)

-- all starts of a stream; past its end none is phased
abbrev pub starts : List Element → List ℕ
starts e = starts_below e (length e + LEAD_OF_FIRST)

-- the next start after a lead, where there is one
abbrev pub next_start : List Element → ℕ → Option ℕ
next_start e lead = find (is_phased e) (range_with_len (lead + 1) (length e + LEAD_OF_FIRST))

-- what comes before the next start: without one, the whole stream
abbrev pub before : List Element → Option ℕ → List Element
before e None = e
before e (Some lead) = take (lead - LEAD_OF_FIRST) e

-- the facts at a start: what its slots show that end at or before the next start
unfoldable pub facts_from : List Element → ℕ → Facts
facts_from e lead = facts_at (before e (next_start e lead)) (Some lead)
