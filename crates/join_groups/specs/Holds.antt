-- What is held of groups: their facts, in sheets and in an open batch of receptions.
use Rattle.std.specs.Prelude.{◌≡◌, ℕ, ◌<◌, ◌≤◌, ◌==◌, ◌&&◌, ◌||◌, not, Bool, true, false, List, length, All, Option, Some, None}
use Rattle.std.specs.Ordering.{nat_cmp, is_eq}
use Rattle.std.specs.Map.{lookup}
use Rattle.slot_evidence.specs.declared.places.Seen.{Seen}
use Rattle.slot_evidence.specs.Facts.{Facts}
use Rattle.receiver_pool.specs.declared.group_entries.GroupReception.{GroupReception}
use Rattle.receiver_pool.specs.Groups.{facts_of_group, AreSheets, Belongs}
use Rattle.join_groups.specs.declared.groups.NamedGroups.{NamedGroups}
use Rattle.join_groups.specs.declared.groups.TheConstants.{MOST_GROUPS}
use Rattle.join_groups.specs.Groups.{IsRising, is_among}

-- the groups that are named, and this one
abbrev pub named_with : ℕ → (ℕ → Bool) → ℕ → Bool
named_with group named k = named k || group == k

-- the facts of each group, and these of one group
abbrev pub facts_with : ℕ → Facts → (ℕ → Facts) → ℕ → Facts
facts_with group G F k p v = F k p v || (group == k && G p v)

-- the facts of each group but this one, which has none
abbrev pub facts_without : ℕ → (ℕ → Facts) → ℕ → Facts
facts_without group F k p v = not (group == k) && F k p v

-- as many groups are named as an input may have, and this is none of them
pub record IsFull (named : ℕ → Bool) (group : ℕ) : Type 0 where
  pub is_new : named group ≡ false
  pub groups : List ℕ
  pub rising : IsRising groups
  pub are : (k : ℕ) → is_among groups k ≡ named k
  pub many : MOST_GROUPS ≤ length groups

-- what is held of a group with this number, or with none: facts that are in its sheet, and those that the open batch
-- shows
abbrev pub IsHeld : (named : Bool) → Facts → (closed : ℕ → Facts) → (sheets : ℕ) → List GroupReception → Option ℕ → Type 0
IsHeld named F closed sheets batch None = (named ≡ false) × ((p v : ℕ) → F p v ≡ false)
IsHeld named F closed sheets batch (Some n) = (named ≡ true) × (n < sheets) × ((p v : ℕ) → F p v ≡ (closed n p v || facts_of_group batch n p v))

-- these groups are held, each with all its facts, where numbers are found so: closed are the facts that sheets keep the
-- ends of
pub record HoldsIn (found : ℕ → Option ℕ) (sheets : List (List Seen)) (batch : List GroupReception) (named : ℕ → Bool) (F : ℕ → Facts) : Type 0 where
  pub closed : ℕ → Facts
  pub are_sheets : AreSheets closed sheets (length sheets)
  pub belong : All (Belongs (length sheets)) batch
  pub group_with : ℕ → ℕ
  pub numbered : (k n : ℕ) → found k ≡ Some n → group_with n ≡ k
  pub held : (k : ℕ) → IsHeld (named k) (F k) closed (length sheets) batch (found k)

-- the number of a group, where it has one
abbrev pub number_in : NamedGroups → ℕ → Option ℕ
number_in groups k = lookup (λ n. is_eq (nat_cmp k n)) groups.numbers.entries

-- groups hold these facts of the groups that were named
abbrev pub Holds : NamedGroups → (named : ℕ → Bool) → (F : ℕ → Facts) → Type 0
Holds groups named F = HoldsIn (number_in groups) groups.sheets.items groups.batch.items named F

-- some groups are held, with some facts
pub record HoldsSome (groups : NamedGroups) : Type 0 where
  pub named : ℕ → Bool
  pub facts : ℕ → Facts
  pub holds : Holds groups named facts
