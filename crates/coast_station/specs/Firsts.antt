-- The first entries that say something: this project's profile. Histories have their newest entry first.
use Rattle.std.specs.Prelude.{Bool, Option, None, is_some, [], ◌∷◌, if◌then◌else◌}
use Rattle.std.specs.List.{list_any}
use Rattle.traffic_rules.specs.Histories.{Entry, History}

module _ {What : Type 0} where
  -- the first entry that is such, and all after it; none where none is
  abbrev pub from_first : (Entry What → Bool) → History What → History What
  from_first is_such [] = []
  from_first is_such (e ∷ h) = if list_any is_such h then e ∷ from_first is_such h else (if is_such e then e ∷ [] else [])

  -- the first such thing that an entry says
  abbrev pub first_told : {A : Type 0} → (Entry What → Option A) → History What → Option A
  first_told told [] = None
  first_told told (e ∷ h) = if is_some (first_told told h) then first_told told h else told e

  -- the entries before the first that says such a thing; all of them where none does
  abbrev pub before_first : {A : Type 0} → (Entry What → Option A) → History What → History What
  before_first told [] = []
  before_first told (e ∷ h) = if is_some (first_told told h) then before_first told h else (if is_some (told e) then h else e ∷ h)
