-- Histories of stations: this project's profile.
use Rattle.std.specs.Prelude.{◌≡◌, ℕ, suc, Bool, false, Option, None, is_some, List, [], ◌∷◌, ◌++◌, if◌then◌else◌}
use Rattle.std.specs.Option.{option_to_list}
use Rattle.std.specs.List.{list_any}
use Rattle.traffic_rules.specs.declared.acts.Act.{Act}

-- an event that a station accepted, at its moment, with what the station did at it
pub record Entry (What : Type 0) : Type 0 where
  pub at : ℕ
  pub what : What
  pub acts : List Act

-- the events that a station accepted, the newest first
abbrev pub History : Type 0 → Type 0
History What = List (Entry What)

module _ {What : Type 0} where
  -- the moment of the last accepted event, and 0 where there is none
  abbrev pub last_moment : History What → ℕ
  last_moment [] = 0
  last_moment (e ∷ h) = e.at

  -- one of an entry's acts is such
  abbrev pub does : (Act → Bool) → Entry What → Bool
  does is_such e = list_any is_such e.acts

  -- none of these entries is such
  abbrev pub NoneIs : (Entry What → Bool) → History What → Type 0
  NoneIs is_such h = list_any is_such h ≡ false

  -- the last such thing that an entry says
  abbrev pub last_told : {A : Type 0} → (Entry What → Option A) → History What → Option A
  last_told told [] = None
  last_told told (e ∷ h) = if is_some (told e) then told e else last_told told h

  -- all such things that the entries say, in the order of the events
  abbrev pub all_told : {A : Type 0} → (Entry What → Option A) → History What → List A
  all_told told [] = []
  all_told told (e ∷ h) = all_told told h ++ option_to_list (told e)

  -- how many entries are such
  abbrev pub how_many : (Entry What → Bool) → History What → ℕ
  how_many is_such [] = 0
  how_many is_such (e ∷ h) = if is_such e then suc (how_many is_such h) else how_many is_such h

  -- the entries after the last one that is such; all of them where none is
  abbrev pub since : (Entry What → Bool) → History What → History What
  since is_such [] = []
  since is_such (e ∷ h) = if is_such e then [] else e ∷ since is_such h
