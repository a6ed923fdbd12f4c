-- Who a call is addressed to: ITU-R M.493, format specifier and address.
use Rattle.std.specs.Prelude.{ℕ, ◌==◌, Bool, true, false, Option, List}
use Rattle.std.specs.List.{list_any}
use Rattle.call_values.specs.declared.positions.Fix.{Fix}
use Rattle.call_values.specs.declared.calls.Call.{Call}
use Rattle.call_values.specs.declared.parts.To.{To}
use Rattle.call_values.specs.declared.parts.To.TheVariants as to
use Rattle.call_values.specs.Views.{address_of}
use Rattle.area_rules.specs.Inside.{is_inside}

-- an address reaches a ship of this identity, these groups and this position
abbrev pub reaches_ship : To → (own : ℕ) → (groups : List ℕ) → Option Fix → Bool
reaches_ship to.All own groups position = true
reaches_ship (to.Area area) own groups position = is_inside area position
reaches_ship (to.Group group) own groups position = list_any (λ g. g == group) groups
reaches_ship (to.One station) own groups position = station == own

-- an address reaches a coast station of this identity
abbrev pub reaches_coast : To → (own : ℕ) → Bool
reaches_coast to.All own = true
reaches_coast (to.Area area) own = false
reaches_coast (to.Group group) own = false
reaches_coast (to.One station) own = station == own

-- a call is for a ship of this identity, these groups and this position
abbrev pub is_for_ship : Call → (own : ℕ) → (groups : List ℕ) → Option Fix → Bool
is_for_ship call own groups position = reaches_ship (address_of call) own groups position

-- a call is for a coast station of this identity
abbrev pub is_for_coast : Call → (own : ℕ) → Bool
is_for_coast call own = reaches_coast (address_of call) own
