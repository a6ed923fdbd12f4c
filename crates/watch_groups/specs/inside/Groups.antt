-- The groups of which a call was told. This project's own form.
use Rattle.std.specs.Prelude.{◌≡◌, ℕ, List}
use Rattle.std.specs.Ordering.{nat_cmp}
use Rattle.std.specs.BTreeSet.{BTreeSet, contains}
use Rattle.watch_groups.specs.declared.telling.ToldCall.{ToldCall}
use Rattle.watch_groups.specs.Telling.{is_told}

-- a set has the groups of these calls, and no others
abbrev pub AreTheirGroups : List ToldCall → BTreeSet ℕ → Type 0
AreTheirGroups told groups = (k : ℕ) → contains nat_cmp groups k ≡ is_told told k
