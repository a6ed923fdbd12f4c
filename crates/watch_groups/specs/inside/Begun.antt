-- How a watcher of a batch begins. This project's own form.
use Rattle.std.specs.Prelude.{◌≡◌, ℕ, true, List, Some}
use Rattle.call_values.specs.declared.calls.Call.{Call}
use Rattle.live_watch.specs.Batches.{Sight, HasSeen, IsUnderWatch}
use Rattle.join_groups.specs.declared.groups.NamedGroups.{NamedGroups}
use Rattle.join_groups.specs.Groups.{is_among}
use Rattle.join_groups.specs.Holds.{number_in}

-- it watches these groups, by their numbers, and saw no call yet
pub record AreWatched (groups : NamedGroups) (named : List ℕ) (watcher : List Sight) : Type 0 where
  pub watched : (group n : ℕ) → is_among named group ≡ true → number_in groups group ≡ Some n → IsUnderWatch watcher n
  pub unseen : (n : ℕ) (call : Call) → HasSeen watcher n call → ⊥
