-- What is kept of the groups that lines named.
use Rattle.join_groups.specs.declared.groups.NamedGroups.{NamedGroups}
use Rattle.join_groups.specs.Groups.{is_named}
use Rattle.join_groups.specs.Holds.{Holds}
use Rattle.traffic_replay.specs.Said.{Said}
use Rattle.traffic_replay.specs.HeardGroups.{of_receivers, facts_since_heard}

-- the facts of each group that lines named, since it was last heard, are held
abbrev pub KeepsGroups : NamedGroups → Said → Type 0
KeepsGroups groups said = Holds groups (is_named (of_receivers said)) (λ k. facts_since_heard k said)
