use Rattle.std.proofs.Common.{ℕ, List, ap}
use Rattle.join_groups.proofs.Rising.{found}
use Rattle.join_groups.proofs.Holding.{holds_nothing}
use Rattle.join_groups.proofs.groups.NamedGroups.new.Goals as goal

pub returns-clause-holds : goal.returns-clause-holds
returns-clause-holds c =
    holds_nothing (found c.new.result.entries) c.new-2.result.items c.new-3.result.items (λ k. ap (λ (es : List (ℕ × ℕ)). found es k) c.new.ensures.empty) c.new-2.ensures.items c.new-3.ensures.items
