-- Lines of one group, and lines with alike facts: this project's profile.
use Rattle.std.specs.Prelude.{◌≡◌, ℕ, ◌==◌, List}
use Rattle.input_lines.specs.ReceiverLine.{ReceiverLine}
use Rattle.slot_evidence.specs.Alike.{AreAlike}
use Rattle.join_groups.specs.Groups.{is_named, group_facts}

-- these lines name this group and no other
abbrev pub AreOfGroup : ℕ → List ReceiverLine → Type 0
AreOfGroup k lines = (j : ℕ) → is_named lines j ≡ (k == j)

-- lines name the same groups, and the facts of each group are alike: at each place each symbol of the one is between
-- two of the other, or is one of them
pub record HaveAlikeFacts (said other : List ReceiverLine) : Type 0 where
  pub named : (k : ℕ) → is_named said k ≡ is_named other k
  pub alike : (k place : ℕ) → AreAlike (group_facts said k place) (group_facts other k place)
