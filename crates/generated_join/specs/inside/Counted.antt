-- Counting the answers to one group after another.
use Rattle.std.specs.Prelude.{◌≡◌, ℕ, ◌*◌, List, map, count_by}
use Rattle.std.specs.List.{AllByRecursion, range_with_len}
use Rattle.slot_join.specs.Answer.{IsAnswer, is_reported}
use Rattle.join_groups.specs.Groups.{group_facts}
use Rattle.generated_join.specs.declared.summary.Summary.{Summary}
use Rattle.generated_join.specs.Generator.{lines_of_group}
use Rattle.generated_join.specs.Summary.{Answered, is_missing}

-- the first groups were counted, each by the answer to the facts of its own lines
pub record HasCounted (n : ℕ) (summary : Summary) : Type 0 where
  pub all : List Answered
  pub are : map (λ one. one.group) all ≡ range_with_len 0 n
  pub each : AllByRecursion (λ one. IsAnswer (group_facts (lines_of_group one.group) one.group) one.answer) all
  pub groups : summary.groups ≡ n
  pub receptions : summary.receptions ≡ 4 * n
  pub reported : summary.reported ≡ count_by (λ one. is_reported one.answer) all
  pub missing : summary.missing ≡ count_by (λ one. is_missing one.answer) all
