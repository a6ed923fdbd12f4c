-- The summary of a joined input: this project's profile.
use Rattle.std.specs.Prelude.{◌≡◌, ℕ, Bool, true, false, if◌then◌else◌, List, ◌++◌, map, length, count_by, codes, decimal}
use Rattle.std.specs.List.{list_all, AllByRecursion}
use Rattle.slot_join.specs.declared.joined.Joined.{Joined}
use Rattle.slot_join.specs.declared.joined.Joined.TheVariants.{Reported, Missing, Differ, Outside, Check}
use Rattle.slot_join.specs.Answer.{IsAnswer, is_reported}
use Rattle.input_lines.specs.ReceiverLine.{ReceiverLine, nothing, reception, evidence}
use Rattle.join_groups.specs.Groups.{group_facts, AreGroups}
use Rattle.generated_join.specs.declared.summary.Summary.{Summary}
use Rattle.generated_join.specs.Generator.{generated}

-- the line is that of a reception
abbrev pub is_reception : ReceiverLine → Bool
is_reception nothing = false
is_reception (reception group e) = true
is_reception (evidence group pairs) = false

-- the answer names a missing place
abbrev pub is_missing : Joined → Bool
is_missing (Reported call extra) = false
is_missing (Missing n) = true
is_missing (Differ n least greatest) = false
is_missing (Outside n symbol) = false
is_missing (Check n want got) = false

-- a group, and an answer to it
pub record Answered : Type 0 where
  pub group : ℕ
  pub answer : Joined

-- the summary counts the groups that lines name, the receptions among the lines, and the answers to all facts of each
-- group
pub record IsSummary (said : List ReceiverLine) (summary : Summary) : Type 0 where
  pub all : List Answered
  pub are_groups : AreGroups said (map (λ one. one.group) all)
  pub each : AllByRecursion (λ one. IsAnswer (group_facts said one.group) one.answer) all
  pub groups : summary.groups ≡ length all
  pub receptions : summary.receptions ≡ count_by is_reception said
  pub reported : summary.reported ≡ count_by (λ one. is_reported one.answer) all
  pub missing : summary.missing ≡ count_by (λ one. is_missing one.answer) all

-- a line of a label and a number
abbrev pub number_line : List ℕ → ℕ → List ℕ
number_line label n = label ++ (decimal n ++ codes "\n")

-- the four lines of a summary
abbrev pub summary_text : Summary → List ℕ
summary_text summary =
    number_line (codes "groups ") summary.groups ++ (number_line (codes "receptions ") summary.receptions
    ++ (number_line (codes "reported ") summary.reported ++ number_line (codes "missing ") summary.missing))

-- what `make n` writes, and its status: the summary of the generated lines of n groups; 1 exactly where some group
-- isn't reported
pub record IsMade (n : ℕ) (text : List ℕ) (status : ℕ) : Type 0 where
  pub summary : Summary
  pub is_summary : IsSummary (generated n) summary
  pub text_is : text ≡ summary_text summary
  pub status_is : status ≡ (if list_all (λ one. is_reported one.answer) is_summary.all then 0 else 1)
