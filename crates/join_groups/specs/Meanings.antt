-- What the lines of a command over groups mean: this project's profile.
use Rattle.std.specs.Prelude.{◌≡◌, ℕ, ◌≤◌, true, false, List, [], length}
use Rattle.line_grammar.specs.Columns.{IsColumn}
use Rattle.line_engine.specs.Lines.{Lines}
use Rattle.line_engine.specs.Meaning.{Meaning}
use Rattle.input_lines.specs.ReceiverLine.{ReceiverLine, IsLine}
use Rattle.join_groups.specs.declared.groups.TheConstants.{MOST_GROUPS}
use Rattle.join_groups.specs.Groups.{AreLines, names, is_named, AreGroups}
use Rattle.join_groups.specs.Output.{Telling, IsGroupsText}

-- after what was said this line names a new group, though there are as many groups as an input may have
pub record BringsTooMany (said : List ReceiverLine) (line : ReceiverLine) : Type 0 where
  pub group : ℕ
  pub named : names group line ≡ true
  pub is_new : is_named said group ≡ false
  pub groups : List ℕ
  pub are_groups : AreGroups said groups
  pub many : MOST_GROUPS ≤ length groups

-- after these lines this one brings a group too many
pub record IsOverfull (earlier : Lines) (text : List ℕ) : Type 0 where
  pub said : List ReceiverLine
  pub are_lines : AreLines said earlier
  pub line : ReceiverLine
  pub is_line : IsLine line text
  pub brings : BringsTooMany said line

-- an input of these lines has this text and status
pub record EndsTelling (tells : Telling) (lines : Lines) (text : List ℕ) (status : ℕ) : Type 0 where
  pub said : List ReceiverLine
  pub are_lines : AreLines said lines
  pub is_text : IsGroupsText tells said text status

-- lines are those of receptions and evidence; nothing is given before all are known
abbrev pub groups_meaning : Telling → Meaning
groups_meaning tells = record {
  IsIllFormed = λ earlier text n. IsColumn IsLine text n;
  IsOverfull = IsOverfull;
  Gives = λ lines text. text ≡ [];
  Ends = EndsTelling tells;
}
