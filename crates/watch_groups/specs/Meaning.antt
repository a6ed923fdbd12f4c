-- What the lines of a watch mean: this project's profile.
use Rattle.std.specs.Prelude.{◌≡◌, ℕ, List, ◌++◌}
use Rattle.line_grammar.specs.Columns.{IsColumn}
use Rattle.line_engine.specs.Lines.{Lines}
use Rattle.line_engine.specs.Meaning.{Meaning}
use Rattle.input_lines.specs.ReceiverLine.{ReceiverLine, IsLine}
use Rattle.join_groups.specs.Groups.{AreLines}
use Rattle.join_groups.specs.Meanings.{IsOverfull}
use Rattle.join_groups.specs.Output.{IsJoinText}
use Rattle.watch_groups.specs.declared.telling.ToldCall.{ToldCall}
use Rattle.watch_groups.specs.Telling.{told_text, AreTold, TellsReported, TellsEachBatch}

-- these lines may give this text before their end: calls of groups that they name, at most one a group, and one of each
-- group that is reported at a batch's end
pub record GivesTold (lines : Lines) (text : List ℕ) : Type 0 where
  pub said : List ReceiverLine
  pub are_lines : AreLines said lines
  pub told : List ToldCall
  pub are_told : AreTold said told
  pub each_batch : TellsEachBatch said told
  pub text_is : text ≡ told_text told

-- an input of these lines may have this text: such calls, one of each group that is reported at the end too, and after
-- them what join writes, with its status
pub record EndsWatch (lines : Lines) (text : List ℕ) (status : ℕ) : Type 0 where
  pub said : List ReceiverLine
  pub are_lines : AreLines said lines
  pub told : List ToldCall
  pub are_told : AreTold said told
  pub each_batch : TellsEachBatch said told
  pub at_end : TellsReported said told
  pub answers : List ℕ
  pub is_join : IsJoinText said answers status
  pub text_is : text ≡ told_text told ++ answers

-- lines are those of join's input
abbrev pub watch_meaning : Meaning
watch_meaning = record {
  IsIllFormed = λ earlier text n. IsColumn IsLine text n;
  IsOverfull = IsOverfull;
  Gives = GivesTold;
  Ends = EndsWatch;
}
