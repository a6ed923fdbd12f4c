-- What is written of a group whose receptions are all of one call: ITU-R M.493, the error-detecting code and time
-- diversity; the rule is this project's profile.
use Rattle.std.specs.Prelude.{◌≡◌, ℕ, List, Option, Contains}
use Rattle.ten_unit.specs.declared.character.Element.{Element}
use Rattle.call_values.specs.declared.calls.Call.{Call}
use Rattle.slot_join.specs.declared.joined.Joined.{Joined}
use Rattle.slot_join.specs.Intact.{IsSent, IsSentOrLostPlace, ArrivesInParts}
use Rattle.byte_streams.specs.Streams.{Loses, IsEnded}
use Rattle.line_engine.specs.Lines.{Lines, lines_of}
use Rattle.line_engine.specs.Meaning.{Meaning}
use Rattle.line_engine.specs.Endings.{Writes}
use Rattle.input_lines.specs.ReceiverLine.{ReceiverLine}
use Rattle.join_groups.specs.Groups.{AreLines}
use Rattle.join_groups.specs.Output.{GroupLine, TellsAnswer, IsJoinText}
use Rattle.slot_join.specs.Answer.{is_reported}
use Rattle.call_texts.specs.Texts.{answer_line}
use Rattle.join_groups.specs.Meanings.{EndsTelling, groups_meaning}
use Rattle.dsc_cmd.specs.Heard.{IsOfCall}

-- the group's line says this answer
pub record TellsThis (told : GroupLine) (k : ℕ) (answer : Joined) : Type 0 where
  pub group : told.group ≡ k
  pub line_is : told.line ≡ answer_line k answer
  pub well_is : told.is_well ≡ is_reported answer

-- one of the lines that are told is the group's: it reports the call that was sent, or names as missing a place of it
-- no copy of which came intact; and it reports the call where each of its places came intact at some receiver, the end
-- of sequence perhaps in a later copy
pub record TellsSent (all : List GroupLine) (k : ℕ) (call : Call) (tail : List ℕ) (receptions : List (List Element)) : Type 0 where
  pub told : GroupLine
  pub is_one : Contains all told
  pub answer : Joined
  pub tells : TellsThis told k answer
  pub sent : IsSentOrLostPlace receptions call tail answer
  pub whole : ArrivesInParts receptions call tail → IsSent receptions call tail answer

-- 0 and 1: the input was read to its end, and where all receptions of a group are of one call, the text reports this
-- call, or names a lost place of it
pub record ReportsSent (left_before left_after before after : Option (List ℕ)) (flushed status : ℕ) : Type 0 where
  pub input : List ℕ
  pub lost : Loses left_before left_after input
  pub ended : IsEnded left_after
  pub said : List ReceiverLine
  pub are_lines : AreLines said (lines_of input)
  pub text : List ℕ
  pub is_text : IsJoinText said text status
  pub writes : Writes before after flushed text
  pub sent : (k : ℕ) (call : Call) (tail : List ℕ) (receptions : List (List Element)) → IsOfCall said k call tail receptions → TellsSent is_text.all k call tail receptions

-- an input of these lines has this text and status; where all receptions of a group are of one call, the text reports
-- this call, or names a lost place of it
pub record EndsJoin (lines : Lines) (text : List ℕ) (status : ℕ) : Type 0 where
  pub ends : EndsTelling TellsAnswer lines text status
  pub sent : (k : ℕ) (call : Call) (tail : List ℕ) (receptions : List (List Element)) → IsOfCall ends.said k call tail receptions
      → TellsSent ends.is_text.all k call tail receptions

-- what the lines of `join` mean, and what is written of the calls that were sent
abbrev pub sent_join : Meaning
sent_join = record (groups_meaning TellsAnswer) { Ends = EndsJoin }
