-- What `join` writes of a call that `encode` wrote: this project's profile.
use Rattle.std.specs.Prelude.{◌≡◌, ℕ, Bool, true, Option, List, ◌∷◌, [], ◌++◌, Contains}
use Rattle.std.specs.List.{AllByRecursion}
use Rattle.line_grammar.specs.Bytes.{line_feed}
use Rattle.call_values.specs.declared.calls.Call.{Call}
use Rattle.expansion.specs.declared.values.Sets.{Sets}
use Rattle.slot_join.specs.declared.joined.Joined.TheVariants.{Reported}
use Rattle.call_texts.specs.Texts.{extra_of}
use Rattle.input_lines.specs.ReceiverLine.{ReceiverLine, reception, IsLine}
use Rattle.join_groups.specs.Groups.{names, is_named}
use Rattle.join_groups.specs.Output.{GroupLine}
use Rattle.encode_calls.specs.Transmissions.{transmitted}
use Rattle.encode_calls.specs.Encoding.{encoded_line}
use Rattle.dsc_cmd.specs.Sent.{TellsThis}

-- the line that `encode` writes of a call is the line of a reception of this group, which heard the call's whole
-- transmission
pub record IsHeardWhole (long : Bool) (k : ℕ) (call : Call) (expansion : Option Sets) : Type 0 where
  pub line : List ℕ
  pub line_is : encoded_line long k (call, expansion) ≡ line ++ line_feed ∷ []
  pub says : IsLine (reception k (transmitted long call expansion)) line

-- some line names the group, and each that does holds a reception that heard the call's whole transmission, with what
-- follows it
pub record IsOfEncoded (said : List ReceiverLine) (k : ℕ) (long : Bool) (call : Call) (expansion : Option Sets) : Type 0 where
  pub named : is_named said k ≡ true
  pub each : AllByRecursion (λ line. names k line ≡ true → line ≡ reception k (transmitted long call expansion)) said

-- one of the lines that are told is the group's, and reports exactly this call and what follows it
pub record TellsCall (all : List GroupLine) (k : ℕ) (call : Call) (expansion : Option Sets) : Type 0 where
  pub told : GroupLine
  pub is_one : Contains all told
  pub tells : TellsThis told k (Reported call (extra_of expansion))
