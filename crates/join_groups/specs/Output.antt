-- What is written of groups: this project's profile.
use Rattle.std.specs.Prelude.{◌≡◌, ℕ, Bool, true, if◌then◌else◌, List, [], ◌∷◌, ◌++◌, map}
use Rattle.std.specs.List.{list_all, flat_map, AllByRecursion}
use Rattle.line_grammar.specs.Bytes.{line_feed}
use Rattle.slot_evidence.specs.declared.places.Seen.{Seen}
use Rattle.slot_evidence.specs.Facts.{Facts}
use Rattle.slot_evidence.specs.Sheet.{IsEnds}
use Rattle.slot_join.specs.declared.joined.Joined.{Joined}
use Rattle.slot_join.specs.Answer.{IsAnswer, is_reported}
use Rattle.call_texts.specs.Texts.{answer_line}
use Rattle.input_lines.specs.Evidence.{evidence_text}
use Rattle.input_lines.specs.ReceiverLine.{ReceiverLine}
use Rattle.join_groups.specs.Groups.{group_facts, AreGroups}

-- what is told of a group: its line, and whether the run may end with status 0
pub record GroupLine : Type 0 where
  pub group : ℕ
  pub line : List ℕ
  pub is_well : Bool

-- a rule for what is told of a group with these facts
abbrev pub Telling : Type 1
Telling = Facts → GroupLine → Type 0

-- a group's line is that of the answer to its facts; all is well where a call was reported
pub record TellsAnswer (F : Facts) (told : GroupLine) : Type 0 where
  pub answer : Joined
  pub is_answer : IsAnswer F answer
  pub line_is : told.line ≡ answer_line told.group answer
  pub well_is : told.is_well ≡ is_reported answer

-- a group's line is that of the ends of its facts; all is well
pub record TellsEvidence (F : Facts) (told : GroupLine) : Type 0 where
  pub sheet : List Seen
  pub are_ends : IsEnds F sheet
  pub line_is : told.line ≡ evidence_text told.group sheet ++ line_feed ∷ []
  pub well_is : told.is_well ≡ true

-- the text and status of what is told of each group that lines name, by rising number
pub record IsGroupsText (tells : Telling) (said : List ReceiverLine) (text : List ℕ) (status : ℕ) : Type 0 where
  pub all : List GroupLine
  pub groups : AreGroups said (map (λ told. told.group) all)
  pub each : AllByRecursion (λ told. tells (group_facts said told.group) told) all
  pub text_is : text ≡ flat_map (λ told. told.line) all
  pub status_is : status ≡ (if list_all (λ told. told.is_well) all then 0 else 1)

-- for each group the answer to all its facts
abbrev pub IsJoinText : List ReceiverLine → List ℕ → ℕ → Type 0
IsJoinText = IsGroupsText TellsAnswer

-- for each group the ends of all its facts
abbrev pub IsEvidenceText : List ReceiverLine → List ℕ → ℕ → Type 0
IsEvidenceText = IsGroupsText TellsEvidence
