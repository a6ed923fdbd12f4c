-- The calls that a watch of an input writes before the input ends: this project's profile.
use Rattle.std.specs.Prelude.{◌≡◌, ℕ, ◌+◌, ◌*◌, ◌≤◌, ◌==◌, Bool, true, false, List, [], ◌∷◌, ◌++◌, codes, decimal, length, take}
use Rattle.std.specs.List.{list_any, flat_map}
use Rattle.line_grammar.specs.Bytes.{line_feed}
use Rattle.ten_unit.specs.declared.character.Element.{Element}
use Rattle.call_values.specs.declared.calls.Call.{Call}
use Rattle.slot_join.specs.declared.joined.Joined.TheVariants.{Reported}
use Rattle.slot_join.specs.declared.joined.Extra.{Extra}
use Rattle.slot_join.specs.Answer.{IsAnswer}
use Rattle.live_watch.specs.Told.{IsTold}
use Rattle.input_lines.specs.ReceiverLine.{ReceiverLine, nothing, reception, evidence}
use Rattle.join_groups.specs.declared.groups.TheConstants.{MOST_IN_BATCH}
use Rattle.join_groups.specs.Groups.{is_named, group_facts}
use Rattle.call_texts.specs.CallParts.{call_text}
use Rattle.watch_groups.specs.declared.telling.ToldCall.{ToldCall}

-- the line of a told call: the word told, the group, and the call's text
abbrev pub told_line : ToldCall → List ℕ
told_line told = codes "told g" ++ decimal told.group ++ codes " " ++ call_text told.call ++ line_feed ∷ []

-- the lines of told calls, one after another
abbrev pub told_text : List ToldCall → List ℕ
told_text told = flat_map told_line told

-- whether a call of this group is told
abbrev pub is_told : List ToldCall → ℕ → Bool
is_told told k = list_any (λ one. one.group == k) told

-- the group is one that lines name, and what they show of it shows the call
pub record IsToldOf (said : List ReceiverLine) (told : ToldCall) : Type 0 where
  pub named : is_named said told.group ≡ true
  pub call : IsTold (group_facts said told.group) told.call

-- each told call is shown by what its group's lines show, and no two are of one group
abbrev pub AreTold : List ReceiverLine → List ToldCall → Type 0
AreTold said [] = Unit {0}
AreTold said (one ∷ told) = IsToldOf said one × (is_told told one.group ≡ false) × AreTold said told

-- each group of which the lines report a call is told
abbrev pub TellsReported : List ReceiverLine → List ToldCall → Type 0
TellsReported said told = (k : ℕ) (call : Call) (extra : Extra) → IsAnswer (group_facts said k) (Reported call extra) → is_told told k ≡ true

-- how many lines are receptions
abbrev pub receptions : List ReceiverLine → ℕ
receptions [] = 0
receptions (nothing ∷ said) = receptions said
receptions (reception group e ∷ said) = 1 + receptions said
receptions (evidence group pairs ∷ said) = receptions said

-- a batch ends after these lines: the last is a reception, and all receptions fill batches
pub record EndsBatch (said : List ReceiverLine) : Type 0 where
  pub earlier : List ReceiverLine
  pub group : ℕ
  pub elements : List Element
  pub list : said ≡ earlier ++ reception group elements ∷ []
  pub batches : ℕ
  pub full : receptions said ≡ MOST_IN_BATCH * batches

-- at each batch's end the groups of which the lines up to it report a call are told
abbrev pub TellsEachBatch : List ReceiverLine → List ToldCall → Type 0
TellsEachBatch said told = (n : ℕ) → n ≤ length said → EndsBatch (take n said) → TellsReported (take n said) told
