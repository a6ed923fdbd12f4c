-- What a watch of an input keeps. This project's own form.
use Rattle.std.specs.Prelude.{◌≡◌, ◌⊎◌, ℕ, ◌+◌, ◌*◌, ◌<◌, ◌||◌, Bool, true, false, List, ◌++◌}
use Rattle.call_values.specs.declared.calls.Call.{Call}
use Rattle.slot_join.specs.declared.joined.Joined.TheVariants.{Reported}
use Rattle.slot_join.specs.declared.joined.Extra.{Extra}
use Rattle.slot_join.specs.Answer.{IsAnswer}
use Rattle.line_engine.specs.Lines.{Lines}
use Rattle.input_lines.specs.ReceiverLine.{ReceiverLine}
use Rattle.join_groups.specs.declared.groups.NamedGroups.{NamedGroups}
use Rattle.join_groups.specs.declared.groups.TheConstants.{MOST_IN_BATCH}
use Rattle.join_groups.specs.Groups.{AreLines, is_named, is_among, group_facts}
use Rattle.join_groups.specs.inside.Kept.{Keeps}
use Rattle.watch_groups.specs.declared.telling.ToldCall.{ToldCall}
use Rattle.watch_groups.specs.Telling.{told_text, is_told, AreTold, receptions, TellsEachBatch}

-- where the lines report a call of this group, one is told
abbrev pub IsDone : List ReceiverLine → List ToldCall → ℕ → Type 0
IsDone said told k = (call : Call) (extra : Extra) → IsAnswer (group_facts said k) (Reported call extra) → is_told told k ≡ true

-- so many receptions come after the last batch's end
pub record IsOpen (said : List ReceiverLine) (heard : ℕ) : Type 0 where
  pub batches : ℕ
  pub count : receptions said ≡ MOST_IN_BATCH * batches + heard
  pub few : heard < MOST_IN_BATCH

-- the groups that lines named since the last batch's end are known, and all others are done
pub record AreOthersDone (said : List ReceiverLine) (named : List ℕ) (told : List ToldCall) : Type 0 where
  pub named_by : (k : ℕ) → is_among named k ≡ true → is_named said k ≡ true
  pub others : (k : ℕ) → is_among named k ≡ false → IsDone said told k

-- groups that are named are noted beside others, but for those of which a call was told
pub record Notes (told : List ToldCall) (named : List ℕ) (names : ℕ → Bool) (more : List ℕ) : Type 0 where
  pub among : (k : ℕ) → is_among more k ≡ true → (is_among named k || names k) ≡ true
  pub others : (k : ℕ) → is_among more k ≡ false → (is_among named k ≡ false) × ((names k ≡ false) ⊎ (is_told told k ≡ true))

-- what is kept of these lines
pub record Watches (groups : NamedGroups) (named : List ℕ) (told : List ToldCall) (heard : ℕ) (said : List ReceiverLine) : Type 0 where
  pub keeps : Keeps groups said
  pub open_batch : IsOpen said heard
  pub are_told : AreTold said told
  pub each_batch : TellsEachBatch said told
  pub done : AreOthersDone said named told

-- a watch stands for these lines and the calls that it told
pub record StandsFor (groups : NamedGroups) (named : List ℕ) (told : List ToldCall) (heard : ℕ) (lines : Lines) (text : List ℕ) : Type 0 where
  pub said : List ReceiverLine
  pub are_lines : AreLines said lines
  pub watches : Watches groups named told heard said
  pub text_is : text ≡ told_text told

-- calls were told after others: what was told stays
pub record TellsMore (said : List ReceiverLine) (told : List ToldCall) (out : List ℕ) (more : List ToldCall) (after : List ℕ) : Type 0 where
  pub stays : (k : ℕ) → is_told told k ≡ true → is_told more k ≡ true
  pub are_told : AreTold said told → AreTold said more
  pub text : (written : List ℕ) → written ++ out ≡ told_text told → written ++ after ≡ told_text more

-- a group was looked at: it is done
pub record LooksAt (said : List ReceiverLine) (group : ℕ) (told : List ToldCall) (out : List ℕ) (more : List ToldCall) (after : List ℕ) : Type 0 where
  pub tells : TellsMore said told out more after
  pub done : IsDone said more group

-- all groups of a list were looked at but these
pub record LooksThrough (said : List ReceiverLine) (all left : List ℕ) (told : List ToldCall) (out : List ℕ) (more : List ToldCall) (after : List ℕ) : Type 0 where
  pub tells : TellsMore said told out more after
  pub among : (k : ℕ) → is_among left k ≡ true → is_among all k ≡ true
  pub done : (k : ℕ) → is_among all k ≡ true → is_among left k ≡ false → IsDone said more k
