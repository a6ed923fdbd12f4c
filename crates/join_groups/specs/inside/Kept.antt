-- What is kept of the groups that lines named.
use Rattle.std.specs.Prelude.{◌≡◌, ◌⊎◌, ℕ, ◌<◌, ◌≤◌, List, [], ◌∷◌, ◌++◌, length}
use Rattle.ten_unit.specs.declared.character.Element.{Element}
use Rattle.line_grammar.specs.Columns.{IsColumn}
use Rattle.line_engine.specs.declared.command.Refusal.{Refusal}
use Rattle.line_engine.specs.declared.command.Refusal.TheVariants.{Column, TooManyGroups, Memory}
use Rattle.input_lines.specs.ReceiverLine.{ReceiverLine, IsLine}
use Rattle.input_lines.specs.Lines.{Says}
use Rattle.input_lines.specs.declared.join.JoinLine.{JoinLine as Got}
use Rattle.input_lines.specs.declared.join.JoinLine.TheVariants as got
use Rattle.phasing.specs.declared.reception.TheConstants.{LONGEST}
use Rattle.line_engine.specs.Lines.{Lines}
use Rattle.join_groups.specs.declared.groups.NamedGroups.{NamedGroups}
use Rattle.join_groups.specs.declared.groups.TheConstants.{MOST_IN_BATCH}
use Rattle.join_groups.specs.Groups.{AreLines, is_named, group_facts}
use Rattle.join_groups.specs.Holds.{Holds}
use Rattle.join_groups.specs.Meanings.{BringsTooMany}

-- all facts of each group that lines named are held
abbrev pub Keeps : NamedGroups → List ReceiverLine → Type 0
Keeps groups said = Holds groups (is_named said) (group_facts said)

-- why a line isn't taken after what was said
abbrev pub IsRefused : List ReceiverLine → List ℕ → Refusal → Type 0
IsRefused said text (Column n) = IsColumn IsLine text n
IsRefused said text TooManyGroups = (line : ReceiverLine) × (IsLine line text × BringsTooMany said line)
IsRefused said text Memory = Unit {0}

-- what a command over groups stands for: these lines, and no text before their end; its batch isn't full
pub record StandsFor (groups : NamedGroups) (lines : Lines) (text : List ℕ) : Type 0 where
  pub text_is : text ≡ []
  pub said : List ReceiverLine
  pub are_lines : AreLines said lines
  pub keeps : Keeps groups said
  pub few : length groups.batch.items < MOST_IN_BATCH

-- what was read of a line has no more elements than a reception may have
abbrev pub IsShort : Got → Type 0
IsShort read = (group : ℕ) (e : List Element) → read ≡ got.Reception group e → length e ≤ LONGEST

-- what was read of a line is taken after what was said: it brings no group too many
abbrev pub TakesRead : NamedGroups → Got → NamedGroups → Type 0
TakesRead old read new =
    (said : List ReceiverLine) (line : ReceiverLine) → Keeps old said → Says line read
    → (BringsTooMany said line → ⊥) × Keeps new (said ++ line ∷ [])

-- why what was read of a line isn't taken
abbrev pub RefusesRead : NamedGroups → Got → Refusal → Type 0
RefusesRead old read refusal =
    (refusal ≡ Memory)
    ⊎ ((said : List ReceiverLine) (line : ReceiverLine) → Keeps old said → Says line read
    → (refusal ≡ TooManyGroups) × BringsTooMany said line)
