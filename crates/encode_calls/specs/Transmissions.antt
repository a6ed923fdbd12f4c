-- What is sent of a call: ITU-R M.493, call sequence, time diversity and dot pattern; that an expansion follows with
-- the call's own end of sequence is this project's profile.
use Rattle.std.specs.Prelude.{ℕ, Bool, Option, Some, None, List, [], ◌++◌}
use Rattle.ten_unit.specs.declared.character.Element.{Element}
use Rattle.call_values.specs.declared.calls.Call.{Call}
use Rattle.call_grammar.specs.Spelling.{end_of, end_named, spell}
use Rattle.expansion.specs.declared.values.Sets.{Sets}
use Rattle.expansion.specs.Spelling.{spell as expanded}
use Rattle.time_diversity.specs.OnAir.{on_air}
use Rattle.phasing.specs.Sent.{sent}

-- what is sent after a call's list: nothing, or an expansion's list with the call's own end of sequence
abbrev pub tail_of : Call → Option Sets → List ℕ
tail_of call None = []
tail_of call (Some x) = expanded x (end_named (end_of call))

-- the symbols that are sent of a call, and of the expansion after it
abbrev pub list_on_air : Call → Option Sets → List ℕ
list_on_air call expansion = spell call ++ tail_of call expansion

-- the elements of a call's transmission, and of the expansion after it
unfoldable pub transmitted : Bool → Call → Option Sets → List Element
transmitted long call expansion = sent (on_air (list_on_air call expansion)) long
