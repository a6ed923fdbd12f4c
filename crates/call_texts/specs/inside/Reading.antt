-- Reading call texts, section by section and form by form: this project's profile.
use Rattle.call_values.specs.declared.calls.Call.{Call}
use Rattle.call_grammar.specs.Spelling.{end_symbol}
use Rattle.line_grammar.specs.Grammar.{Parts}
use Rattle.call_texts.specs.CallParts.{message_parts, end_parts}
use Rattle.call_texts.specs.declared.forms.Ending.{Ending}
use Rattle.call_texts.specs.inside.Places.{call_parts}

-- the parts of a call, and of what comes after it
abbrev pub parts_with : {T : Type 0} → (T → Parts) → Call × T → Parts
parts_with tail (call, behind) = call_parts call (tail behind)

-- the parts of what a call to one station ends with, and of what comes after it
abbrev pub ending_with : {T : Type 0} → (T → Parts) → Ending × T → Parts
ending_with tail (ending, behind) = message_parts ending.message (end_parts (end_symbol ending.end) (tail behind))
