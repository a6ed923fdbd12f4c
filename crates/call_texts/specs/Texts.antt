-- The texts of calls with what follows them, and of answers: this project's profile.
use Rattle.std.specs.Prelude.{◌≡◌, ℕ, List, [], ◌∷◌, ◌++◌, Option, Some, None, codes, decimal}
use Rattle.line_grammar.specs.Bytes.{line_feed}
use Rattle.call_values.specs.declared.calls.Call.{Call}
use Rattle.call_values.specs.Calls.{IsCall}
use Rattle.expansion.specs.Expansions.{IsExpansion}
use Rattle.expansion.specs.declared.values.Sets.{Sets}
use Rattle.slot_join.specs.declared.joined.Extra.{Extra}
use Rattle.slot_join.specs.declared.joined.Extra.TheVariants.{Absent, Whole, Broken}
use Rattle.slot_join.specs.declared.joined.Joined.{Joined}
use Rattle.slot_join.specs.declared.joined.Joined.TheVariants.{Reported, Missing, Differ, Outside, Check}
use Rattle.call_texts.specs.CallParts.{call_text, expansion_text}

-- what comes after a reported call: nothing, an expansion, or the first place at which no expansion goes on
abbrev pub extra_text : Extra → List ℕ
extra_text Absent = []
extra_text (Whole x) = expansion_text x
extra_text (Broken n) = codes " broken " ++ decimal n

-- a call and what follows it
abbrev pub reported_text : Call → Extra → List ℕ
reported_text call extra = call_text call ++ extra_text extra

-- the bytes are the text of a call whose parts are in their ranges, with nothing after it
abbrev pub IsBareCallText : Call → List ℕ → Type 0
IsBareCallText call bytes = IsCall call × (bytes ≡ call_text call)

-- nothing follows a call, or an expansion whose sets are in their ranges
abbrev pub IsWholeOrAbsent : Extra → Type 0
IsWholeOrAbsent Absent = Unit {0}
IsWholeOrAbsent (Whole x) = IsExpansion x
IsWholeOrAbsent (Broken n) = ⊥

-- what an answer says after a call that was sent with this expansion after it, or with none
abbrev pub extra_of : Option Sets → Extra
extra_of None = Absent
extra_of (Some x) = Whole x

-- the bytes are the text of a call whose parts are in their ranges, and of such an expansion where one follows
abbrev pub IsCallText : Call × Option Sets → List ℕ → Type 0
IsCallText (call, expansion) bytes = (IsCall call × IsWholeOrAbsent (extra_of expansion)) × (bytes ≡ reported_text call (extra_of expansion))

-- what an answer says, with the places and symbols that it names as plain numbers
abbrev pub report_text : Joined → List ℕ
report_text (Reported call extra) = codes " reported " ++ reported_text call extra
report_text (Missing n) = codes " missing " ++ decimal n
report_text (Differ n least greatest) = codes " differ " ++ decimal n ++ codes " " ++ decimal least ++ codes " " ++ decimal greatest
report_text (Outside n symbol) = codes " outside " ++ decimal n ++ codes " " ++ decimal symbol
report_text (Check n want got) = codes " check " ++ decimal n ++ codes " " ++ decimal want ++ codes " " ++ decimal got

-- a group's answer, without the end of its line
unfoldable pub answer_text : ℕ → Joined → List ℕ
answer_text group answer = codes "g" ++ decimal group ++ report_text answer

-- the line of a group's answer
abbrev pub answer_line : ℕ → Joined → List ℕ
answer_line group answer = answer_text group answer ++ line_feed ∷ []
