-- Reading expansions from their texts, from each place to the end: this project's profile.
use Rattle.std.specs.Prelude.{ℕ, List, [], ◌++◌, Option, Some, None}
use Rattle.expansion.specs.declared.parts.PartKind.{PartKind}
use Rattle.expansion.specs.declared.parts.PartKind.TheVariants.{LeftOut}
use Rattle.expansion.specs.declared.values.Sets.{Sets}
use Rattle.expansion.specs.Parts.{IsThere, IsUpTo}
use Rattle.line_grammar.specs.Grammar.{Parts, none, part, first, second}
use Rattle.call_texts.specs.CallParts.{set_text, perhaps_parts, expansion_parts}

-- a set that is there, its digits at most so much
abbrev pub IsSet : ℕ → PartKind → Type 0
IsSet most set = IsThere set × IsUpTo most set

-- the part of a set that is there, and of what comes after it
abbrev pub set_part : ℕ → PartKind → Parts → Parts
set_part width set rest = part (set_text width set) rest

-- the parts of the course to the end
abbrev pub course : PartKind → Parts
course set = set_part 4 set none

-- the parts of a course that may be left out, to the end
abbrev pub perhaps_course : PartKind → Parts
perhaps_course set = perhaps_parts 4 set none

-- the parts of the speed and of what may follow it to the end
abbrev pub speed : PartKind × PartKind → Parts
speed sets = set_part 4 sets.0 (perhaps_course sets.1)

-- the parts of a speed that may be left out, and of what may follow it to the end
abbrev pub perhaps_speed : PartKind × PartKind → Parts
perhaps_speed sets = perhaps_parts 4 sets.0 (perhaps_course sets.1)

-- the parts of an expansion from its first set on, to the end
abbrev pub sets : Sets → Parts
sets x = expansion_parts x none

-- the parts of an expansion that may follow a call, and of what comes after it
abbrev pub tail_parts : Option Sets → Parts → Parts
tail_parts None rest = first rest
tail_parts (Some x) rest = second (expansion_parts x rest)

-- the same to the end
abbrev pub expansion_or_end : Option Sets → Parts
expansion_or_end tail = tail_parts tail none

-- a set after its label, or nothing where it is left out
abbrev pub label_and_set : List ℕ → ℕ → PartKind → List ℕ
label_and_set label width LeftOut = []
label_and_set label width set = label ++ set_text width set
