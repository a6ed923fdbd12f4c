-- The groups of receivers in a traffic file, and their facts: this project's profile.
use Rattle.std.specs.Prelude.{ℕ, ◌==◌, Bool, false, List, [], ◌∷◌, if◌then◌else◌}
use Rattle.slot_evidence.specs.Facts.{Facts}
use Rattle.line_engine.specs.Lines.{Lines}
use Rattle.traffic_lines.specs.declared.{lines.Event.TheVariants.Comes, lines.Hearing.TheVariants.Heard, lines.TrafficLine.TheVariants.Event}
use Rattle.input_lines.specs.ReceiverLine.{ReceiverLine}
use Rattle.input_lines.specs.PointLine.{PointLine, joined, traffic, IsPointLine}
use Rattle.join_groups.specs.Groups.{group_facts}
use Rattle.join_groups.specs.Meanings.{BringsTooMany}
use Rattle.traffic_replay.specs.Said.{Said, point_of, AreSaid}

-- the lines of receivers: receptions and evidence
abbrev pub of_receivers : Said → List ReceiverLine
of_receivers [] = []
of_receivers (joined line ∷ earlier) = line ∷ of_receivers earlier
of_receivers (traffic line ∷ earlier) = of_receivers earlier

-- a line hears what the receivers of this group showed
abbrev pub hears : ℕ → PointLine → Bool
hears k (traffic (Event at (Comes (Heard group)))) = group == k
hears k _ = false

-- the lines after the last one that heard this group
abbrev pub since_heard : ℕ → Said → Said
since_heard k [] = []
since_heard k (line ∷ earlier) = if hears k line then [] else line ∷ since_heard k earlier

-- the facts of a group since it was last heard
unfoldable pub facts_since_heard : ℕ → Said → Facts
facts_since_heard k said = group_facts (of_receivers (since_heard k said)) k

-- after these lines this one brings a group too many; groups count from the beginning of the file, and a heard one
-- counts on
pub record IsOverfull (earlier : Lines) (text : List ℕ) : Type 0 where
  pub said : Said
  pub are_said : AreSaid said earlier
  pub line : ReceiverLine
  pub is_line : IsPointLine (point_of said) (joined line) text
  pub brings : BringsTooMany (of_receivers said) line
