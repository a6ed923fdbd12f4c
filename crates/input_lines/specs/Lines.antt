-- What is read of a line: this project's profile.
use Rattle.std.specs.Prelude.{◌≡◌, ℕ, ◌≤◌, Option, Some, None, ◌&&◌, ◌==◌, List, Result, Ok, Err}
use Rattle.std.specs.List.{list_any}
use Rattle.slot_evidence.specs.declared.places.Seen.{Seen}
use Rattle.slot_evidence.specs.Facts.{Facts}
use Rattle.slot_evidence.specs.Sheet.{IsEnds}
use Rattle.line_grammar.specs.Columns.{Spelling, IsColumn}
use Rattle.traffic_lines.specs.declared.lines.Point.{Point}
use Rattle.traffic_lines.specs.Lines.{IsTrafficLine}
use Rattle.input_lines.specs.declared.fault.LineFault.{LineFault}
use Rattle.input_lines.specs.declared.fault.LineFault.TheVariants as fault
use Rattle.input_lines.specs.declared.join.JoinLine.{JoinLine as Got}
use Rattle.input_lines.specs.declared.join.JoinLine.TheVariants as got
use Rattle.input_lines.specs.ReceiverLine.{ReceiverLine, nothing, reception, evidence, IsLine}
use Rattle.input_lines.specs.PointLine.{joined, IsPointLine}

-- the facts of evidence: each pair's place showed its symbol
abbrev pub facts_of_pairs : List (ℕ × ℕ) → Facts
facts_of_pairs pairs p v = list_any (λ pair. p == pair.0 && v == pair.1) pairs

-- what was read is what the line says, with the sheet of its facts in the place of pairs
abbrev pub Says : ReceiverLine → Got → Type 0
Says nothing read = read ≡ got.Nothing
Says (reception group e) read = read ≡ got.Reception group e
Says (evidence group pairs) read = (sheet : List Seen) × ((read ≡ got.Evidence group sheet) × IsEnds (facts_of_pairs pairs) sheet)

-- the answer for a line of these, which takes memory: what it says, or the column of bytes that are no such line; want
-- of memory may come at any line
abbrev pub ReadsWithRoom : {V W : Type 0} (L : Spelling V) (says : V → W → Type 0) → List ℕ → Result W LineFault → Type 0
ReadsWithRoom {V = V} L says text (Ok read) = (line : V) × (L line text × says line read)
ReadsWithRoom L says text (Err (fault.Column n)) = IsColumn L text n
ReadsWithRoom L says text (Err fault.NoMemory) = Unit {0}

-- the answer for a line of join's input
abbrev pub ReadsJoin : List ℕ → Result Got LineFault → Type 0
ReadsJoin text answer = ReadsWithRoom IsLine Says text answer

-- the answer for a line of join's input at this point of a traffic file; a line that is none has the column of the
-- station's lines at the point
abbrev pub ReadsJoinedAt : Point → List ℕ → Result (Option Got) LineFault → Type 0
ReadsJoinedAt point text (Ok (Some read)) = (line : ReceiverLine) × (IsPointLine point (joined line) text × Says line read)
ReadsJoinedAt point text (Ok None) = (n : ℕ) → 1 ≤ n → IsColumn (IsTrafficLine point) text n → IsColumn (IsPointLine point) text n
ReadsJoinedAt point text (Err (fault.Column n)) = IsColumn (IsPointLine point) text n
ReadsJoinedAt point text (Err fault.NoMemory) = Unit {0}
