-- Which bytes begin lines at a point of a traffic file.
use Rattle.std.specs.Prelude.{◌≡◌, ◌≢◌, ◌⊎◌, ℕ}
use Rattle.line_grammar.specs.Bytes.{number_sign, letter_e, letter_r}
use Rattle.traffic_lines.specs.declared.lines.Point.{Point}
use Rattle.input_lines.specs.PointLine.{IsBody}

-- no line of join's input begins with this byte at this point
abbrev pub IsStationsByte : Point → ℕ → Type 0
IsStationsByte point b = (b ≢ number_sign) × ((b ≡ letter_r) ⊎ (b ≡ letter_e) → IsBody point → ⊥)
