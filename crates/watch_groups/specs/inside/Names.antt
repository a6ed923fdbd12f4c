-- What a line names. This project's own form.
use Rattle.std.specs.Prelude.{◌≡◌, ℕ, List}
use Rattle.ten_unit.specs.declared.character.Element.{Element}
use Rattle.input_lines.specs.ReceiverLine.{ReceiverLine, nothing, reception, evidence}
use Rattle.watch_groups.specs.declared.command.Naming.{Naming}
use Rattle.watch_groups.specs.declared.command.Naming.TheVariants as named

-- the line says nothing, or is evidence or a reception of this group
abbrev pub Names : ReceiverLine → Naming → Type 0
Names line named.Nothing = line ≡ nothing
Names line (named.Evidence group) = (pairs : List (ℕ × ℕ)) × (line ≡ evidence group pairs)
Names line (named.Reception group) = (e : List Element) × (line ≡ reception group e)
