use Rattle.input_lines.proofs.Bodies.{all_of_bytes}
use Rattle.input_lines.proofs.Choices.{elements_read, left_within, elements_column}
use Rattle.input_lines.proofs.streams.elements_line.Goals as goal

pub column-requires-clause-left : goal.column-requires-clause-left
column-requires-clause-left c = left_within _ _ _ c.requires c.in-Err.ensures.left

pub returns-in-Ok-clause-signs : goal.returns-in-Ok-clause-signs
returns-in-Ok-clause-signs c = all_of_bytes c.in-Ok.signs.now c.in-Ok.ensures.signs.1.1

pub returns-in-Ok-clause-line : goal.returns-in-Ok-clause-line
returns-in-Ok-clause-line c = let is = c.in-Ok.ensures.signs in elements_read _ _ _ c.requires is.0 is.1.0 is.1.1

pub returns-in-Err-clause-line : goal.returns-in-Err-clause-line
returns-in-Err-clause-line c = elements_column _ _ _ _ c.requires c.in-Err.ensures.left c.column.ensures
