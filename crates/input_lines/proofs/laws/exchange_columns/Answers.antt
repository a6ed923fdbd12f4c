use Rattle.input_lines.proofs.Choices.{worlds_choice, others_column}
use Rattle.input_lines.proofs.laws.exchange_columns.Goals as goal

pub returns : goal.returns
returns c = λ point. others_column (worlds_choice point)
