use Rattle.symbol_reader.proofs.Steps.{next, stop, fail}
use Rattle.call_grammar.proofs.CodedParts.{telecommands_good}
use Rattle.call_grammar.proofs.FormParts as forms
use Rattle.call_grammar.proofs.individuals.individual.Goals as goal

pub returns-in_err-first : goal.returns-in_err-first
returns-in_err-first c = fail c.from_residual.ensures.1
    (stop telecommands_good (λ _ _ _. (forms.after_telecommand_closes _ _ _ _).good) c.in_err-first.ensures)

pub returns : goal.returns
returns c =
    (next telecommands_good c.in_ok-first.ensures
    (c.after_telecommand.ensures))
