use Rattle.symbol_reader.proofs.Steps.{next, stop, fail}
use Rattle.call_grammar.proofs.CodedParts.{categories_good}
use Rattle.call_grammar.proofs.FormParts as forms
use Rattle.call_grammar.proofs.forms.addressed_to_one.Goals as goal

pub returns-in_err-category : goal.returns-in_err-category
returns-in_err-category c = fail c.from_residual.ensures.1
    (stop categories_good (λ _ _ _. (forms.after_category_to_one_closes _ _).good) c.in_err-category.ensures)

pub returns : goal.returns
returns c =
    (next categories_good c.in_ok-category.ensures
    (c.after_category_to_one.ensures))
