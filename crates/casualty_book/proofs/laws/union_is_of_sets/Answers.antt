use Rattle.casualty_book.proofs.Unions.{commutes, associates, with_itself}
use Rattle.casualty_book.proofs.laws.union_is_of_sets.Goals as goal

pub returns-clause-commutes : goal.returns-clause-commutes
returns-clause-commutes c = commutes

pub returns-clause-associates : goal.returns-clause-associates
returns-clause-associates c = associates

pub returns-clause-itself : goal.returns-clause-itself
returns-clause-itself c = with_itself
