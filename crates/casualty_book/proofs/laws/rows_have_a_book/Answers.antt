use Rattle.casualty_book.proofs.Insertions.{rows_have_book}
use Rattle.casualty_book.proofs.Lawful.{row_lawful}
use Rattle.casualty_book.proofs.laws.rows_have_a_book.Goals as goal

pub returns-clause-book : goal.returns-clause-book
returns-clause-book c = rows_have_book

pub returns-clause-lawful : goal.returns-clause-lawful
returns-clause-lawful c = row_lawful
