use Rattle.casualty_book.proofs.Unions.{one_book}
use Rattle.casualty_book.proofs.laws.books_with_the_same_rows_are_one_list.Goals as goal

pub returns-clause-list : goal.returns-clause-list
returns-clause-list c = one_book
