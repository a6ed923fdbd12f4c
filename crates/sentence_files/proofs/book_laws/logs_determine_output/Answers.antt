use Rattle.sentence_files.proofs.OneBook.{book_determined}
use Rattle.sentence_files.proofs.book_laws.logs_determine_output.Goals as goal

pub returns : goal.returns
returns c = book_determined c.books_with_the_same_rows_are_one_list.ensures.list
