use Rattle.sentence_files.proofs.OneBook.{one_text}
use Rattle.sentence_files.proofs.book_laws.accepted_sentences_determine_text.Goals as goal

pub returns : goal.returns
returns c = one_text c.books_with_the_same_rows_are_one_list.ensures.list
