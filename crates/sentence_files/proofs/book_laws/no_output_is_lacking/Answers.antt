use Rattle.line_engine.proofs.PublicLaws.{lacks_no_output}
use Rattle.sentence_files.specs.Booking.{book_meaning}
use Rattle.sentence_files.proofs.BooksNotLacking.{book_never_stuck}
use Rattle.sentence_files.proofs.book_laws.no_output_is_lacking.Goals as goal

pub returns : goal.returns
returns c =
    lacks_no_output book_meaning (book_never_stuck (record {
      book = c.rows_have_a_book.ensures.book;
      lawful = c.rows_have_a_book.ensures.lawful;
      one = c.texts_tell_sentences_apart.ensures.dsc;
    }))
