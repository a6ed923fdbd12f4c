use Rattle.casualty_book.specs.inside.Packing.{rows_of}
use Rattle.casualty_book.proofs.BookTexts.{IsLeft}
use Rattle.casualty_book.proofs.books.Book.append_text.Given as goal

abbrev pub invariant-loop-key : goal.invariant-loop-key
invariant-loop-key l = IsLeft l.fn.self (rows_of l.key-iterator) l.fn.out.items l.out.items
