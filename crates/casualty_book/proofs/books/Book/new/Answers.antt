use Rattle.casualty_book.proofs.Kept.{kept_empty}
use Rattle.casualty_book.proofs.books.Book.new.Goals as goal

pub invariant_of-result : goal.invariant_of-result
invariant_of-result c = kept_empty c.new.result.keys c.new.ensures.empty
