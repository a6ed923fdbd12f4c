use Rattle.casualty_book.proofs.Kept.{merged, kept_merged}
use Rattle.casualty_book.proofs.books.Book.merge.Goals as goal

pub invariant_of-self : goal.invariant_of-self
invariant_of-self c = kept_merged c.self.inside.rows c.other.inside.rows c.in_ok-self-inside.field-0 c.self.invariant c.other.invariant c.in_ok-self-inside.ensures

pub returns-clause-rows : goal.returns-clause-rows
returns-clause-rows c =
    rw (← c.self.view_is)
    (rw (← c.other.view_is)
    (merged c.self.inside.rows c.other.inside.rows c.in_ok-self-inside.field-0 c.in_ok-self-inside.ensures))
