use Rattle.casualty_book.proofs.texts.+append_packed.Given as goal

abbrev pub decreases-append_packed : goal.decreases-append_packed
decreases-append_packed l = l.slots
