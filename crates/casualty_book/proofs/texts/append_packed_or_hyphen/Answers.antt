use Rattle.std.proofs.Common.{ℕ, List, ◌++◌, ◌∙◌, ap, sym}
use Rattle.casualty_book.specs.Texts.{digits_or_hyphen}
use Rattle.casualty_book.proofs.Numbers.{none_shown, some_shown}
use Rattle.casualty_book.proofs.texts.append_packed_or_hyphen.Goals as goal

pub returns-then-number-lt-FIRST_WEIGHT-clause-items : goal.returns-then-number-lt-FIRST_WEIGHT-clause-items
returns-then-number-lt-FIRST_WEIGHT-clause-items c =
    c.append.ensures.items
    ∙ ap (λ (l : List ℕ). c.args.out.now.items ++ digits_or_hyphen l) (sym (none_shown 16 c.args.number c.if-number-lt-FIRST_WEIGHT.true))

pub returns-else-number-lt-FIRST_WEIGHT-clause-items : goal.returns-else-number-lt-FIRST_WEIGHT-clause-items
returns-else-number-lt-FIRST_WEIGHT-clause-items c =
    c.append_packed.ensures.items
    ∙ ap (λ (l : List ℕ). c.args.out.now.items ++ l) (sym (some_shown 15 c.args.number c.if-number-lt-FIRST_WEIGHT.false))
