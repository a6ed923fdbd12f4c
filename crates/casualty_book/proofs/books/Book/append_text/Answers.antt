use Rattle.std.proofs.Common.{ℕ, ◌∙◌, List, ap, sym, subst}
use Rattle.casualty_book.specs.inside.Packing.{unpack, rows_of}
use Rattle.casualty_book.proofs.BookTexts.{IsLeft, all_left, appended, all_appended}
use Rattle.casualty_book.proofs.books.Book.append_text.Goals as goal

pub loop-key-init : goal.loop-key-init
loop-key-init c =
    let before = c.args.out.now.items in
    let iterator = c.into_iter-key-iterator.result in
    subst (λ (l : List ℕ). IsLeft c.args.self.now (rows_of iterator) before l) (sym c.reserve_exact.ensures.items)
    (all_left c.args.self.now (rows_of iterator) before (ap rows_of (c.into_iter-key-iterator.ensures.into_iter_gives ∙ c.iter-key-items.ensures.rest) ∙ c.self.view_is))

pub loop-key-preserved : goal.loop-key-preserved
loop-key-preserved c =
    appended c.args.self.now (rows_of c.loop-key.key-iterator) (rows_of c.next.new.self) (unpack c.in-Some.key.now) c.args.out.now.items c.loop-key.out.items c.append_row.new.out.items
    (ap rows_of c.in-Some.ensures.steps) c.loop-key.invariant
    c.in_ok-append_row.ensures

pub returns-clause-text : goal.returns-clause-text
returns-clause-text c =
    all_appended c.args.self.now (rows_of c.loop-key.key-iterator) c.args.out.now.items c.loop-key.out.items (ap rows_of c.in-None.ensures.steps.0) c.loop-key.invariant
