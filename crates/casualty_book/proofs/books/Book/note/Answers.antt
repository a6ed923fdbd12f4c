use Rattle.std.specs.BTreeSet as sorted
use Rattle.std.proofs.Common.{sym, ap, subst, true, not, ◌∙◌}
use Rattle.casualty_book.specs.declared.packing.Packed.{Packed}
use Rattle.casualty_book.specs.inside.Packing.{pack, rows_of}
use Rattle.casualty_book.proofs.Keys.{keyed}
use Rattle.casualty_book.proofs.Kept.{kept_with, noted_rows, is_new_row}
use Rattle.casualty_book.proofs.Unions.{adds, with_row}
use Rattle.casualty_book.proofs.books.Book.note.Goals as goal

-- the set is that with the row's key
updated : (c : goal.In_ok-insert-in-Some) → sorted.Updates keyed c.self.inside.rows c.insert.new.self (pack c.in-Some.row) true
updated c = subst (λ (q : Packed). sorted.Updates keyed c.self.inside.rows c.insert.new.self q true) c.pack.ensures c.in_ok-insert-in-Some.ensures.updates

pub invariant_of-self-in-Some : goal.invariant_of-self-in-Some
invariant_of-self-in-Some c =
    kept_with c.self.inside.rows c.insert.new.self c.in-Some.row c.self.invariant c.in-Some.ensures.lawful (updated c) c.in_ok-insert-in-Some.ensures.ordered

pub returns-in_ok-insert-in-Some-clause-added : goal.returns-in_ok-insert-in-Some-clause-added
returns-in_ok-insert-in-Some-clause-added c =
    rw (← c.self.view_is)
    (adds c.in-Some.row _ (rows_of c.self.inside.rows.keys) c.in_ok-insert-in-Some.field-0 (sym c.in-Some.ensures.row)
    (is_new_row c.self.inside.rows c.in-Some.row c.in_ok-insert-in-Some.field-0 c.self.invariant c.in-Some.ensures.lawful
    (c.in_ok-insert-in-Some.ensures.added ∙ ap (λ (q : Packed). not (sorted.contains keyed c.self.inside.rows q)) c.pack.ensures)))

pub returns-in_ok-insert-in-Some-clause-rows : goal.returns-in_ok-insert-in-Some-clause-rows
returns-in_ok-insert-in-Some-clause-rows c =
    rw (← c.self.view_is)
    (with_row (rows_of c.self.inside.rows.keys) c.in-Some.row _ (rows_of c.insert.new.self.keys) (sym c.in-Some.ensures.row)
    (noted_rows c.self.inside.rows c.insert.new.self c.in-Some.row c.in-Some.ensures.lawful (updated c)))
