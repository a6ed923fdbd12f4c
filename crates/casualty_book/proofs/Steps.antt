-- comparisons one after another
use Rattle.std.proofs.Common.{◌≡◌, arith}
use Rattle.std.specs.Ordering.{ordering_then, nat_cmp}
use Rattle.std.specs.declared.cmp.Ordering.{Ordering}
use Rattle.casualty_book.specs.declared.rows.BookKind.{BookKind}
use Rattle.casualty_book.specs.contracts.rows.BookKindOrd.TheImpl as kinds
use Rattle.casualty_book.specs.Rows.{rank}

pub six : (a b c d e f : Ordering) → ordering_then (ordering_then (ordering_then (ordering_then (ordering_then a b) c) d) e) f
    ≡ ordering_then a (ordering_then b (ordering_then c (ordering_then d (ordering_then e f))))
six a b c d e f = grind arith

-- the order that is derived of kinds
abbrev pub kinded : BookKind → BookKind → Ordering
kinded = kinds.cmp-value.it

pub kinds_order : (a b : BookKind) → kinded a b ≡ nat_cmp (rank a) (rank b)
kinds_order a b = grind arith
