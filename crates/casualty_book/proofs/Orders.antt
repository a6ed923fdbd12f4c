-- the order of rows
use Rattle.std.specs.Cmp.{IsTotalOrder}
use Rattle.std.proofs.Common.{arith, subst, rules}
use Rattle.std.specs.Cmp.Lexicographic.{slice_cmp}
use Rattle.std.specs.Ordering.{nat_cmp, ordering_then}
use Rattle.std.specs.declared.cmp.Ordering.{Ordering}
use Rattle.std.specs.declared.cmp.Ordering.TheVariants.{Equal}
use Rattle.std.specs.Option.{option_cmp}
use Rattle.std.specs.Prelude.{◌≡◌, ℕ, Option}
use Rattle.std.proofs.lemmas.Map.Lookups.{CmpEqualImpliesEq, exact_bytes}
use Rattle.casualty_book.specs.declared.rows.BookKind.{BookKind}
use Rattle.casualty_book.specs.declared.rows.BookRow.{BookRow}
use Rattle.casualty_book.specs.Rows.{row_order, rank}
use Rattle.casualty_book.specs.contracts.rows.BookRowOrd.TheImpl as ord
use Rattle.casualty_book.specs.contracts.rows.BookRowOrd.TheImpl.Laws as laws

-- two orders, one after the other, distinguish what either does
pub both_equal : (x y : Ordering) → ordering_then x y ≡ Equal → (x ≡ Equal) × (y ≡ Equal)
both_equal x y h = grind arith

pub exact_rank : (a b : BookKind) → nat_cmp (rank a) (rank b) ≡ Equal → a ≡ b
exact_rank a b h = grind arith

exact_option : (a b : Option ℕ) → option_cmp nat_cmp a b ≡ Equal → a ≡ b
exact_option a b h = grind arith

pub rows_exact : CmpEqualImpliesEq row_order
rows_exact a b h =
    let one = both_equal (slice_cmp nat_cmp a.casualty b.casualty) _ h in
    let two = both_equal (nat_cmp (rank a.kind) (rank b.kind)) _ one.1 in
    let three = both_equal (slice_cmp nat_cmp a.from b.from) _ two.1 in
    let four = both_equal (option_cmp nat_cmp a.nature b.nature) _ three.1 in
    let five = both_equal (slice_cmp nat_cmp a.place.items b.place.items) _ four.1 in
    let six = both_equal (option_cmp nat_cmp a.time b.time) _ five.1 in
    let casualty = exact_bytes a.casualty b.casualty one.0 in
    let kind = exact_rank a.kind b.kind two.0 in
    let from = exact_bytes a.from b.from three.0 in
    let nature = exact_option a.nature b.nature four.0 in
    let place = exact_bytes a.place.items b.place.items five.0 in
    let time = exact_option a.time b.time six.0 in
    let second = exact_option a.second b.second six.1 in
    λ i. record {
      casualty = casualty i;
      kind = kind i;
      from = from i;
      nature = nature i;
      place = record { items = place i };
      time = time i;
      second = second i;
    }

-- the order that is derived of rows
abbrev pub compared : BookRow → BookRow → Ordering
compared = ord.cmp-value.it

same_order : (a b : BookRow) → compared a b ≡ row_order a b
same_order = search rules

pub orders_are : compared ≡ row_order
orders_are = λ i a b. same_order a b i

pub compared_total : IsTotalOrder compared
compared_total = laws.total-law

pub rows_total : IsTotalOrder row_order
rows_total = subst (λ (R : BookRow → BookRow → Ordering). IsTotalOrder R) orders_are compared_total
