-- the keys of rows, and their order
use Rattle.std.specs.Cmp.{IsTotalOrder}
use Rattle.std.specs.List.{All, AllByRecursion, Contains}
use Rattle.std.specs.List.Sorted.{IsStrictlySortedBy}
use Rattle.std.specs.Option.{option_cmp}
use Rattle.std.specs.Ordering.{nat_cmp, ordering_then}
use Rattle.std.specs.declared.cmp.Ordering.{Ordering}
use Rattle.std.specs.declared.cmp.Ordering.TheVariants.{Less}
use Rattle.std.proofs.Common.{◌≡◌, ◌≤◌, ℕ, Option, List, [], ◌∷◌, map, length, arith, refl, ap, sym, subst, ◌∙◌, inl, inr}
use Rattle.std.proofs.lemmas.List.Elements.{All-head, All-tail}
use Rattle.std.proofs.lemmas.Map.Lookups.{CmpEqualImpliesEq, exact_unsigned}
use Rattle.plain_laws.proofs.Lists.{holds_none}
use Rattle.sentence_frame.specs.Texts.{IsDigits}
use Rattle.casualty_book.specs.declared.rows.BookRow.{BookRow}
use Rattle.casualty_book.specs.declared.packing.Packed.{Packed}
use Rattle.casualty_book.specs.contracts.packing.PackedOrd.TheImpl as ord
use Rattle.casualty_book.specs.contracts.packing.PackedOrd.TheImpl.Laws as laws
use Rattle.casualty_book.specs.Rows.{row_order, rank, IsLawful}
use Rattle.casualty_book.specs.inside.Packing.{code, told, key_order, pack, unpack, IsPacked}
use Rattle.casualty_book.proofs.Numbers.{numbers_order, digits_again}
use Rattle.casualty_book.proofs.Orders.{both_equal, exact_rank}
use Rattle.casualty_book.proofs.Sets.{first, later, one_of}

-- the order that is derived of keys
abbrev pub keyed : Packed → Packed → Ordering
keyed = ord.cmp-value.it

same_order : (a b : Packed) → keyed a b ≡ key_order a b
same_order a b = refl

pub keyed_total : IsTotalOrder keyed
keyed_total = laws.total-law

exact : CmpEqualImpliesEq key_order
exact a b h =
    let one = both_equal (nat_cmp a.casualty b.casualty) _ h in
    let two = both_equal (nat_cmp (rank a.kind) (rank b.kind)) _ one.1 in
    let three = both_equal (nat_cmp a.from b.from) _ two.1 in
    let four = both_equal (nat_cmp a.nature b.nature) _ three.1 in
    let five = both_equal (nat_cmp a.place b.place) _ four.1 in
    let six = both_equal (nat_cmp a.time b.time) _ five.1 in
    let casualty = exact_unsigned a.casualty b.casualty one.0 in
    let kind = exact_rank a.kind b.kind two.0 in
    let from = exact_unsigned a.from b.from three.0 in
    let nature = exact_unsigned a.nature b.nature four.0 in
    let place = exact_unsigned a.place b.place five.0 in
    let time = exact_unsigned a.time b.time six.0 in
    let second = exact_unsigned a.second b.second six.1 in
    λ i. record {
      casualty = casualty i;
      kind = kind i;
      from = from i;
      nature = nature i;
      place = place i;
      time = time i;
      second = second i;
    }

pub keyed_exact : CmpEqualImpliesEq keyed
keyed_exact a b h = exact a b (sym (same_order a b) ∙ h)

-- codes are ordered like what they stand for
codes_order : (a b : Option ℕ) → nat_cmp (code a) (code b) ≡ option_cmp nat_cmp a b
codes_order a b = grind arith

ten_are_few : (ds : List ℕ) → IsDigits 10 ds → length ds ≤ 16
ten_are_few ds h = let e = h.long in omega (arith, e)

-- keys are ordered like their rows
packs_order : (a b : BookRow) → IsLawful a → IsLawful b → key_order (pack a) (pack b) ≡ row_order a b
packs_order a b ha hb =
    let casualty = numbers_order a.casualty b.casualty (ten_are_few _ ha.casualty) (ten_are_few _ hb.casualty) ha.casualty.digits hb.casualty.digits in
    let from = numbers_order a.from b.from (ten_are_few _ ha.from) (ten_are_few _ hb.from) ha.from.digits hb.from.digits in
    let nature = codes_order a.nature b.nature in
    let place = numbers_order a.place.items b.place.items ha.place.long hb.place.long ha.place.digits hb.place.digits in
    let time = codes_order a.time b.time in
    let second = codes_order a.second b.second in
    λ i.
    ordering_then (casualty i)
    (ordering_then (nat_cmp (rank a.kind) (rank b.kind))
    (ordering_then (from i)
    (ordering_then (nature i)
    (ordering_then (place i)
    (ordering_then (time i) (second i))))))

told_again : (o : Option ℕ) → told (code o) ≡ o
told_again o = grind arith

-- the row of a row's key is the row
pub again : (row : BookRow) → IsLawful row → unpack (pack row) ≡ row
again row h =
    let casualty = digits_again row.casualty (ten_are_few _ h.casualty) h.casualty.digits in
    let from = digits_again row.from (ten_are_few _ h.from) h.from.digits in
    let nature = told_again row.nature in
    let place = digits_again row.place.items h.place.long h.place.digits in
    let time = told_again row.time in
    let second = told_again row.second in
    λ i. record {
      casualty = casualty i;
      kind = row.kind;
      from = from i;
      nature = nature i;
      place = record { items = place i };
      time = time i;
      second = second i;
    }

pub is_packed : (row : BookRow) → IsLawful row → IsPacked (pack row)
is_packed row h = record {
  lawful = subst IsLawful (sym (again row h)) h;
  same = ap pack (again row h);
}

rows_rise : (x y : Packed) → IsPacked x → IsPacked y → keyed x y ≡ Less → row_order (unpack x) (unpack y) ≡ Less
rows_rise x y hx hy h =
    sym (packs_order (unpack x) (unpack y) hx.lawful hy.lawful)
    ∙ ap (λ (q : Packed). key_order q (pack (unpack y))) hx.same
    ∙ ap (λ (q : Packed). key_order x q) hy.same
    ∙ sym (same_order x y) ∙ h

all_above : (x : Packed) (keys : List Packed) → IsPacked x → All IsPacked keys → AllByRecursion (λ y. keyed x y ≡ Less) keys
    → AllByRecursion (λ r. row_order (unpack x) r ≡ Less) (map unpack keys)
all_above x [] hx hs h = h
all_above x (y ∷ ys) hx hs h = (rows_rise x y hx (All-head IsPacked y ys hs) h.0, all_above x ys hx (All-tail IsPacked y ys hs) h.1)

-- the rows of rising keys rise
pub all_rise : (keys : List Packed) → All IsPacked keys → IsStrictlySortedBy keyed keys → IsStrictlySortedBy row_order (map unpack keys)
unfolding IsStrictlySortedBy
all_rise [] hs h = h
all_rise (x ∷ xs) hs h =
    let others = All-tail IsPacked x xs hs in
    (all_above x xs (All-head IsPacked x xs hs) others h.0, all_rise xs others h.1)

-- which rows are there
pub row_there : (keys : List Packed) (key : Packed) → Contains keys key → Contains (map unpack keys) (unpack key)
row_there [] key h = absurd (holds_none key h)
row_there (x ∷ xs) key h =
    elim (one_of x xs key h) [
      | inl same ↦ subst (λ (q : Packed). Contains (map unpack (x ∷ xs)) (unpack q)) same (first (unpack x) (map unpack xs))
      | inr there ↦ later (unpack x) (map unpack xs) (unpack key) (row_there xs key there)
    ]

pub key_there : (keys : List Packed) (row : BookRow) → Contains (map unpack keys) row → (key : Packed) × Contains keys key × (unpack key ≡ row)
key_there [] row h = absurd (holds_none row h)
key_there (x ∷ xs) row h =
    elim (one_of (unpack x) (map unpack xs) row h) [
      | inl same ↦ (x, first x xs, same)
      | inr there ↦ let k = key_there xs row there in (k.0, later x xs k.0 k.1, k.2)
    ]
