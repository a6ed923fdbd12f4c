-- every list of lawful rows has a book
use Rattle.std.specs.Cmp.{IsTotalOrder}
use Rattle.std.proofs.Common.{arith, ◌≡◌, ◌↔◌, ◌⊎◌, List, [], ◌∷◌, refl, ◌∙◌, ap, subst, inl, inr}
use Rattle.std.specs.List.{All, AllByRecursion, Contains}
use Rattle.std.specs.List.Sorted.{IsStrictlySortedBy}
use Rattle.std.specs.Ordering.{ordering_reverse}
use Rattle.std.specs.declared.cmp.Ordering.{Ordering}
use Rattle.std.specs.declared.cmp.Ordering.TheVariants.{Less, Equal, Greater}
use Rattle.std.proofs.lemmas.List.Elements.{All-nil, All-head, All-tail, All-contains}
use Rattle.std.proofs.lemmas.Map.Keys.{sorted_tail}
use Rattle.std.proofs.lemmas.Map.Lookups.{CmpEqualImpliesEq}
use Rattle.casualty_book.specs.declared.rows.BookRow.{BookRow}
use Rattle.casualty_book.specs.Rows.{row_order, IsLawful}
use Rattle.casualty_book.specs.Books.{IsBook, HaveSameRows}
use Rattle.casualty_book.proofs.Orders.{rows_total, rows_exact}
use Rattle.casualty_book.proofs.Sets.{first, later, one_of, above}
use Rattle.casualty_book.proofs.Unions.{all_there}

-- what holds of each that is there holds of all
all_of : {K : Type 0} (P : K → Type 0) (xs : List K) → ((k : K) → Contains xs k → P k) → AllByRecursion P xs
all_of P [] h = tt
all_of P (x ∷ xs) h = (h x (first x xs), all_of P xs (λ k there. h k (later x xs k there)))

module _ {K : Type 0} {R : K → K → Ordering} (o : IsTotalOrder R) (exact : CmpEqualImpliesEq R) where
  -- a rising list with this key too
  record Put (k : K) (xs : List K) : Type 0 where
    more : List K
    rising : IsStrictlySortedBy R more
    holds : (q : K) → Contains more q ↔ (Contains xs q ⊎ (k ≡ q))

  in_front : (k : K) (xs : List K) (q : K) → Contains (k ∷ xs) q ↔ (Contains xs q ⊎ (k ≡ q))
  in_front k xs q = (
    λ here. elim (one_of k xs q here) [
      | inl same ↦ inr same
      | inr there ↦ inl there
    ],
    λ either. elim either [
      | inl there ↦ later k xs q there
      | inr same ↦ subst (λ (y : K). Contains (k ∷ xs) y) same (first k xs)
    ],
  )

  put_first : (k : K) → Put k []
  unfolding IsStrictlySortedBy
  put_first k = record { more = k ∷ []; rising = (tt, tt); holds = in_front k [] }

  put_below : (k x : K) (xs : List K) → IsStrictlySortedBy R (x ∷ xs) → R k x ≡ Less → Put k (x ∷ xs)
  unfolding IsStrictlySortedBy
  put_below k x xs rising less = record {
    more = k ∷ x ∷ xs;
    rising = (
      all_of (λ q. R k q ≡ Less) (x ∷ xs) (λ q there. elim (one_of x xs q there) [
        | inl same ↦ subst (λ (y : K). R k y ≡ Less) same less
        | inr behind ↦ o.trans k x q less (above o exact x xs q rising behind)
      ]),
      rising,
    );
    holds = in_front k (x ∷ xs);
  }

  put_same : (k x : K) (xs : List K) → IsStrictlySortedBy R (x ∷ xs) → k ≡ x → Put k (x ∷ xs)
  put_same k x xs rising same = grind arith

  put_behind : (k x : K) (xs : List K) → IsStrictlySortedBy R (x ∷ xs) → R x k ≡ Less → Put k xs → Put k (x ∷ xs)
  unfolding IsStrictlySortedBy
  put_behind k x xs rising less rest = record {
    more = x ∷ rest.more;
    rising = (
      all_of (λ q. R x q ≡ Less) rest.more (λ q there. elim ((rest.holds q).0 there) [
        | inl behind ↦ above o exact x xs q rising behind
        | inr same ↦ subst (λ (y : K). R x y ≡ Less) same less
      ]),
      rest.rising,
    );
    holds = λ q. (
      λ here. elim (one_of x rest.more q here) [
        | inl same ↦ inl (subst (λ (y : K). Contains (x ∷ xs) y) same (first x xs))
        | inr there ↦ elim ((rest.holds q).0 there) [
          | inl behind ↦ inl (later x xs q behind)
          | inr is ↦ inr is
        ]
      ],
      λ either. elim either [
        | inl here ↦ elim (one_of x xs q here) [
          | inl same ↦ subst (λ (y : K). Contains (x ∷ rest.more) y) same (first x rest.more)
          | inr behind ↦ later x rest.more q ((rest.holds q).1 (inl behind))
        ]
        | inr is ↦ later x rest.more q ((rest.holds q).1 (inr is))
      ],
    );
  }

  put_by : (k x : K) (xs : List K) (r : Ordering) → R k x ≡ r → IsStrictlySortedBy R (x ∷ xs) → Put k xs → Put k (x ∷ xs)
  put_by k x xs Less is rising rest = put_below k x xs rising is
  put_by k x xs Equal is rising rest = put_same k x xs rising (exact k x is)
  put_by k x xs Greater is rising rest = put_behind k x xs rising (o.antisymm x k ∙ ap ordering_reverse is) rest

  put : (k : K) (xs : List K) → IsStrictlySortedBy R xs → Put k xs
  put k [] rising = put_first k
  put k (x ∷ xs) rising = put_by k x xs (R k x) refl rising (put k xs (sorted_tail R x xs rising))

none_rise : IsStrictlySortedBy row_order []
unfolding IsStrictlySortedBy
none_rise = tt

pub rows_have_book : (rows : List BookRow) → All IsLawful rows → (book : List BookRow) × IsBook book × HaveSameRows book rows
rows_have_book [] all = ([], record { rising = none_rise; lawful = All-nil IsLawful }, λ r. (λ here. here, λ here. here))
rows_have_book (row ∷ rows) all =
    let rest = rows_have_book rows (All-tail IsLawful row rows all) in
    let more = put rows_total rows_exact row rest.0 rest.1.rising in (
      more.more,
      record {
        rising = more.rising;
        lawful = all_there IsLawful more.more (λ r here. elim ((more.holds r).0 here) [
          | inl before ↦ All-contains IsLawful rest.0 r rest.1.lawful before
          | inr same ↦ subst IsLawful same (All-head IsLawful row rows all)
        ]);
      },
      λ r. (
        λ here. elim ((more.holds r).0 here) [
          | inl before ↦ later row rows r ((rest.2 r).0 before)
          | inr same ↦ subst (λ (y : BookRow). Contains (row ∷ rows) y) same (first row rows)
        ],
        λ here. elim (one_of row rows r here) [
          | inl same ↦ (more.holds r).1 (inr same)
          | inr there ↦ (more.holds r).1 (inl ((rest.2 r).1 there))
        ],
      ),
    )
