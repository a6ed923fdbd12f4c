-- what a book keeps after a row was put into it, and after a union
use Rattle.std.specs.BTreeSet as sorted
use Rattle.std.specs.BTreeSet.{BTreeSet}
use Rattle.std.specs.List.{All, Contains}
use Rattle.std.specs.List.Sorted.{IsStrictlySortedBy}
use Rattle.std.specs.Ordering.{is_eq, eq_by_cmp}
use Rattle.std.proofs.Common.{◌≡◌, ◌↔◌, ◌⊎◌, List, [], Bool, true, IsTrue, get_or, inl, inr, refl, sym, subst, ap, ◌∙◌, not}
use Rattle.std.proofs.lemmas.Cmp.{tied_itself}
use Rattle.std.proofs.lemmas.List.Elements.{All-contains, All-nil, All-map, Contains-get_or}
use Rattle.casualty_book.specs.declared.rows.BookRow.{BookRow}
use Rattle.casualty_book.specs.declared.packing.Packed.{Packed}
use Rattle.casualty_book.specs.Rows.{IsLawful}
use Rattle.casualty_book.specs.Books.{IsUnion}
use Rattle.casualty_book.specs.inside.Packing.{pack, unpack, rows_of, IsPacked, IsKept}
use Rattle.casualty_book.proofs.Keys.{keyed, keyed_total, keyed_exact, again, is_packed, all_rise, row_there, key_there}
use Rattle.casualty_book.proofs.Sets.{noted, is_new, united}

all_keys : (keys : List Packed) → ((k : Packed) → Contains keys k → IsPacked k) → All IsPacked keys
all_keys keys h k d small = h (get_or keys k d) (Contains-get_or keys k d small)

-- rising keys of lawful rows are a book's
kept : (keys : List Packed) → IsStrictlySortedBy keyed keys → All IsPacked keys → IsKept keys
kept keys rising packed = record {
  book = record {
    rising = all_rise keys packed rising;
    lawful = All-map IsLawful unpack keys (λ k d small. (packed k d small).lawful);
  };
  packed = packed;
}

none_kept : IsKept []
unfolding IsStrictlySortedBy
none_kept = kept [] tt (All-nil IsPacked)

-- a book without keys
pub kept_empty : (keys : List Packed) → keys ≡ [] → IsKept keys
kept_empty keys e = subst IsKept (sym e) none_kept

-- a key is there where its row is
pub has_row : (keys : List Packed) (row : BookRow) → All IsPacked keys → IsLawful row → Contains (rows_of keys) row ↔ Contains keys (pack row)
has_row keys row packed lawful = (
  λ here.
      let k = key_there keys row here in
      subst (λ (q : Packed). Contains keys q) (sym (All-contains IsPacked keys k.0 packed k.1).same ∙ ap pack k.2) k.1,
  λ here. subst (λ (r : BookRow). Contains (rows_of keys) r) (again row lawful) (row_there keys (pack row) here),
)

-- a row that is put into a set is there, and so are the others
pub noted_rows : (s n : BTreeSet Packed) (row : BookRow) → IsLawful row → sorted.Updates keyed s n (pack row) true
    → (r : BookRow) → Contains (rows_of n.keys) r ↔ (Contains (rows_of s.keys) r ⊎ (row ≡ r))
noted_rows s n row lawful u r = (
  λ here.
      let k = key_there n.keys r here in
      elim ((noted keyed_total keyed_exact s n (pack row) u k.0).0 k.1) [
        | inl old ↦ inl (subst (λ (q : BookRow). Contains (rows_of s.keys) q) k.2 (row_there s.keys k.0 old))
        | inr same ↦ inr (sym (again row lawful) ∙ ap unpack same ∙ k.2)
      ],
  λ either. elim either [
    | inl old ↦
        let k = key_there s.keys r old in
        subst (λ (q : BookRow). Contains (rows_of n.keys) q) k.2 (row_there n.keys k.0 ((noted keyed_total keyed_exact s n (pack row) u k.0).1 (inl k.1)))
    | inr same ↦
        subst (λ (q : BookRow). Contains (rows_of n.keys) q) (again row lawful ∙ same)
        (row_there n.keys (pack row) ((noted keyed_total keyed_exact s n (pack row) u (pack row)).1 (inr refl)))
  ],
)

pub kept_with : (s n : BTreeSet Packed) (row : BookRow) → IsKept s.keys → IsLawful row → sorted.Updates keyed s n (pack row) true → sorted.IsOrdered keyed n → IsKept n.keys
kept_with s n row h lawful u ordered = kept n.keys ordered (all_keys n.keys (λ k here.
    elim ((noted keyed_total keyed_exact s n (pack row) u k).0 here) [
      | inl old ↦ All-contains IsPacked s.keys k h.packed old
      | inr same ↦ subst IsPacked same (is_packed row lawful)
    ]))

-- an insertion answers whether the row is new
pub is_new_row : (s : BTreeSet Packed) (row : BookRow) (added : Bool) → IsKept s.keys → IsLawful row → added ≡ not (sorted.contains keyed s (pack row))
    → IsTrue added ↔ (Contains (rows_of s.keys) row → ⊥)
is_new_row s row added h lawful e =
    let new = is_new keyed_total keyed_exact s (pack row) added e in
    let there = has_row s.keys row h.packed lawful in
    (λ yes here. new.0 yes (there.0 here), λ none. new.1 (λ here. none (there.1 here)))

is_equal : (x y : Packed) → y ≡ x → IsTrue (eq_by_cmp keyed x y)
is_equal x y e = subst (λ (z : Packed). is_eq (keyed x z) ≡ true) (sym e) (ap is_eq (tied_itself keyed_total x))

-- a set of clones of a union has the keys of both
abbrev pub IsMerged : BTreeSet Packed → BTreeSet Packed → BTreeSet Packed → Type 0
IsMerged s t n = sorted.HoldsClonesOf keyed (λ key copy. copy ≡ key) (sorted.IsUnion keyed s t) (sorted.union keyed s t) n

merged_keys : (s t n : BTreeSet Packed) → IsMerged s t n → (k : Packed) → Contains n.keys k ↔ (Contains s.keys k ⊎ Contains t.keys k)
merged_keys s t n h = united keyed_total keyed_exact s.keys t.keys n.keys (h.4 is_equal)

pub merged : (s t n : BTreeSet Packed) → IsMerged s t n → IsUnion (rows_of s.keys) (rows_of t.keys) (rows_of n.keys)
merged s t n h r = (
  λ here.
      let k = key_there n.keys r here in
      elim ((merged_keys s t n h k.0).0 k.1) [
        | inl left ↦ inl (subst (λ (q : BookRow). Contains (rows_of s.keys) q) k.2 (row_there s.keys k.0 left))
        | inr right ↦ inr (subst (λ (q : BookRow). Contains (rows_of t.keys) q) k.2 (row_there t.keys k.0 right))
      ],
  λ either. elim either [
    | inl left ↦
        let k = key_there s.keys r left in
        subst (λ (q : BookRow). Contains (rows_of n.keys) q) k.2 (row_there n.keys k.0 ((merged_keys s t n h k.0).1 (inl k.1)))
    | inr right ↦
        let k = key_there t.keys r right in
        subst (λ (q : BookRow). Contains (rows_of n.keys) q) k.2 (row_there n.keys k.0 ((merged_keys s t n h k.0).1 (inr k.1)))
  ],
)

pub kept_merged : (s t n : BTreeSet Packed) → IsKept s.keys → IsKept t.keys → IsMerged s t n → IsKept n.keys
kept_merged s t n hs ht h = kept n.keys h.3.1 (all_keys n.keys (λ k here.
    elim ((merged_keys s t n h k).0 here) [
      | inl left ↦ All-contains IsPacked s.keys k hs.packed left
      | inr right ↦ All-contains IsPacked t.keys k ht.packed right
    ]))
