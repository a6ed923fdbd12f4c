-- where a casualty is, and what is found, taken out or replaced there
use Rattle.std.proofs.Common.{◌≡◌, ℕ, zero, suc, ◌+◌, ◌<◌, ◌≤◌, nat_lt, not, true, false, if◌then◌else◌, Option, Some, None, is_some, List, [], ◌∷◌, length, get_or, set, refl, sym, ◌∙◌, ap, arith}
use Rattle.std.proofs.lemmas.Bool.{cond-true, cond-false, ltb-false, eqb-true}
use Rattle.std.proofs.lemmas.List.Quantifiers.{position-Some}
use Rattle.std.specs.List.{position, position_or_len, prefix_len, remove}
use Rattle.std.proofs.lemmas.Option.{same_Some, none-some}
use Rattle.coast_station.specs.declared.casualties.OpenCasualty.{OpenCasualty}
use Rattle.coast_station.specs.Accepting.{is_of, find_casualty, is_due_at_once}
use Rattle.call_values.specs.declared.choices.Band.{Band}
use Rattle.coast_station.specs.inside.Afterwards.{after_accept_of}
use Rattle.coast_station.specs.inside.Left.{without, replaced}
use Rattle.coast_station.proofs.Births.{by_test}

-- what is at the first place of an identity, and what is there after a change
pub record AtPlace (m : ℕ) (xs : List OpenCasualty) (i : ℕ) (d y : OpenCasualty) : Type 0 where
  pub found : find_casualty m xs ≡ Some (get_or xs i d)
  pub taken : remove xs i ≡ without m xs
  pub put : set xs i y ≡ replaced m y xs

at_first : (m : ℕ) (xs : List OpenCasualty) (i : ℕ) (d y : OpenCasualty) → i < length xs → is_of m (get_or xs i d) ≡ true → ((k : ℕ) → k < i → is_of m (get_or xs k d) ≡ false)
    → AtPlace m xs i d y
at_first m [] i d y within here before = absurd (omega arith)
at_first m (x ∷ xs) zero d y within here before = record {
  found = cond-true (is_of m x) (Some x) (find_casualty m xs) here;
  taken = sym (cond-true (is_of m x) xs (x ∷ without m xs) here);
  put = sym (cond-true (is_of m x) (y ∷ xs) (x ∷ replaced m y xs) here);
}
at_first m (x ∷ xs) (suc i) d y within here before =
    let other : is_of m x ≡ false = before zero (omega arith) in
    let rest = at_first m xs i d y (omega arith) here (λ k lower. before (suc k) (omega arith)) in
    record {
      found = cond-false (is_of m x) (Some x) (find_casualty m xs) other ∙ rest.found;
      taken = ap (λ g. x ∷ g) rest.taken ∙ sym (cond-false (is_of m x) xs (x ∷ without m xs) other);
      put = ap (λ g. x ∷ g) rest.put ∙ sym (cond-false (is_of m x) (y ∷ xs) (x ∷ replaced m y xs) other);
    }

-- what the search for an identity finds is at that index, and is the first one
pub at_place : (m : ℕ) (xs : List OpenCasualty) (i : ℕ) (d y : OpenCasualty) → position (is_of m) xs ≡ Some i → AtPlace m xs i d y
at_place m xs i d y is = let first = position-Some (is_of m) xs i d is in at_first m xs i d y first.0 first.1 first.2

-- of an identity that is nowhere in the list
pub record Nowhere (m : ℕ) (xs : List OpenCasualty) : Type 0 where
  pub found : find_casualty m xs ≡ None
  pub taken : without m xs ≡ xs
  pub put : (y : OpenCasualty) → replaced m y xs ≡ xs

nowhere_by : (m : ℕ) (xs : List OpenCasualty) → length xs ≤ prefix_len (λ x. not (is_of m x)) xs → Nowhere m xs
nowhere_by m [] long = record { found = refl; taken = refl; put = λ y. refl }
nowhere_by m (x ∷ xs) long =
    by_test (is_of m x)
    (λ b. is_of m x ≡ b → suc (length xs) ≤ (if not b then 1 + prefix_len (λ z. not (is_of m z)) xs else 0) → Nowhere m (x ∷ xs))
    (λ _ _ short. absurd (omega arith))
    (λ _ other more.
    let rest = nowhere_by m xs (omega arith) in
    record {
      found = cond-false (is_of m x) (Some x) (find_casualty m xs) other ∙ rest.found;
      taken = cond-false (is_of m x) xs (x ∷ without m xs) other ∙ ap (λ g. x ∷ g) rest.taken;
      put = λ y. cond-false (is_of m x) (y ∷ xs) (x ∷ replaced m y xs) other ∙ ap (λ g. x ∷ g) (rest.put y);
    })
    refl long

-- where the search finds none, none has this identity
pub nowhere : (m : ℕ) (xs : List OpenCasualty) → position (is_of m) xs ≡ None → Nowhere m xs
nowhere m xs is =
    by_test (nat_lt (position_or_len (is_of m) xs) (length xs))
    (λ b. nat_lt (position_or_len (is_of m) xs) (length xs) ≡ b → (if b then Some (position_or_len (is_of m) xs) else None) ≡ None → Nowhere m xs)
    (λ _ _ some. absurd (none-some _ (sym some)))
    (λ _ past _. nowhere_by m xs (ltb-false (position_or_len (is_of m) xs) (length xs) past))
    refl is

-- what is found has the identity
pub find_named : (m : ℕ) (xs : List OpenCasualty) (x : OpenCasualty) → find_casualty m xs ≡ Some x → x.alert.mmsi ≡ m
find_named m [] x is = absurd (none-some _ is)
find_named m (y ∷ xs) x is =
    by_test (is_of m y) (λ b. is_of m y ≡ b → (if b then Some y else find_casualty m xs) ≡ Some x → x.alert.mmsi ≡ m)
    (λ _ here same. ap (λ (z : OpenCasualty). z.alert.mmsi) (sym (same_Some _ _ same)) ∙ eqb-true y.alert.mmsi m here)
    (λ _ _ there. find_named m xs x there) refl is

-- a casualty that is acknowledged as it is accepted is taken out
pub taken_at_once : (band : Band) (at k : ℕ) (delay : Option ℕ) (xs : List OpenCasualty) (x : OpenCasualty) → find_casualty k xs ≡ Some x → is_some x.delay ≡ false
    → is_due_at_once band at delay x ≡ true → without k xs ≡ after_accept_of band at delay (find_casualty k xs) xs
taken_at_once band at k delay xs x found new now =
    ap (λ (n : ℕ). without n xs) (sym (find_named k xs x found))
    ∙ sym (ap (λ (o : Option OpenCasualty). after_accept_of band at delay o xs) found
    ∙ ap (λ b. if b then xs else (if is_due_at_once band at delay x then without x.alert.mmsi xs else replaced x.alert.mmsi (record x { delay = delay }) xs)) new
    ∙ ap (λ b. if b then without x.alert.mmsi xs else replaced x.alert.mmsi (record x { delay = delay }) xs) now)
