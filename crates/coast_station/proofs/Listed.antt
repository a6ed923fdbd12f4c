-- open casualties as the list of those of some identities
use Rattle.std.proofs.Common.{◌≡◌, ℕ, ◌==◌, ◌||◌, not, Bool, true, false, if◌then◌else◌, Option, Some, None, List, [], ◌∷◌, ◌++◌, refl, sym, ◌∙◌, ap, subst}
use Rattle.std.proofs.lemmas.Bool.{or_parts, eqb-true, eq-eqb, cond-true, cond-false}
use Rattle.std.specs.List.{filter, flat_map}
use Rattle.std.specs.Option.{option_to_list}
use Rattle.coast_station.specs.declared.casualties.OpenCasualty.{OpenCasualty}
use Rattle.coast_station.specs.Accepting.{is_of, is_due, find_casualty}
use Rattle.coast_station.specs.inside.Left.{without, replaced, not_due}
use Rattle.coast_station.proofs.Births.{by_test}
use Rattle.coast_station.proofs.Identities.{is_among, AreApart}

abbrev none_open : Option OpenCasualty
none_open = None

either_none : (b : Bool) → (if b then none_open else none_open) ≡ none_open
either_none true = refl
either_none false = refl

-- the open casualties of these identities, each where there is one
abbrev pub listed_of : (ℕ → Option OpenCasualty) → List ℕ → List OpenCasualty
listed_of told ms = flat_map (λ (m : ℕ). option_to_list (told m)) ms

-- each has the identity under which it is open
abbrev pub AreNamed : (ℕ → Option OpenCasualty) → Type 0
AreNamed told = (m : ℕ) (x : OpenCasualty) → told m ≡ Some x → x.alert.mmsi ≡ m

module _ (told : ℕ → Option OpenCasualty) where
  pub listed_more : (m : ℕ) (ms : List ℕ) (o : Option OpenCasualty) → told m ≡ o → listed_of told (m ∷ ms) ≡ option_to_list o ++ listed_of told ms
  listed_more m ms o is = ap (λ (p : Option OpenCasualty). option_to_list p ++ listed_of told ms) is

  find_by : (k m : ℕ) (ms : List ℕ) (o : Option OpenCasualty) → AreNamed told → told m ≡ o
      → find_casualty k (listed_of told ms) ≡ (if is_among k ms then told k else None)
      → find_casualty k (option_to_list o ++ listed_of told ms) ≡ (if (m == k) || is_among k ms then told k else None)
  find_by k m ms None named is rest =
      by_test (m == k) (λ b. (m == k) ≡ b → find_casualty k (listed_of told ms) ≡ (if b || is_among k ms then told k else None))
      (λ _ same.
      let none : told k ≡ None = ap told (sym (eqb-true m k same)) ∙ is in
      rest ∙ ap (λ (o : Option OpenCasualty). if is_among k ms then o else None) none ∙ either_none (is_among k ms) ∙ sym none)
      (λ _ _. rest) refl
  find_by k m ms (Some x) named is rest =
      ap (λ (n : ℕ). if n == k then Some x else find_casualty k (listed_of told ms)) (named m x is)
      ∙ by_test (m == k) (λ b. (m == k) ≡ b → (if b then Some x else find_casualty k (listed_of told ms)) ≡ (if b || is_among k ms then told k else None))
      (λ _ same. sym is ∙ ap told (eqb-true m k same)) (λ _ _. rest) refl

  pub find_listed : (k : ℕ) (ms : List ℕ) → AreNamed told → find_casualty k (listed_of told ms) ≡ (if is_among k ms then told k else None)
  find_listed k [] named = refl
  find_listed k (m ∷ ms) named = find_by k m ms (told m) named refl (find_listed k ms named)

-- of other casualties the same are listed
module _ (old new : ℕ → Option OpenCasualty) where
  pub same_listed : (ms : List ℕ) → ((m : ℕ) → new m ≡ old m) → listed_of new ms ≡ listed_of old ms
  same_listed [] same = refl
  same_listed (m ∷ ms) same = listed_more new m ms (old m) (same m) ∙ ap (λ xs. option_to_list (old m) ++ xs) (same_listed ms same)

  pub others_listed : (k : ℕ) (ms : List ℕ) → is_among k ms ≡ false → ((m : ℕ) → (m == k) ≡ false → new m ≡ old m) → listed_of new ms ≡ listed_of old ms
  others_listed k [] none same = refl
  others_listed k (m ∷ ms) none same =
      let parts = or_parts (m == k) (is_among k ms) none in
      listed_more new m ms (old m) (same m parts.0) ∙ ap (λ xs. option_to_list (old m) ++ xs) (others_listed k ms parts.1 same)

  -- one is changed
  skip_replaced : (k m : ℕ) (y : OpenCasualty) (o : Option OpenCasualty) (rest : List OpenCasualty) → (m == k) ≡ false → ((x : OpenCasualty) → o ≡ Some x → x.alert.mmsi ≡ m)
      → option_to_list o ++ replaced k y rest ≡ replaced k y (option_to_list o ++ rest)
  skip_replaced k m y None rest other named = refl
  skip_replaced k m y (Some x) rest other named =
      sym (cond-false (is_of k x) (y ∷ rest) (x ∷ replaced k y rest) (ap (λ (n : ℕ). n == k) (named x refl) ∙ other))

  pub one_replaced : (k : ℕ) (x y : OpenCasualty) (ms : List ℕ) → AreApart ms → AreNamed old → ((m : ℕ) → (m == k) ≡ false → new m ≡ old m)
      → old k ≡ Some x → new k ≡ Some y → listed_of new ms ≡ replaced k y (listed_of old ms)
  one_replaced k x y [] apart named same was is = refl
  one_replaced k x y (m ∷ ms) apart named same was is =
      by_test (m == k) (λ b. (m == k) ≡ b → listed_of new (m ∷ ms) ≡ replaced k y (listed_of old (m ∷ ms)))
      (λ _ here.
      let equal = eqb-true m k here in
      let alone : is_among k ms ≡ false = subst (λ (n : ℕ). is_among n ms ≡ false) equal apart.0 in
      let named_k : is_of k x ≡ true = eq-eqb x.alert.mmsi k (named k x was) in
      listed_more new m ms (Some y) (ap new equal ∙ is) ∙ ap (λ xs. y ∷ xs) (others_listed k ms alone same)
      ∙ sym (ap (replaced k y) (listed_more old m ms (Some x) (ap old equal ∙ was)) ∙ cond-true (is_of k x) (y ∷ listed_of old ms) (x ∷ replaced k y (listed_of old ms)) named_k))
      (λ _ other.
      listed_more new m ms (old m) (same m other) ∙ ap (λ xs. option_to_list (old m) ++ xs) (one_replaced k x y ms apart.1 named same was is)
      ∙ skip_replaced k m y (old m) (listed_of old ms) other (λ (z : OpenCasualty) e. named m z e))
      refl

  -- one is taken out
  skip_without : (k m : ℕ) (o : Option OpenCasualty) (rest : List OpenCasualty) → (m == k) ≡ false → ((x : OpenCasualty) → o ≡ Some x → x.alert.mmsi ≡ m)
      → option_to_list o ++ without k rest ≡ without k (option_to_list o ++ rest)
  skip_without k m None rest other named = refl
  skip_without k m (Some x) rest other named =
      sym (cond-false (is_of k x) rest (x ∷ without k rest) (ap (λ (n : ℕ). n == k) (named x refl) ∙ other))

  keeps_all : (keeps : ℕ → Bool) (k : ℕ) (ms : List ℕ) → is_among k ms ≡ false → ((m : ℕ) → (m == k) ≡ false → keeps m ≡ true) → filter keeps ms ≡ ms
  keeps_all keeps k [] none others = refl
  keeps_all keeps k (m ∷ ms) none others =
      let parts = or_parts (m == k) (is_among k ms) none in
      cond-true (keeps m) (m ∷ filter keeps ms) (filter keeps ms) (others m parts.0) ∙ ap (λ xs. m ∷ xs) (keeps_all keeps k ms parts.1 others)

  pub one_without : (keeps : ℕ → Bool) (k : ℕ) (x : OpenCasualty) (ms : List ℕ) → AreApart ms → AreNamed old → ((m : ℕ) → (m == k) ≡ false → new m ≡ old m)
      → old k ≡ Some x → keeps k ≡ false → ((m : ℕ) → (m == k) ≡ false → keeps m ≡ true) → listed_of new (filter keeps ms) ≡ without k (listed_of old ms)
  one_without keeps k x [] apart named same was out others = refl
  one_without keeps k x (m ∷ ms) apart named same was out others =
      by_test (m == k) (λ b. (m == k) ≡ b → listed_of new (filter keeps (m ∷ ms)) ≡ without k (listed_of old (m ∷ ms)))
      (λ _ here.
      let equal = eqb-true m k here in
      let alone : is_among k ms ≡ false = subst (λ (n : ℕ). is_among n ms ≡ false) equal apart.0 in
      let named_k : is_of k x ≡ true = eq-eqb x.alert.mmsi k (named k x was) in
      ap (listed_of new) (cond-false (keeps m) (m ∷ filter keeps ms) (filter keeps ms) (ap keeps equal ∙ out) ∙ keeps_all keeps k ms alone others)
      ∙ others_listed k ms alone same
      ∙ sym (ap (without k) (listed_more old m ms (Some x) (ap old equal ∙ was)) ∙ cond-true (is_of k x) (listed_of old ms) (x ∷ without k (listed_of old ms)) named_k))
      (λ _ other.
      ap (listed_of new) (cond-true (keeps m) (m ∷ filter keeps ms) (filter keeps ms) (others m other))
      ∙ listed_more new m (filter keeps ms) (old m) (same m other) ∙ ap (λ xs. option_to_list (old m) ++ xs) (one_without keeps k x ms apart.1 named same was out others)
      ∙ skip_without k m (old m) (listed_of old ms) other (λ (z : OpenCasualty) e. named m z e))
      refl

  -- those that are due are taken out
  left_by : (at : ℕ) (keeps : ℕ → Bool) (m : ℕ) (ms : List ℕ) (o : Option OpenCasualty) → old m ≡ o
      → ((x : OpenCasualty) → o ≡ Some x → keeps m ≡ not (is_due at x)) → (keeps m ≡ true → new m ≡ o) → listed_of new (filter keeps ms) ≡ not_due at (listed_of old ms)
      → listed_of new (if keeps m then m ∷ filter keeps ms else filter keeps ms) ≡ not_due at (option_to_list o ++ listed_of old ms)
  left_by at keeps m ms None was kept same rest =
      by_test (keeps m) (λ b. keeps m ≡ b → listed_of new (if b then m ∷ filter keeps ms else filter keeps ms) ≡ not_due at (listed_of old ms))
      (λ _ is. listed_more new m (filter keeps ms) None (same is) ∙ rest) (λ _ _. rest) refl
  left_by at keeps m ms (Some x) was kept same rest =
      by_test (keeps m) (λ b. keeps m ≡ b → listed_of new (if b then m ∷ filter keeps ms else filter keeps ms) ≡ not_due at (x ∷ listed_of old ms))
      (λ _ is. listed_more new m (filter keeps ms) (Some x) (same is) ∙ ap (λ xs. x ∷ xs) rest
      ∙ sym (cond-true (not (is_due at x)) (x ∷ not_due at (listed_of old ms)) (not_due at (listed_of old ms)) (sym (kept x refl) ∙ is)))
      (λ _ out. rest ∙ sym (cond-false (not (is_due at x)) (x ∷ not_due at (listed_of old ms)) (not_due at (listed_of old ms)) (sym (kept x refl) ∙ out)))
      refl

  pub due_left : (at : ℕ) (keeps : ℕ → Bool) (ms : List ℕ) → ((m : ℕ) (x : OpenCasualty) → old m ≡ Some x → keeps m ≡ not (is_due at x))
      → ((m : ℕ) → keeps m ≡ true → new m ≡ old m) → listed_of new (filter keeps ms) ≡ not_due at (listed_of old ms)
  due_left at keeps [] kept same = refl
  due_left at keeps (m ∷ ms) kept same =
      left_by at keeps m ms (old m) refl (λ (x : OpenCasualty) is. kept m x is) (λ is. same m is) (due_left at keeps ms kept same)
      ∙ ap (not_due at) (sym (listed_more old m ms (old m) refl))
