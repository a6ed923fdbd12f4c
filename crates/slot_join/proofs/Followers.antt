-- What follows a call is read in one way.
use Rattle.std.proofs.Common.{◌≡◌, ℕ, ◌+◌, ◌<◌, ◌≤◌, false, List, [], ◌∷◌, ◌++◌, length, get_or, take, drop, refl, sym, ap, subst, ◌∙◌, inl, inr, append_assoc, length-append, arith}
use Rattle.std.proofs.lemmas.Bool.{cases_lt}
use Rattle.std.proofs.lemmas.List.{length-take-le, get_or-take, take-append-drop, ext_get_or, get_or_append_left, get_or_push, drop_more, length_push, append-nil}
use Rattle.call_values.specs.declared.choices.End.{End}
use Rattle.call_values.specs.declared.calls.Call.{Call}
use Rattle.call_values.specs.Calls.{IsCall}
use Rattle.call_values.proofs.PublicLaws.{end_one}
use Rattle.call_grammar.specs.Spelling.{end_symbol, end_of, spell, check_of}
use Rattle.expansion.specs.declared.values.Sets.{Sets}
use Rattle.expansion.specs.Expansions.{IsExpansion}
use Rattle.expansion.specs.Spelling.{covered, through_check, spell as expanded}
use Rattle.expansion.specs.Reading.{IsViable, IsOpen}
use Rattle.slot_evidence.specs.declared.places.Seen.{Seen}
use Rattle.slot_evidence.specs.declared.places.Seen.TheVariants as seen
use Rattle.slot_evidence.specs.Facts.{Facts, Symbols}
use Rattle.slot_evidence.specs.Seen.{IsSeen, ShowsOne}
use Rattle.slot_evidence.specs.Sheet.{IsEnds, seen_at}
use Rattle.slot_join.specs.declared.joined.Extra.{Extra}
use Rattle.slot_join.specs.declared.joined.Extra.TheVariants.{Absent, Whole, Broken}
use Rattle.slot_join.specs.Extra.{IsBlankFrom, IsShownFrom, IsLongestFrom, IsBroken, IsExtra, Follows}
use Rattle.slot_join.proofs.ShownLists.{only_one}
use Rattle.slot_join.proofs.Stops.{seen_there}
use Rattle.slot_join.proofs.Heads.{blank_there}

-- no expansion's list up to its check begins another's with the same end of sequence
abbrev pub ExpansionsDiffer : Type 0
ExpansionsDiffer = (x y : Sets) (e : End) (rest : List ℕ) → IsExpansion x → IsExpansion y → through_check y e ≡ through_check x e ++ rest → (x ≡ y) × (rest ≡ [])

-- expansions are short
abbrev pub ExpansionsAreShort : Type 0
ExpansionsAreShort = (x : Sets) (e : End) → IsExpansion x → (6 ≤ length (expanded x e)) × (length (expanded x e) ≤ 15)

-- calls are short
abbrev pub CallsAreShort : Type 0
CallsAreShort = (c : Call) → IsCall c → (4 ≤ length (spell c)) × (length (spell c) ≤ 32)

-- a list that has another's symbols as far as that goes begins with it
pub pointwise : (l m : List ℕ) → ((k : ℕ) → k < length l → get_or l k 0 ≡ get_or m k 0) → length l ≤ length m → m ≡ l ++ drop (length l) m
pointwise l m same le =
    let len : length (take (length l) m) ≡ length l = length-take-le (length l) m le in
    let front : take (length l) m ≡ l =
    ext_get_or 0 (take (length l) m) l len
    (λ i h. let below : i < length l = omega (arith, len) in
    get_or-take (length l) m i 0 below ∙ sym (same i below)) in
    sym (take-append-drop (length l) m) ∙ ap (λ (x : List ℕ). x ++ drop (length l) m) front

-- the longer one of two shown lists begins with the shorter
pub agree_from : (F : Facts) (from : ℕ) (l m : List ℕ) → IsShownFrom F from l → IsShownFrom F from m → length l ≤ length m → m ≡ l ++ drop (length l) m
agree_from F from l m a b le =
    pointwise l m (λ k below. only_one (F (from + k)) (get_or l k 0) (get_or m k 0) (a k below) (b k (omega arith))) le

-- a shown list begins with shown ones
pub shown_front : (F : Facts) (from : ℕ) (l t : List ℕ) → IsShownFrom F from (l ++ t) → IsShownFrom F from l
shown_front F from l t shown k below =
    subst (λ (v : ℕ). ShowsOne (F (from + k)) v) (get_or_append_left l t 0 k below) (shown k (omega (arith, length-append l t)))

-- a shown list and the one symbol after it
pub push_from : (F : Facts) (from v : ℕ) (l : List ℕ) → IsShownFrom F from l → ShowsOne (F (from + length l)) v → IsShownFrom F from (l ++ v ∷ [])
push_from F from v l shown one k below = elim (cases_lt k (length l)) [
  | inl lt ↦ subst (λ (u : ℕ). ShowsOne (F (from + k)) u) (sym (get_or_append_left l (v ∷ []) 0 k lt)) (shown k lt)
  | inr le ↦
      let same : length l ≡ k = omega (arith, length_push l v) in
      subst (λ (q : ℕ). ShowsOne (F (from + q)) (get_or (l ++ v ∷ []) q 0)) same
      (subst (λ (u : ℕ). ShowsOne (F (from + length l)) u) (sym (get_or_push l v 0 (length l) refl)) one)
]

pub some_check : (x : Sets) (e : End) → 1 ≤ length (through_check x e)
some_check x e = omega (arith, length-append (covered x e) (check_of (covered x e) ∷ []))

-- where a list is shown, the places aren't blank
pub shown_some : (F : Facts) (from : ℕ) (l : List ℕ) → 1 ≤ length l → from < 64 → IsShownFrom F from l → IsBlankFrom F from → ⊥
shown_some F from l some inside shown blank =
    let one = (shown 0 (omega arith)).0 in
    let none : F (from + 0) (get_or l 0 0) ≡ false = blank (from + 0) (omega arith) (omega arith) (get_or l 0 0) in
    absurd (cc (one, none))

pub same_whole : ExpansionsDiffer → (F : Facts) (from : ℕ) (e : End) (x y : Sets) → IsExpansion x → IsExpansion y
    → IsShownFrom F from (through_check x e) → IsShownFrom F from (through_check y e) → x ≡ y
same_whole differ F from e x y hx hy sx sy =
    let a : List ℕ = through_check x e in let b : List ℕ = through_check y e in
    elim (cases_lt (length b) (length a)) [
      | inl lt ↦ sym (differ y x e (drop (length b) a) hy hx (agree_from F from b a sy sx (omega arith))).0
      | inr le ↦ (differ x y e (drop (length a) b) hx hy (agree_from F from a b sx sy le)).0
    ]

same_broken : (F : Facts) (from m n : ℕ) (e : End) → IsBroken F from e m → IsBroken F from e n → m ≡ n
same_broken F from m n e x y =
    let ge : length y.list ≤ length x.list = x.longest.longest y.list y.longest.shown y.longest.viable in
    let le : length x.list ≤ length y.list = y.longest.longest x.list x.longest.shown x.longest.viable in
    let a : m ≡ from + length x.list = x.place in let b : n ≡ from + length y.list = y.place in
    omega arith

pub same_extra : ExpansionsDiffer → (F : Facts) (from : ℕ) (e : End) (a b : Extra) → from < 64 → IsExtra F from e a → IsExtra F from e b → a ≡ b
same_extra differ F from e Absent Absent inside x y = refl
same_extra differ F from e Absent (Whole v) inside x y = absurd (shown_some F from (through_check v e) (some_check v e) inside y.1 x)
same_extra differ F from e Absent (Broken n) inside x y = absurd (y.some x)
same_extra differ F from e (Whole u) Absent inside x y = absurd (shown_some F from (through_check u e) (some_check u e) inside x.1 y)
same_extra differ F from e (Whole u) (Whole v) inside x y = ap Whole (same_whole differ F from e u v x.0 y.0 x.1 y.1)
same_extra differ F from e (Whole u) (Broken n) inside x y = absurd (y.unfinished u x.0 x.1)
same_extra differ F from e (Broken m) Absent inside x y = absurd (x.some y)
same_extra differ F from e (Broken m) (Whole v) inside x y = absurd (x.unfinished v y.0 y.1)
same_extra differ F from e (Broken m) (Broken n) inside x y = ap Broken (same_broken F from m n e x y)

-- after a call the extra is read in one way
pub extra_with : (F : Facts) (c : Call) (a : Extra) (e : End) → end_symbol e ≡ end_of c → Follows F c a → IsExtra F (length (spell c)) e a
extra_with F c a e own x = subst (λ (f : End). IsExtra F (length (spell c)) f a) (end_one x.last e (x.own ∙ sym own)) x.is

pub same_follows : ExpansionsDiffer → CallsAreShort → (F : Facts) (c : Call) (a b : Extra) → IsCall c → Follows F c a → Follows F c b → a ≡ b
same_follows differ short F c a b lawful x y =
    same_extra differ F (length (spell c)) x.last a b (omega (arith, (short c lawful).1)) x.is (extra_with F c b x.last x.own y)

-- what a sheet says of its places is so of its facts
pub blank_facts : (F : Facts) (sheet : List Seen) (from : ℕ) → IsEnds F sheet → ((p : ℕ) → from ≤ p → p < 64 → seen_at sheet p ≡ seen.None) → IsBlankFrom F from
blank_facts F sheet from ends blank p least below = seen_there F sheet p seen.None ends (sym (blank p least below))

pub some_facts : (F : Facts) (sheet : List Seen) (from : ℕ) → IsEnds F sheet → (p : ℕ) × ((from ≤ p) × (p < 64) × (seen_at sheet p ≡ seen.None → ⊥)) → IsBlankFrom F from → ⊥
some_facts F sheet from ends some blank = some.1.2 (blank_there F sheet some.0 ends (blank some.0 some.1.0 some.1.1))

kept_one : (S : Symbols) (x : Seen) (v : ℕ) → IsSeen S x → ShowsOne S v → x ≡ seen.One v
kept_one S seen.None v h one = absurd (cc (h v, one.0))
kept_one S (seen.One u) v h one = ap seen.One (one.1 u h.0)
kept_one S (seen.Differ a b) v h one = absurd (omega (arith, one.1 a h.has_least, one.1 b h.has_greatest, h.apart))

pub none_one : (F : Facts) (sheet : List Seen) (n : ℕ) → IsEnds F sheet → ((v : ℕ) → seen_at sheet n ≡ seen.One v → ⊥) → (v : ℕ) → ShowsOne (F n) v → ⊥
none_one F sheet n ends never v one = never v (kept_one (F n) (seen_at sheet n) v (seen_there F sheet n (seen_at sheet n) ends refl) one)

-- what is read after a call's whole list follows it
pub followed : (F : Facts) (c : Call) (extra : Extra) (e : End) (from : ℕ) → end_symbol e ≡ end_of c → length (spell c) ≡ from → IsExtra F from e extra → Follows F c extra
followed F c extra e from own place is = record { last = e; own = own; is = subst (λ (n : ℕ). IsExtra F n e extra) (sym place) is }

-- what the code reads: the symbols of the places that showed one, up to the first that didn't, and how far an expansion
-- goes in them
module _ (differ : ExpansionsDiffer) (F : Facts) (from : ℕ) (e : End) (list : List ℕ) (shown : IsShownFrom F from list)
    (stops : (v : ℕ) → from + length list < 64 → ShowsOne (F (from + length list)) v → ⊥) where
  pub whole_of : (x : Sets) (rest : List ℕ) → IsExpansion x → list ≡ through_check x e ++ rest → IsExtra F from e (Whole x)
  whole_of x rest h is = (h, shown_front F from (through_check x e) rest (subst (λ (l : List ℕ). IsShownFrom F from l) is shown))

  open_viable : (front : List ℕ) → IsOpen e front → IsViable e front
  open_viable front o = record {
    expansion = o.expansion;
    rest = (o.next ∷ o.rest) ++ (end_symbol e ∷ end_symbol e ∷ []);
    lawful = o.lawful;
    list = sym (append_assoc (covered o.expansion e) (check_of (covered o.expansion e) ∷ []) (end_symbol e ∷ end_symbol e ∷ []))
        ∙ ap (λ (l : List ℕ). l ++ (end_symbol e ∷ end_symbol e ∷ [])) o.list ∙ append_assoc front (o.next ∷ o.rest) (end_symbol e ∷ end_symbol e ∷ []);
  }

  viable_front : (l t : List ℕ) → IsViable e (l ++ t) → IsViable e l
  viable_front l t a = record { expansion = a.expansion; rest = t ++ a.rest; lawful = a.lawful; list = a.list ∙ append_assoc l t a.rest }

  module _ (front rest : List ℕ) (is : list ≡ front ++ rest) (o : IsOpen e front) (few : from + length front < 64)
      (never : (x : ℕ) (more : List ℕ) → rest ≡ x ∷ more → IsViable e (front ++ (x ∷ [])) → ⊥) where
    front_shown : IsShownFrom F from front
    front_shown = shown_front F from front rest (subst (λ (l : List ℕ). IsShownFrom F from l) is shown)

    -- after the front nothing that is shown goes on
    none_longer : (rest' : List ℕ) → rest ≡ rest' → (other : List ℕ) → IsShownFrom F from other → IsViable e other → length front < length other → ⊥
    none_longer [] same other so vo longer =
        let whole : list ≡ front = is ∙ ap (λ (l : List ℕ). front ++ l) same ∙ append-nil front in
        let one : ShowsOne (F (from + length front)) (get_or other (length front) 0) = so (length front) longer in
        let there : from + length list < 64 = omega (arith, ap length whole) in
        stops (get_or other (length front) 0) there (subst (λ (l : List ℕ). ShowsOne (F (from + length l)) (get_or other (length front) 0)) (sym whole) one)
    none_longer (x ∷ more) same other so vo longer =
        let n : ℕ = length front in
        let begins : other ≡ front ++ drop n other = agree_from F from front other front_shown so (omega arith) in
        let v : ℕ = get_or other n 0 in
        let step : drop n other ≡ v ∷ drop (n + 1) other = drop_more other n 0 longer in
        let whole : other ≡ (front ++ v ∷ []) ++ drop (n + 1) other =
        begins ∙ ap (λ (l : List ℕ). front ++ l) step ∙ sym (append_assoc front (v ∷ []) (drop (n + 1) other)) in
        let list_is : list ≡ front ++ (x ∷ more) = is ∙ ap (λ (l : List ℕ). front ++ l) same in
        let counts : length list ≡ n + length (x ∷ more) = ap length list_is ∙ length-append front (x ∷ more) in
        let here : get_or list n 0 ≡ x = ap (λ (l : List ℕ). get_or l n 0) list_is ∙ at_front front x more in
        let one : ShowsOne (F (from + n)) x = subst (λ (u : ℕ). ShowsOne (F (from + n)) u) here (shown n (omega arith)) in
        let symbol : v ≡ x = only_one (F (from + n)) v x (so n longer) one in
        never x more same (viable_front (front ++ x ∷ []) (drop (n + 1) other)
        (subst (IsViable e) (whole ∙ ap (λ (u : ℕ). (front ++ u ∷ []) ++ drop (n + 1) other) symbol) vo))
      where
        at_front : (m : List ℕ) (a : ℕ) (t : List ℕ) → get_or (m ++ (a ∷ t)) (length m) 0 ≡ a
        at_front [] a t = refl
        at_front (b ∷ m) a t = at_front m a t

    front_longest : IsLongestFrom F from e front
    front_longest = record {
      shown = front_shown;
      viable = open_viable front o;
      longest = λ other so vo. elim (cases_lt (length front) (length other)) [
        | inr le ↦ le
        | inl lt ↦ absurd (none_longer rest refl other so vo lt)
      ];
    }

    unfinished : (x : Sets) → IsExpansion x → IsShownFrom F from (through_check x e) → ⊥
    unfinished x h sx =
        let a : List ℕ = through_check x e in
        let viable : IsViable e a = record {
          expansion = x;
          rest = end_symbol e ∷ end_symbol e ∷ [];
          lawful = h;
          list = sym (append_assoc (covered x e) (check_of (covered x e) ∷ []) (end_symbol e ∷ end_symbol e ∷ []));
        } in
        let le : length a ≤ length front = front_longest.longest a sx viable in
        let begins : front ≡ a ++ drop (length a) front = agree_from F from a front sx front_shown le in
        let t : List ℕ = drop (length a) front in
        let whole : through_check o.expansion e ≡ a ++ (t ++ (o.next ∷ o.rest)) =
        o.list ∙ ap (λ (l : List ℕ). l ++ (o.next ∷ o.rest)) begins ∙ append_assoc a t (o.next ∷ o.rest) in
        let none : t ++ (o.next ∷ o.rest) ≡ [] = (differ x o.expansion e (t ++ (o.next ∷ o.rest)) h o.lawful whole).1 in
        let len : length (t ++ (o.next ∷ o.rest)) ≡ 0 = ap length none in
        absurd (omega (arith, length-append t (o.next ∷ o.rest)))

    pub broken_of : (IsBlankFrom F from → ⊥) → (n : ℕ) → n ≡ from + length front → IsExtra F from e (Broken n)
    broken_of some n place = record { some = some; unfinished = unfinished; list = front; longest = front_longest; place = place }

-- an open list is short
pub open_short : ExpansionsAreShort → (e : End) (l : List ℕ) → IsOpen e l → length l ≤ 12
open_short short e l o =
    let last : ℕ = end_symbol e in
    let words : List ℕ = covered o.expansion e in
    let check : ℕ = check_of words in
    let part : length (through_check o.expansion e) ≡ length l + length (o.next ∷ o.rest) = ap length o.list ∙ length-append l (o.next ∷ o.rest) in
    omega (arith, (short o.expansion e o.lawful).1, length-append words (check ∷ []), length-append words (check ∷ last ∷ last ∷ []))
