-- Lists that one set of facts shows agree as far as both go.
use Rattle.std.proofs.Common.{◌≡◌, ℕ, zero, suc, ◌+◌, ◌<◌, ◌≤◌, true, false, List, [], ◌∷◌, ◌++◌, length, get_or, take, drop, refl, sym, ap, subst, ◌∙◌, inl, inr, append_assoc, length-append, arith}
use Rattle.std.proofs.Math.Seq.{take-append_seam}
use Rattle.std.proofs.lemmas.Bool.{cases_lt}
use Rattle.std.proofs.lemmas.List.{take-append-le, length-take-le, get_or-take, take-append-drop, ext_get_or, get_or_append_left, get_or_push, drop_more, length_push}
use Rattle.call_values.specs.declared.calls.Call.{Call}
use Rattle.call_values.specs.Calls.{IsCall}
use Rattle.call_grammar.specs.Spelling.{through_check, fields_of, end_of}
use Rattle.call_grammar.specs.Walk.{IsViable, IsOpen, IsAtEnd, after}
use Rattle.slot_evidence.specs.Facts.{Facts, Symbols}
use Rattle.slot_evidence.specs.Seen.{ShowsOne}
use Rattle.slot_join.specs.Shown.{head_of, late_of, IsLate, Gives, IsShown, IsShownLate, IsLongest}

-- a place shows one symbol at most where it shows one alone
pub only_one : (S : Symbols) (u v : ℕ) → ShowsOne S u → ShowsOne S v → u ≡ v
only_one S u v a b = b.1 u a.0

-- a place gives one symbol, whatever comes before it
one_given : (F : Facts) (a b : List ℕ) (p u v : ℕ) → Gives F a p u → Gives F b p v → u ≡ v
one_given F a b p u v (inl x) (inl y) = only_one (F p) u v x y
one_given F a b p u v (inl x) (inr y) = absurd (cc (x.0, y.none u))
one_given F a b p u v (inr x) (inl y) = absurd (cc (x.none v, y.0))
one_given F a b p u v (inr x) (inr y) = only_one (late_of F p) u v x.copies y.copies

same_at : (F : Facts) (l m : List ℕ) → IsShown F l → IsShown F m → (k : ℕ) → k < length l → k < length m → get_or l k 0 ≡ get_or m k 0
same_at F l m a b zero p q =
    ap (λ (x : List ℕ). get_or x 0 0) a.begins ∙ only_one (head_of F) a.format b.format a.head b.head ∙ sym (ap (λ (x : List ℕ). get_or x 0 0) b.begins)
same_at F l m a b (suc zero) p q =
    ap (λ (x : List ℕ). get_or x 1 0) a.begins ∙ only_one (head_of F) a.format b.format a.head b.head ∙ sym (ap (λ (x : List ℕ). get_or x 1 0) b.begins)
same_at F l m a b (suc (suc k)) p q =
    one_given F (take (suc (suc k)) l) (take (suc (suc k)) m) (suc (suc k)) (get_or l (suc (suc k)) 0) (get_or m (suc (suc k)) 0) (a.places (suc (suc k)) (omega arith) p) (b.places (suc (suc k)) (omega arith) q)

-- the longer one of two shown lists begins with the shorter
pub agree : (F : Facts) (l m : List ℕ) → IsShown F l → IsShown F m → length l ≤ length m → m ≡ l ++ drop (length l) m
agree F l m a b le =
    let len : length (take (length l) m) ≡ length l = length-take-le (length l) m le in
    let front_same : take (length l) m ≡ l =
    ext_get_or 0 (take (length l) m) l len
    (λ i h. let below : i < length l = omega (arith, len) in
    get_or-take (length l) m i 0 below ∙ sym (same_at F l m a b i below (omega arith))) in
    sym (take-append-drop (length l) m) ∙ ap (λ (x : List ℕ). x ++ drop (length l) m) front_same

pub two : (F : Facts) (l : List ℕ) → IsShown F l → 2 ≤ length l
two F l a = let e : length l ≡ length (a.format ∷ a.format ∷ a.rest) = ap length a.begins in omega arith

-- a shown list goes on with the symbol that the place after it gives
pub push_shown : (F : Facts) (l : List ℕ) (v : ℕ) → IsShown F l → Gives F l (length l) v → IsShown F (l ++ v ∷ [])
push_shown F l v a one = record {
  format = a.format;
  rest = a.rest ++ v ∷ [];
  begins = ap (λ (x : List ℕ). x ++ v ∷ []) a.begins;
  head = a.head;
  places = λ p least below. elim (cases_lt p (length l)) [
    | inl lt ↦
        let through_check : take p (l ++ v ∷ []) ≡ take p l = take-append-le p l (v ∷ []) (omega arith) in
        subst (λ (x : List ℕ). Gives F x p (get_or (l ++ v ∷ []) p 0)) (sym through_check)
        (subst (λ (x : ℕ). Gives F (take p l) p x) (sym (get_or_append_left l (v ∷ []) 0 p lt)) (a.places p least lt))
    | inr le ↦
        let same : length l ≡ p = omega (arith, length_push l v) in
        let through_check : take (length l) (l ++ v ∷ []) ≡ l = take-append_seam l (v ∷ []) in
        subst (λ (q : ℕ). Gives F (take q (l ++ v ∷ [])) q (get_or (l ++ v ∷ []) q 0)) same
        (subst (λ (x : List ℕ). Gives F x (length l) (get_or (l ++ v ∷ []) (length l) 0)) (sym through_check)
        (subst (λ (x : ℕ). Gives F l (length l) x) (sym (get_or_push l v 0 (length l) refl)) one))
  ];
}

-- a shown list's front is shown
pub shown_front : (F : Facts) (k rest : List ℕ) → 2 ≤ length k → IsShown F (k ++ rest) → IsShown F k
shown_front F [] rest some a = absurd (omega arith)
shown_front F (x ∷ []) rest some a = absurd (omega arith)
shown_front F (x ∷ (y ∷ k)) rest some a =
    let front : List ℕ = x ∷ (y ∷ k) in
    let first : x ≡ a.format = ap (λ (l : List ℕ). get_or l 0 0) a.begins in
    let second : y ≡ a.format = ap (λ (l : List ℕ). get_or l 1 0) a.begins in
    record {
      format = a.format;
      rest = k;
      begins = cc (first, second);
      head = a.head;
      places = λ p least below.
          subst (λ (l : List ℕ). Gives F l p (get_or front p 0)) (take-append-le p front rest (omega arith))
          (subst (λ (v : ℕ). Gives F (take p (front ++ rest)) p v) (get_or_append_left front rest 0 p below) (a.places p least (omega (arith, below, length-append front rest))));
    }

-- the end of sequence comes after both format specifiers
pub three : (l : List ℕ) → IsAtEnd l → 2 ≤ length l
three l a = omega (arith, ap length a.list, length-append l (end_of a.call ∷ []), length-append (fields_of a.call) (end_of a.call ∷ []))

-- after a list without one, a place that showed a symbol gives none
pub prompt_push : (F : Facts) (l : List ℕ) (v w : ℕ) → (IsShownLate F l → ⊥) → F (length l) w ≡ true → IsShownLate F (l ++ v ∷ []) → ⊥
prompt_push F l v w prompt has late = elim (cases_lt late.place (length l)) [
  | inl lt ↦ prompt (record {
    place = late.place;
    inside = lt;
    late = subst (λ (u : ℕ). IsLate F (take late.place l) late.place u) (get_or_append_left l (v ∷ []) 0 late.place lt)
        (subst (λ (x : List ℕ). IsLate F x late.place (get_or (l ++ v ∷ []) late.place 0)) (take-append-le late.place l (v ∷ []) (omega arith)) late.late);
  })
  | inr le ↦
      let same : late.place ≡ length l = omega (arith, late.inside, length_push l v) in
      let no : F (length l) w ≡ false = subst (λ (p : ℕ). F p w ≡ false) same (late.late.none w) in
      absurd (cc)
]

-- after a list, its place may give one
pub late_push : (F : Facts) (l : List ℕ) (v : ℕ) → IsLate F l (length l) v → IsShownLate F (l ++ v ∷ [])
late_push F l v late = record {
  place = length l;
  inside = omega (arith, length_push l v);
  late = subst (λ (x : List ℕ). IsLate F x (length l) (get_or (l ++ v ∷ []) (length l) 0)) (sym (take-append_seam l (v ∷ [])))
      (subst (λ (u : ℕ). IsLate F l (length l) u) (sym (get_or_push l v 0 (length l) refl)) late);
}

-- after a shown list the next symbol is its next one
pub after_shown : (F : Facts) (l : List ℕ) (v : ℕ) → IsShown F l → after l v ≡ l ++ v ∷ []
after_shown F l v a = ap (λ (x : List ℕ). after x v) a.begins ∙ sym (ap (λ (x : List ℕ). x ++ v ∷ []) a.begins)

-- what begins a viable list is viable
pub viable_front : (l t : List ℕ) → IsViable (l ++ t) → IsViable l
viable_front l t a = record { call = a.call; rest = t ++ a.rest; lawful = a.lawful; list = a.list ∙ append_assoc l t a.rest }

-- a call's list up to its check is viable
pub front_viable : (c : Call) → IsCall c → IsViable (through_check c)
front_viable c lawful = record { call = c; rest = end_of c ∷ end_of c ∷ []; lawful = lawful; list = refl }

-- an open list is viable
pub open_viable : (l : List ℕ) → IsOpen l → IsViable l
open_viable l a =
    let whole : IsViable (l ++ a.next ∷ a.rest) = subst IsViable a.list (front_viable a.call a.lawful) in
    viable_front l (a.next ∷ a.rest) whole

-- a shown list that no symbol after it lets go on is the longest
pub longest_from : (F : Facts) (l : List ℕ) → IsShown F l → IsViable l → ((v : ℕ) → Gives F l (length l) v → IsViable (l ++ v ∷ []) → ⊥) → IsLongest F l
longest_from F l shown viable stops = record {
  shown = shown;
  viable = viable;
  longest = λ m ms mv. elim (cases_lt (length l) (length m)) [
    | inr le ↦ le
    | inl lt ↦
        let v : ℕ = get_or m (length l) 0 in
        let begins : m ≡ l ++ drop (length l) m = agree F l m shown ms (omega arith) in
        let more : drop (length l) m ≡ v ∷ drop (length l + 1) m = drop_more m (length l) 0 lt in
        let whole : m ≡ (l ++ v ∷ []) ++ drop (length l + 1) m = begins ∙ ap (λ (x : List ℕ). l ++ x) more ∙ sym (append_assoc l (v ∷ []) (drop (length l + 1) m)) in
        let through_check : take (length l) m ≡ l = ap (λ (x : List ℕ). take (length l) x) begins ∙ take-append_seam l (drop (length l) m) in
        let gives : Gives F l (length l) v = subst (λ (x : List ℕ). Gives F x (length l) v) through_check (ms.places (length l) (two F l shown) lt) in
        absurd (stops v gives (viable_front (l ++ v ∷ []) (drop (length l + 1) m) (subst IsViable whole mv)))
  ];
}
