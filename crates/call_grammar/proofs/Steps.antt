-- From what is read of a list to the steps of a walk.
use Rattle.std.proofs.Common.{◌≡◌, ℕ, ◌<◌, ◌≢◌, ◌⊎◌, inl, inr, true, false, List, [], ◌∷◌, ◌++◌, length, take, drop, get_or, refl, sym, ◌∙◌, ap, subst, append-nil, append_assoc, length-append, arith}
use Rattle.std.proofs.lemmas.List.{take-append-le}
use Rattle.std.proofs.Math.Seq.{take-length}
use mathlib.Core.List.{head-eq_of_cons-eq}
use Rattle.symbol_reader.specs.inside.Reading.{Begins, Wants, Took}
use Rattle.symbol_reader.proofs.Laws.{no_word_goes_on}
use Rattle.symbol_reader.proofs.Steps.{shorter}
use Rattle.call_values.specs.declared.calls.Call.{Call}
use Rattle.call_values.specs.Calls.{IsCall}
use Rattle.call_grammar.specs.Spelling.{format_of, fields_of, end_of, covered, check_of, through_check}
use Rattle.call_grammar.specs.inside.Grammar.{CheckedCharacters}
use Rattle.call_grammar.specs.Walk.{IsViable, IsOpen, IsAtCheck, IsDone, after, FailsCheck, IsStep}
use Rattle.call_grammar.specs.inside.Judging.{IsCovered, IsRight, Judges, IsWalking, is_taken}
use Rattle.call_grammar.specs.declared.walking.Step.{Step}
use Rattle.call_grammar.specs.declared.walking.Step.TheVariants.{More, Done, Outside, Check}
use Rattle.call_grammar.proofs.CallParts.{checked_characters_good}
use Rattle.plain_laws.proofs.Lists.{split}

-- a call's characters up to its check are in the grammar
pub spelled : (c : Call) → IsCall c → CheckedCharacters c (covered c)
spelled c h = record { is_lawful = h; list = refl }

-- a list that ends before the check of a call begins what the check covers
open_begins : (c : Call) (k n : ℕ) (l rest : List ℕ) → IsCall c → covered c ++ (k ∷ []) ≡ l ++ (n ∷ rest) → Begins CheckedCharacters l
open_begins c k n l rest h e = elim (split (covered c) (k ∷ []) l (n ∷ rest) e) [
  | inl s ↦ record { value = c; rest = s.0; word = subst (CheckedCharacters c) s.1 (spelled c h) }
  | inr s ↦ (let few : length (k ∷ []) ≡ length (s.0 ∷ (s.1 ++ (n ∷ rest))) = ap length s.3 in
      absurd (omega (arith, length-append s.1 (n ∷ rest))))
]

no_rest : (a b : List ℕ) → a ++ b ≡ [] → b ≡ []
no_rest [] b e = e
no_rest (x ∷ a) b e = absurd (cc)

-- a list that begins what a check covers has no call's whole list in front of its last symbol
at_end : (c : Call) (l rest s : List ℕ) (x k : ℕ) → IsCall c → Begins CheckedCharacters l → l ≡ covered c ++ s → k ∷ rest ≡ s ++ (x ∷ [])
    → (l ≡ covered c) × (x ≡ k) × (rest ≡ [])
at_end c l rest [] x k h b e d = let p : k ≡ x = cc in let q : rest ≡ [] = cc in (e ∙ append-nil (covered c), sym p, q)
at_end c l rest (y ∷ s) x k h b e d =
    absurd (no_word_goes_on CheckedCharacters checked_characters_good c b.value (covered c) y (s ++ b.rest) (spelled c h)
    (subst (CheckedCharacters b.value) (ap (λ a. a ++ b.rest) e ∙ append_assoc (covered c) (y ∷ s) b.rest) b.word))

-- the check of a call is only at the end of a list that begins what a check covers
at_place : (c : Call) (l rest : List ℕ) (x k : ℕ) → IsCall c → Begins CheckedCharacters l → l ++ (x ∷ []) ≡ covered c ++ (k ∷ rest)
    → (l ≡ covered c) × (x ≡ k) × (rest ≡ [])
at_place c l rest x k h b e = elim (split l (x ∷ []) (covered c) (k ∷ rest) e) [
  | inl s ↦ at_end c l rest s.0 x k h b s.1 s.2
  | inr s ↦ (let few : length (x ∷ []) ≡ length (s.0 ∷ (s.1 ++ (k ∷ rest))) = ap length s.3 in
      absurd (omega (arith, length-append s.1 (k ∷ rest))))
]

-- a list that begins what a check covers, and has the format specifier once more in front, is open
pub open_of : (f : ℕ) (m tail : List ℕ) → m ≡ f ∷ tail → Wants CheckedCharacters m ⊎ IsCovered m → IsOpen (f ∷ m)
open_of f m tail twice (inl w) =
    let c = w.value in
    let list : m ++ (w.next ∷ w.rest) ≡ covered c = w.word.list in
    let k : ℕ = check_of (covered c) in
    let format : f ≡ format_of c = head-eq_of_cons-eq (ap (λ a. a ++ (w.next ∷ w.rest)) (sym twice) ∙ list) in
    record {
      call = c;
      next = w.next;
      rest = w.rest ++ (k ∷ []);
      lawful = w.word.is_lawful;
      list = ap (λ a. format_of c ∷ (a ++ (k ∷ []))) (sym list)
          ∙ ap (λ a. a ∷ ((m ++ (w.next ∷ w.rest)) ++ (k ∷ []))) (sym format)
          ∙ ap (λ a. f ∷ a) (append_assoc m (w.next ∷ w.rest) (k ∷ []));
    }
open_of f m tail twice (inr w) =
    let c = w.call in
    let list : m ≡ covered c = w.list in
    let k : ℕ = check_of (covered c) in
    let format : f ≡ format_of c = head-eq_of_cons-eq (sym twice ∙ list) in
    record {
      call = c;
      next = k;
      rest = [];
      lawful = w.lawful;
      list = ap (λ a. format_of c ∷ (a ++ (k ∷ []))) (sym list) ∙ ap (λ a. a ∷ (m ++ (k ∷ []))) (sym format);
    }

-- the call is done
completes : (f x : ℕ) (l tail : List ℕ) (c : Call) → l ++ (x ∷ []) ≡ f ∷ tail → Begins CheckedCharacters l → IsRight (l ++ (x ∷ [])) c
    → f ∷ (l ++ (x ∷ [])) ≡ through_check c
completes f x l tail c twice b right =
    let place = at_place c l right.rest x (check_of (covered c)) right.lawful b right.list in
    let format : f ≡ format_of c = head-eq_of_cons-eq (sym twice ∙ right.list) in
    let e1 : l ≡ covered c = place.0 in
    let e2 : x ≡ check_of (covered c) = place.1 in
    ap (λ a. a ∷ (l ++ (x ∷ []))) format ∙ ap (λ a. format_of c ∷ (a ++ (x ∷ []))) e1 ∙ ap (λ a. format_of c ∷ (covered c ++ (a ∷ []))) e2

-- what can't be begun so is viable at no format specifier
pub not_viable : (f : ℕ) (l m : List ℕ) (n x : ℕ) → Wants CheckedCharacters m → l ++ (x ∷ []) ≡ m ++ (n ∷ [])
    → (Begins CheckedCharacters (l ++ (x ∷ [])) → ⊥) → IsViable (f ∷ (l ++ (x ∷ []))) → ⊥
not_viable f l m n x wants e never v =
    let c = v.call in
    let ends : List ℕ = end_of c ∷ end_of c ∷ [] in
    let k : ℕ = check_of (covered c) in
    let whole : format_of c ∷ ((covered c ++ (k ∷ [])) ++ ends) ≡ f ∷ ((l ++ (x ∷ [])) ++ v.rest) = v.list in
    let tails : (covered c ++ (k ∷ [])) ++ ends ≡ (l ++ (x ∷ [])) ++ v.rest = cc in
    let parts : covered c ++ (k ∷ ends) ≡ (l ++ (x ∷ [])) ++ v.rest = sym (append_assoc (covered c) (k ∷ []) ends) ∙ tails in
    elim (split (covered c) (k ∷ ends) (l ++ (x ∷ [])) v.rest parts) [
      | inl s ↦ never (record { value = c; rest = s.0; word = subst (CheckedCharacters c) s.1 (spelled c v.lawful) })
      | inr s ↦ shorter CheckedCharacters c (covered c) m n s.0 s.1 checked_characters_good (spelled c v.lawful) wants (sym e ∙ s.2)
    ]

-- where reading left the list, it left it at the last symbol
left_at_end : (l m rest : List ℕ) (n x : ℕ) → Begins CheckedCharacters l → l ++ (x ∷ []) ≡ m ++ (n ∷ rest) → (Begins CheckedCharacters (m ++ (n ∷ [])) → ⊥)
    → l ++ (x ∷ []) ≡ m ++ (n ∷ [])
left_at_end l m rest n x b e never =
    let parts : l ++ (x ∷ []) ≡ (m ++ (n ∷ [])) ++ rest = e ∙ sym (append_assoc m (n ∷ []) rest) in
    elim (split l (x ∷ []) (m ++ (n ∷ [])) rest parts) [
      | inl s ↦ absurd (never (record {
        value = b.value;
        rest = s.0 ++ b.rest;
        word = subst (CheckedCharacters b.value) (ap (λ a. a ++ b.rest) s.1 ∙ append_assoc (m ++ (n ∷ [])) s.0 b.rest) b.word;
      }))
      | inr s ↦ (
          let few : x ∷ [] ≡ s.0 ∷ (s.1 ++ rest) = s.3 in
          let none : s.1 ++ rest ≡ [] = cc in
          let empty : rest ≡ [] = no_rest s.1 rest none in
          parts ∙ ap (λ a. (m ++ (n ∷ [])) ++ a) empty ∙ append-nil (m ++ (n ∷ [])))
    ]

-- a list that goes on after what the check covers
pub checked_at : (c : Call) (l m : List ℕ) (got : ℕ) → Took CheckedCharacters c l m → 0 < length m → got ≡ get_or m 0 0
    → l ≡ covered c ++ (got ∷ drop 1 m)
checked_at c l m got p h e = grind arith

-- where a walk is with one more symbol: the format specifier f twice, and what was taken after the first
pub record Stands (old : List ℕ) (x : ℕ) : Type 0 where
  pub f : ℕ
  pub l : List ℕ
  pub tail : List ℕ
  pub list : after old x ≡ f ∷ (l ++ (x ∷ []))
  pub twice : l ++ (x ∷ []) ≡ f ∷ tail
  pub begins : Begins CheckedCharacters l
  pub before : ((old ≡ []) × (l ≡ [])) ⊎ (old ≡ f ∷ l)

walking_begins : (l m : List ℕ) (f : ℕ) → l ≡ f ∷ m → IsOpen l → Begins CheckedCharacters m
walking_begins l m f e o =
    let c = o.call in
    let k : ℕ = check_of (covered c) in
    let whole : format_of c ∷ (covered c ++ (k ∷ [])) ≡ f ∷ (m ++ (o.next ∷ o.rest)) = o.list ∙ ap (λ a. a ++ (o.next ∷ o.rest)) e in
    let tails : covered c ++ (k ∷ []) ≡ m ++ (o.next ∷ o.rest) = cc in
    open_begins c k o.next m o.rest o.lawful tails

after_list : (old : List ℕ) (f x : ℕ) (l : List ℕ) → old ≡ f ∷ l → after old x ≡ f ∷ (l ++ (x ∷ []))
after_list old f x l e = ap (λ a. after a x) e

pub stands : (old : List ℕ) (x : ℕ) → (old ≡ []) ⊎ IsWalking old → Stands old x
stands old x (inl e) = record {
  f = x;
  l = [];
  tail = [];
  list = ap (λ a. after a x) e;
  twice = refl;
  begins = record { value = checked_characters_good.value; rest = checked_characters_good.text; word = checked_characters_good.word };
  before = inl (e, refl);
}
stands old x (inr w) = record {
  f = w.first;
  l = w.first ∷ w.rest;
  tail = w.rest ++ (x ∷ []);
  list = after_list old w.first x (w.first ∷ w.rest) w.list;
  twice = refl;
  begins = walking_begins old (w.first ∷ w.rest) w.first w.list w.begins;
  before = inr w.list;
}

-- no check is at the beginning
pub no_check_first : IsAtCheck [] → ⊥
no_check_first a = let e : [] ≡ format_of a.call ∷ covered a.call = a.list in cc

-- what was judged of the list without its first symbol, said of the list with both format specifiers
judged : (old : List ℕ) (x : ℕ) (step : Step) (s : Stands old x) → Judges (drop 1 (after old x)) step → Judges (s.l ++ (x ∷ [])) step
judged old x step s j = subst (λ a. Judges (drop 1 a) step) s.list j

open_after : (old : List ℕ) (x : ℕ) (s : Stands old x) → Judges (drop 1 (after old x)) More → IsOpen (after old x)
open_after old x s j = subst IsOpen (sym s.list) (open_of s.f (s.l ++ (x ∷ [])) s.tail s.twice (judged old x More s j))

done_after : (old : List ℕ) (x : ℕ) (call : Call) (s : Stands old x) → Judges (drop 1 (after old x)) (Done call) → after old x ≡ through_check call
done_after old x call s j = s.list ∙ completes s.f x s.l s.tail call s.twice s.begins (judged old x (Done call) s j)

outside_after : (old : List ℕ) (x : ℕ) (s : Stands old x) → Judges (drop 1 (after old x)) Outside
    → (IsViable (after old x) → ⊥) × (IsAtCheck old → ⊥)
outside_after old x s j =
    let k = judged old x Outside s j in
    let leaves = k.1 in
    let e = left_at_end s.l leaves.front leaves.rest leaves.next x s.begins leaves.list leaves.never in
    let never = λ (b : Begins CheckedCharacters (s.l ++ (x ∷ []))). leaves.never (subst (Begins CheckedCharacters) e b) in (
      (λ v. not_viable s.f s.l leaves.front leaves.next x leaves.wants e never (subst IsViable s.list v)),
      (λ a. elim s.before [
        | inl b ↦ no_check_first (subst IsAtCheck b.0 a)
        | inr b ↦ (
            let whole : s.f ∷ s.l ≡ format_of a.call ∷ covered a.call = sym b ∙ a.list in
            let tails : s.l ≡ covered a.call = cc in
            shorter CheckedCharacters a.call (covered a.call) leaves.front leaves.next x [] checked_characters_good (spelled a.call a.lawful) leaves.wants
            (sym e ∙ ap (λ m. m ++ (x ∷ [])) tails))
      ]),
    )

-- no list goes on at the place of the check with another symbol
wrong_not_viable : (f x : ℕ) (l : List ℕ) (c : Call) → IsCall c → l ≡ covered c → check_of (covered c) ≢ x → IsViable (f ∷ (l ++ (x ∷ []))) → ⊥
wrong_not_viable f x l c h e differ v =
    let d = v.call in
    let ends : List ℕ = end_of d ∷ end_of d ∷ [] in
    let k : ℕ = check_of (covered d) in
    let whole : format_of d ∷ ((covered d ++ (k ∷ [])) ++ ends) ≡ f ∷ ((l ++ (x ∷ [])) ++ v.rest) = v.list in
    let tails : (covered d ++ (k ∷ [])) ++ ends ≡ (l ++ (x ∷ [])) ++ v.rest = cc in
    let parts : covered d ++ (k ∷ ends) ≡ covered c ++ (x ∷ v.rest) =
    sym (append_assoc (covered d) (k ∷ []) ends) ∙ tails ∙ append_assoc l (x ∷ []) v.rest ∙ ap (λ a. a ++ (x ∷ v.rest)) e in
    let same = checked_characters_good.one d c (covered d) (covered c) (k ∷ ends) (x ∷ v.rest) (spelled d v.lawful) (spelled c h) parts in
    let check : k ≡ x = head-eq_of_cons-eq same.2 in
    let call : covered d ≡ covered c = same.1 in
    differ (ap check_of (sym call) ∙ check)

-- the check covers something of each call
pub no_cover : (c : Call) → [] ≡ covered c → ⊥
no_cover c e = let k : [] ≡ format_of c ∷ (fields_of c ++ (end_of c ∷ [])) = e in cc

wrong_after : (old : List ℕ) (x want got : ℕ) (s : Stands old x) → Judges (drop 1 (after old x)) (Check want got)
    → FailsCheck old x want got old
wrong_after old x want got s j =
    let w = judged old x (Check want got) s j in
    let c = w.call in
    let place = at_place c s.l w.rest x got w.lawful s.begins w.list in
    let e : s.l ≡ covered c = place.0 in
    let format : s.f ≡ format_of c = head-eq_of_cons-eq (sym s.twice ∙ w.list) in
    let old_is : old ≡ s.f ∷ s.l = elim s.before [ inl b ↦ absurd (no_cover c (sym b.1 ∙ e)) | inr b ↦ b ] in
    record {
      same = refl;
      never = λ v. wrong_not_viable s.f x s.l c w.lawful e (λ m. w.differ (w.check ∙ m ∙ place.1)) (subst IsViable s.list v);
      place = record { call = c; lawful = w.lawful; list = old_is ∙ ap (λ a. a ∷ s.l) format ∙ ap (λ a. format_of c ∷ a) e };
      check = w.check ∙ ap check_of (sym (ap (λ a. drop 1 a) old_is ∙ e));
      symbol = sym place.1;
    }

-- a symbol that is taken
pub step_taken : (old : List ℕ) (x : ℕ) (step : Step) (new : List ℕ) → (old ≡ []) ⊎ IsWalking old → Judges (drop 1 (after old x)) step
    → is_taken step ≡ true → new ≡ after old x → IsStep old x step new
step_taken old x More new w j t e = record { taken = e; begins = subst IsOpen (sym e) (open_after old x (stands old x w) j) }
step_taken old x (Done call) new w j t e = record {
  taken = e;
  lawful = (judged old x (Done call) (stands old x w) j).lawful;
  list = e ∙ done_after old x call (stands old x w) j;
}
step_taken old x Outside new w j t e = absurd (cc)
step_taken old x (Check want got) new w j t e = absurd (cc)

-- a symbol that is left
pub step_left : (old : List ℕ) (x : ℕ) (step : Step) (new : List ℕ) → (old ≡ []) ⊎ IsWalking old → Judges (drop 1 (after old x)) step
    → is_taken step ≡ false → new ≡ old → IsStep old x step new
step_left old x More new w j t e = absurd (cc)
step_left old x (Done call) new w j t e = absurd (cc)
step_left old x Outside new w j t e =
    let never = outside_after old x (stands old x w) j in record { same = e; never = never.0; elsewhere = never.1 }
step_left old x (Check want got) new w j t e =
    let f = wrong_after old x want got (stands old x w) j in
    record { same = e; never = f.never; place = f.place; check = f.check; symbol = f.symbol }

-- what a walk has taken, it may hold
pub walk_keeps : (old : List ℕ) (x : ℕ) (step : Step) → (old ≡ []) ⊎ IsWalking old → Judges (drop 1 (after old x)) step → is_taken step ≡ true
    → IsWalking (after old x) ⊎ IsDone (after old x)
walk_keeps old x More w j t =
    let s = stands old x w in
    inl (record { first = s.f; rest = s.tail; list = s.list ∙ ap (λ a. s.f ∷ a) s.twice; begins = open_after old x s j })
walk_keeps old x (Done call) w j t =
    inr (record { call = call; lawful = (judged old x (Done call) (stands old x w) j).lawful; list = done_after old x call (stands old x w) j })
walk_keeps old x Outside w j t = absurd (cc)
walk_keeps old x (Check want got) w j t = absurd (cc)

-- a walk that isn't done wants a symbol
pub not_done : (l : List ℕ) → (l ≡ []) ⊎ IsWalking l ⊎ IsDone l → (IsDone l → ⊥) → (l ≡ []) ⊎ IsWalking l
not_done l k h = grind arith

-- the symbol is pushed twice where it is the first
pub pushed : (old mid new : List ℕ) (x : ℕ) → ((length old ≡ 0) × (mid ≡ old ++ (x ∷ []))) ⊎ ((0 < length old) × (mid ≡ old)) → new ≡ mid ++ (x ∷ [])
    → new ≡ after old x
pushed old mid new x h e = grind arith

-- what was pushed is taken back
pub taken_back : (old : List ℕ) (x : ℕ) → take (length old) (after old x) ≡ old
taken_back [] x = refl
taken_back (f ∷ old) x = ap (λ a. f ∷ a) (take-append-le (length old) old (x ∷ []) (omega arith) ∙ take-length old)
