-- The whole lists of expansions, and what is read of them.
use Rattle.std.proofs.Common.{◌≡◌, ℕ, ◌+◌, ◌-◌, ◌≤◌, ◌==◌, Bool, true, false, List, [], ◌∷◌, ◌++◌, length, take, get_or, Result, Ok, Err, refl, sym, ◌∙◌, ap, subst, append_assoc, length-append, arith}
use Rattle.std.proofs.lemmas.Grind.{common_steps}
use Rattle.std.proofs.lemmas.List.{append_cancel_right}
use Rattle.std.proofs.lemmas.Bool.{eqb-true, eqb-false}
use Rattle.std.proofs.Math.Seq.{get_or-append_seam}
use Rattle.symbol_reader.specs.Checks.{check_of}
use Rattle.symbol_reader.specs.declared.reading.Stop.{Stop}
use Rattle.symbol_reader.specs.declared.reading.Stop.TheVariants.{Short, Outside}
use Rattle.symbol_reader.specs.declared.refusals.ReadRefusal.{ReadRefusal}
use Rattle.symbol_reader.specs.declared.refusals.ReadRefusal.TheVariants as refusal
use Rattle.symbol_reader.specs.declared.refusals.ReadRefusal.TheVariants.{Check}
use Rattle.symbol_reader.specs.inside.Languages.{Only, Then, Spelled}
use Rattle.symbol_reader.specs.inside.Reading.{Begins, Wants, Leaves, Reads}
use Rattle.symbol_reader.specs.inside.Closings.{Closing}
use Rattle.symbol_reader.proofs.Laws.{Good, Alike, then_good, only_good, alike_good, no_word_goes_on}
use Rattle.symbol_reader.proofs.Steps.{alike, next, stop, one_then, spelled_then, length_left}
use Rattle.symbol_reader.proofs.Closings.{closing_good}
use Rattle.call_values.specs.declared.choices.End.{End}
use Rattle.call_values.specs.Ends.{end_symbol}
use Rattle.expansion.specs.declared.values.Sets.{Sets}
use Rattle.expansion.specs.Expansions.{IsExpansion}
use Rattle.expansion.specs.Spelling.{covered, spell}
use Rattle.expansion.specs.Reading.{IsViable, IsPart, IsAtCheck, BeginsWith, EndsShort, EndsOutside, EndsWrong, IsReading}
use Rattle.expansion.specs.inside.Grammar.{CheckedSets}
use Rattle.expansion.proofs.SetParts.{checked_sets_good}
use Rattle.expansion.proofs.Lengths.{length-spell}

-- the whole lists
abbrev pub Lists : End → Sets → List ℕ → Type 0
Lists e = Spelled IsExpansion (λ x. spell x e)

-- the check of an expansion, and the end of sequence twice more
abbrev pub Closed : End → Sets → Sets → List ℕ → Type 0
Closed e x = Then (Closing (check_of (covered x e)) (end_symbol e)) (λ _. Only x)

abbrev pub Whole : End → Sets → List ℕ → Type 0
Whole e = Then (CheckedSets e) (Closed e)

pub closed_good : (e : End) (x : Sets) → Good (Closed e x)
closed_good e x = then_good _ _ (closing_good (check_of (covered x e)) (end_symbol e)) (λ _ _ _. only_good x)

whole_good : (e : End) → Good (Whole e)
whole_good e = then_good _ _ (checked_sets_good e) (λ x _ _. closed_good e x)

closing_list : (k last : ℕ) (u : Unit {0}) (w : List ℕ) → Closing k last u w → w ≡ k ∷ last ∷ last ∷ []
closing_list k last u w p = grind arith

to_whole : (e : End) (x : Sets) (word : List ℕ) → Whole e x word → Lists e x word
to_whole e x word p = grind arith

from_whole : (e : End) (x : Sets) (word : List ℕ) → Lists e x word → Whole e x word
from_whole e x word p =
    let k : ℕ = check_of (covered x e) in
    let last : ℕ = end_symbol e in
    subst (λ w. Whole e x w) (sym p.list) (spelled_then x (k ∷ last ∷ last ∷ []) p.is_lawful (record {
      chosen = tt;
      front = k ∷ last ∷ last ∷ [];
      back = [];
      before = one_then k refl (one_then last refl (one_then last refl (record { value = refl; list = refl })));
      after = record { value = refl; list = refl };
      list = refl;
    }))

pub whole_alike : (e : End) → Alike (Whole e) (Lists e)
whole_alike e = record { to = to_whole e; back = from_whole e }

pub lists_good : (e : End) → Good (Lists e)
lists_good e = alike_good _ _ (whole_alike e) (whole_good e)

pub part_of : (e : End) (l : List ℕ) → Wants (Lists e) l → IsPart e l
part_of e l w = record { expansion = w.value; next = w.next; rest = w.rest; lawful = w.word.is_lawful; list = sym w.word.list }

pub never_viable : (e : End) (l : List ℕ) → (Begins (Lists e) l → ⊥) → IsViable e l → ⊥
never_viable e l never v = never (record { value = v.expansion; rest = v.rest; word = record { is_lawful = v.lawful; list = sym v.list } })

-- a part of an expansion's list is short
pub part_short : (e : End) (l : List ℕ) → IsPart e l → length l ≤ 14
part_short e l p =
    let k : length (spell p.expansion e) ≡ length (l ++ (p.next ∷ p.rest)) = ap length p.list in
    omega (arith, length-spell p.expansion e, length-append l (p.next ∷ p.rest))

-- where the list ends in what the check covers
pub checked_short : (e : End) (l new : List ℕ) → Reads (CheckedSets e) l (Err Short) new → EndsShort e l (length l)
checked_short e l new p =
    let whole = alike (whole_alike e) (stop (checked_sets_good e) (λ x _ _. closed_good e x) p) in
    record { part = part_of e l whole.outcome.wants; place = refl }

pub left_place : (e : End) (l new : List ℕ) (v : Leaves (Lists e) l new) → length l - length new ≡ length v.front
left_place e l new v =
    ap (λ a. length a - length new) v.list ∙ ap (λ a. length (v.front ++ (v.next ∷ v.rest)) - length a) v.left ∙ length_left v.front v.rest v.next

left_symbol : (e : End) (l new : List ℕ) (v : Leaves (Lists e) l new) → get_or l (length l - length new) 0 ≡ v.next
left_symbol e l new v =
    ap (λ a. get_or l a 0) (left_place e l new v) ∙ ap (λ a. get_or a (length v.front) 0) v.list ∙ get_or-append_seam v.front v.next v.rest 0

left_list : (e : End) (l new : List ℕ) (v : Leaves (Lists e) l new) → l ≡ v.front ++ (get_or l (length l - length new) 0 ∷ v.rest)
left_list e l new v = v.list ∙ ap (λ a. v.front ++ (a ∷ v.rest)) (sym (left_symbol e l new v))

left_never : (e : End) (l new : List ℕ) (v : Leaves (Lists e) l new) → IsViable e (v.front ++ (get_or l (length l - length new) 0 ∷ [])) → ⊥
left_never e l new v w =
    never_viable e (v.front ++ (v.next ∷ [])) v.never (subst (λ a. IsViable e (v.front ++ (a ∷ []))) (left_symbol e l new v) w)

pub left_outside : (e : End) (l new : List ℕ) (v : Leaves (Lists e) l new) → (IsAtCheck e v.front → ⊥)
    → EndsOutside e l (length l - length new) (get_or l (length l - length new) 0)
left_outside e l new v elsewhere = record {
  front = v.front;
  rest = v.rest;
  list = left_list e l new v;
  place = left_place e l new v;
  part = part_of e v.front v.wants;
  never = left_never e l new v;
  elsewhere = elsewhere;
}

pub outside_short : (e : End) (l : List ℕ) (n x : ℕ) → EndsOutside e l n x → n ≤ 14
outside_short e l n x o = let k : n ≡ length o.front = o.place in omega (arith, part_short e o.front o.part)

-- where a list leaves what the check covers, no check comes
pub checked_outside : (e : End) (l new : List ℕ) → Reads (CheckedSets e) l (Err Outside) new
    → EndsOutside e l (length l - length new) (get_or l (length l - length new) 0)
checked_outside e l new p =
    let o = p.outcome in
    let v = (alike (whole_alike e) (stop (checked_sets_good e) (λ x _ _. closed_good e x) p)).outcome in
    let fronts : v.front ++ new ≡ o.front ++ new =
    ap (λ a. v.front ++ a) v.left ∙ sym v.list ∙ o.list ∙ ap (λ a. o.front ++ a) (sym o.left) in
    let same : v.front ≡ o.front = append_cancel_right v.front o.front new fronts in
    left_outside e l new v (λ a.
    (let w = o.wants in
    let is : o.front ≡ covered a.expansion e = sym same ∙ a.list in
    no_word_goes_on (CheckedSets e) (checked_sets_good e) a.expansion w.value (covered a.expansion e) w.next w.rest
    (record { is_lawful = a.lawful; list = refl }) (subst (λ b. CheckedSets e w.value (b ++ (w.next ∷ w.rest))) is w.word)))

-- what the check covers was read
took : (e : End) (x : Sets) (l rest : List ℕ) → IsExpansion x → l ≡ covered x e ++ rest → Reads (CheckedSets e) l (Ok x) rest
took e x l rest h list = record { outcome = record { front = covered x e; word = record { is_lawful = h; list = refl }; list = list } }

pub closed_ok : (e : End) (x : Sets) (l rest new : List ℕ) (u : Unit {0}) → IsExpansion x → l ≡ covered x e ++ rest
    → Reads (Closing (check_of (covered x e)) (end_symbol e)) rest (Ok u) new → BeginsWith e l x (length l - length rest + 3)
closed_ok e x l rest new u h list p =
    let o = p.outcome in
    let k : ℕ = check_of (covered x e) in
    let last : ℕ = end_symbol e in
    let tail : o.front ≡ k ∷ last ∷ last ∷ [] = closing_list k last u o.front o.word in
    let whole : l ≡ spell x e ++ new =
    list ∙ ap (λ a. covered x e ++ a) o.list ∙ ap (λ a. covered x e ++ (a ++ new)) tail ∙ sym (append_assoc (covered x e) (k ∷ last ∷ last ∷ []) new) in
    let lengths : length l ≡ length (covered x e ++ rest) = ap length list in
    record {
      rest = new;
      lawful = h;
      list = whole;
      place = omega (arith, length-append (covered x e) rest, length-append (covered x e) (k ∷ last ∷ last ∷ []));
    }

pub closed_short : (e : End) (x : Sets) (l rest new : List ℕ) → IsExpansion x → l ≡ covered x e ++ rest
    → Reads (Closing (check_of (covered x e)) (end_symbol e)) rest (Err Short) new → EndsShort e l (length l)
closed_short e x l rest new h list p = grind (arith, common_steps)

pub closed_left : (e : End) (x : Sets) (l rest new : List ℕ) → IsExpansion x → l ≡ covered x e ++ rest
    → Reads (Closing (check_of (covered x e)) (end_symbol e)) rest (Err Outside) new → Leaves (Lists e) l new
closed_left e x l rest new h list p =
    (alike (whole_alike e) (next (checked_sets_good e) (took e x l rest h list)
    (stop (closing_good (check_of (covered x e)) (end_symbol e)) (λ _ _ _. only_good x) p))).outcome

-- beginnings of one list that are as long as one another
same_front : (a b c d : List ℕ) → a ++ b ≡ c ++ d → length a ≡ length c → a ≡ c
same_front [] b [] d e h = refl
same_front [] b (y ∷ c) d e h = absurd (omega arith)
same_front (x ∷ a) b [] d e h = absurd (omega arith)
same_front (x ∷ a) b (y ∷ c) d e h =
    let first : x ≡ y = cc in
    let rest : a ++ b ≡ c ++ d = cc in
    let tails : a ≡ c = same_front a b c d rest (omega arith) in
    cc

pub checked_length : (e : End) (x : Sets) (l rest : List ℕ) → l ≡ covered x e ++ rest → length l - length rest ≡ length (covered x e)
checked_length e x l rest list = let k : length l ≡ length (covered x e ++ rest) = ap length list in omega (arith, length-append (covered x e) rest)

-- the list is left at the place of the check
pub closed_wrong : (e : End) (x : Sets) (l rest new : List ℕ) (v : Leaves (Lists e) l new) → IsExpansion x → l ≡ covered x e ++ rest
    → length l - length new ≡ length l - length rest
    → EndsWrong e l (length l - length new) (check_of (covered x e)) (get_or l (length l - length new) 0)
closed_wrong e x l rest new v h list n =
    let count : length v.front ≡ length (covered x e) = sym (left_place e l new v) ∙ n ∙ checked_length e x l rest list in
    let is : v.front ≡ covered x e = same_front v.front (v.next ∷ v.rest) (covered x e) rest (sym v.list ∙ list) count in
    record {
      front = v.front;
      rest = v.rest;
      list = left_list e l new v;
      place = left_place e l new v;
      check_place = record { expansion = x; lawful = h; list = is };
      never = left_never e l new v;
      check = ap check_of (sym is);
    }

-- the list is left at another place
pub closed_outside : (e : End) (x : Sets) (l rest new : List ℕ) (v : Leaves (Lists e) l new) → IsExpansion x → l ≡ covered x e ++ rest
    → (length l - length new ≡ length l - length rest → ⊥)
    → EndsOutside e l (length l - length new) (get_or l (length l - length new) 0)
closed_outside e x l rest new v h list n = left_outside e l new v (λ a.
    (let y : Sets = a.expansion in
    let parts : covered y e ++ (v.next ∷ v.rest) ≡ covered x e ++ rest = ap (λ b. b ++ (v.next ∷ v.rest)) (sym a.list) ∙ sym v.list ∙ list in
    let same = (checked_sets_good e).one y x (covered y e) (covered x e) (v.next ∷ v.rest) rest
    (record { is_lawful = a.lawful; list = refl }) (record { is_lawful = h; list = refl }) parts in
    n (left_place e l new v ∙ ap length (a.list ∙ same.1) ∙ sym (checked_length e x l rest list))))

-- why a list is refused after what the check covers
pub closed_refused : (e : End) (x : Sets) (l rest new : List ℕ) (v : Leaves (Lists e) l new) (want : ℕ) (r : ReadRefusal) (test : Bool) → IsExpansion x
    → l ≡ covered x e ++ rest → want ≡ check_of (covered x e) → ((length l - length new) == (length l - length rest)) ≡ test
    → (length l - length new ≡ length l - length rest → r ≡ Check (length l - length new) want (get_or l (length l - length new) 0))
    → ((length l - length new ≡ length l - length rest → ⊥) → r ≡ refusal.Outside (length l - length new) (get_or l (length l - length new) 0))
    → IsReading e l (Err r)
closed_refused e x l rest new v want r true h list w t at else =
    let n : length l - length new ≡ length l - length rest = eqb-true _ _ t in
    subst (λ a. IsReading e l (Err a)) (sym (at n))
    (subst (λ a. EndsWrong e l (length l - length new) a (get_or l (length l - length new) 0)) (sym w) (closed_wrong e x l rest new v h list n))
closed_refused e x l rest new v want r false h list w t at else =
    let n : length l - length new ≡ length l - length rest → ⊥ = eqb-false _ _ t in
    subst (λ a. IsReading e l (Err a)) (sym (else n)) (closed_outside e x l rest new v h list n)

-- what the check covers comes before its place
pub covered_part : (e : End) (x : Sets) (l rest : List ℕ) → l ≡ covered x e ++ rest → take (length l - length rest) l ≡ covered x e
covered_part e x l rest list = grind (arith, common_steps)

-- the same reading under other names
pub closing_as : (k m last final : ℕ) (l rest new after : List ℕ) (r : Result (Unit {0}) Stop) → k ≡ m → last ≡ final → l ≡ rest → new ≡ after
    → Reads (Closing k last) l r new → Reads (Closing m final) rest r after
closing_as k m last final l rest new after r a b c d p = grind arith
