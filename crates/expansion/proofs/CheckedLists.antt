-- Lists of expansions up to their checks, and what is read of them.
use Rattle.std.proofs.Common.{◌≡◌, ℕ, ◌-◌, List, [], ◌∷◌, ◌++◌, length, Err, refl, sym, ◌∙◌, ap, subst, append_assoc, append-nil, length-append, arith}
use Rattle.std.proofs.lemmas.List.{append_cancel_right}
use Rattle.symbol_reader.specs.Checks.{check_of}
use Rattle.symbol_reader.specs.declared.reading.Stop.{Stop}
use Rattle.symbol_reader.specs.declared.reading.Stop.TheVariants.{Short, Outside}
use Rattle.symbol_reader.specs.inside.Reading.{Wants, Reads}
use Rattle.symbol_reader.proofs.Steps.{alike, stop}
use Rattle.call_values.specs.declared.choices.End.{End}
use Rattle.call_values.specs.Ends.{end_symbol}
use Rattle.expansion.specs.declared.values.Sets.{Sets}
use Rattle.expansion.specs.Expansions.{IsExpansion}
use Rattle.expansion.specs.Spelling.{covered}
use Rattle.expansion.specs.Reading.{IsViable, IsOpen, BeginsChecked, StopsOpen}
use Rattle.expansion.specs.inside.Grammar.{CheckedSets}
use Rattle.expansion.proofs.SetParts.{checked_sets_good}
use Rattle.expansion.proofs.WholeLists.{closed_good, whole_alike, never_viable, checked_length}

-- what begins a longer list of symbols that a check covers is open
open_of : (e : End) (l : List ℕ) → Wants (CheckedSets e) l → IsOpen e l
open_of e l w =
    let k : ℕ = check_of (covered w.value e) in
    record {
      expansion = w.value;
      next = w.next;
      rest = w.rest ++ (k ∷ []);
      lawful = w.word.is_lawful;
      list = ap (λ a. a ++ (k ∷ [])) (sym w.word.list) ∙ append_assoc l (w.next ∷ w.rest) (k ∷ []);
    }

left_length : (m rest : List ℕ) → length (m ++ rest) - length rest ≡ length m
left_length m rest = omega (arith, length-append m rest)

-- reading stopped in what the check covers
pub checked_stop : (e : End) (l new : List ℕ) (s : Stop) → Reads (CheckedSets e) l (Err s) new → StopsOpen e l (length l - length new)
checked_stop e l new Short p =
    let o = p.outcome in
    record {
      front = l;
      rest = [];
      list = sym (append-nil l);
      place = (let none : length new ≡ 0 = ap length o.none_left in omega arith);
      open_ = open_of e l o.wants;
      never = λ x more is. (let none : [] ≡ x ∷ more = is in absurd cc);
    }
checked_stop e l new Outside p =
    let o = p.outcome in
    let v = (alike (whole_alike e) (stop (checked_sets_good e) (λ x _ _. closed_good e x) p)).outcome in
    let fronts : v.front ++ new ≡ o.front ++ new =
    ap (λ a. v.front ++ a) v.left ∙ sym v.list ∙ o.list ∙ ap (λ a. o.front ++ a) (sym o.left) in
    let same : v.front ≡ o.front = append_cancel_right v.front o.front new fronts in
    record {
      front = o.front;
      rest = new;
      list = o.list ∙ ap (λ a. o.front ++ a) (sym o.left);
      place = ap (λ a. length a - length new) (o.list ∙ ap (λ a. o.front ++ a) (sym o.left)) ∙ left_length o.front new;
      open_ = open_of e o.front o.wants;
      never = λ x more is viable. (
          let begins : v.next ∷ v.rest ≡ x ∷ more = sym v.left ∙ is in
          let first : v.next ≡ x = cc in
          let list : o.front ++ (x ∷ []) ≡ v.front ++ (v.next ∷ []) = ap (λ a. a ++ (x ∷ [])) (sym same) ∙ ap (λ a. v.front ++ (a ∷ [])) (sym first) in
          never_viable e (v.front ++ (v.next ∷ [])) v.never (subst (IsViable e) list viable));
    }

-- after what the check covers comes the check
pub checked_found : (e : End) (x : Sets) (l rest more : List ℕ) (want symbol : ℕ) → IsExpansion x → l ≡ covered x e ++ rest
    → want ≡ check_of (covered x e) → rest ≡ symbol ∷ more → symbol ≡ want → BeginsChecked e l x
checked_found e x l rest more want symbol h list w is found = record {
  rest = more;
  lawful = h;
  list = list ∙ ap (λ a. covered x e ++ a) is ∙ ap (λ a. covered x e ++ (a ∷ more)) (found ∙ w) ∙ sym (append_assoc (covered x e) (check_of (covered x e) ∷ []) more);
}

-- a symbol other than the check goes on to no expansion's list
other_symbol : (e : End) (x : Sets) (symbol : ℕ) → IsExpansion x → (symbol ≡ check_of (covered x e) → ⊥) → IsViable e (covered x e ++ (symbol ∷ [])) → ⊥
other_symbol e x symbol h other v =
    let y : Sets = v.expansion in
    let last : ℕ = end_symbol e in
    let list : covered y e ++ (check_of (covered y e) ∷ last ∷ last ∷ []) ≡ covered x e ++ (symbol ∷ v.rest) =
    v.list ∙ append_assoc (covered x e) (symbol ∷ []) v.rest in
    let same = (checked_sets_good e).one y x (covered y e) (covered x e) (check_of (covered y e) ∷ last ∷ last ∷ []) (symbol ∷ v.rest)
    (record { is_lawful = v.lawful; list = refl }) (record { is_lawful = h; list = refl }) list in
    let rests : check_of (covered y e) ∷ last ∷ last ∷ [] ≡ symbol ∷ v.rest = same.2 in
    let first : check_of (covered y e) ≡ symbol = cc in
    other (sym first ∙ ap (λ a. check_of (covered a e)) same.0)

-- the check isn't there
pub checked_missed : (e : End) (x : Sets) (l rest : List ℕ) → IsExpansion x → l ≡ covered x e ++ rest
    → ((symbol : ℕ) (more : List ℕ) → rest ≡ symbol ∷ more → symbol ≡ check_of (covered x e) → ⊥) → StopsOpen e l (length l - length rest)
checked_missed e x l rest h list other = record {
  front = covered x e;
  rest = rest;
  list = list;
  place = checked_length e x l rest list;
  open_ = record { expansion = x; next = check_of (covered x e); rest = []; lawful = h; list = refl };
  never = λ symbol more is. other_symbol e x symbol h (other symbol more is);
}
