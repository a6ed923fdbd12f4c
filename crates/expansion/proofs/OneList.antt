-- Lists of different expansions differ, and how a list that begins with an expansion's list is read.
use Rattle.std.proofs.Common.{◌≡◌, ℕ, inl, inr, List, [], ◌∷◌, ◌++◌, length, Result, Ok, Err, refl, sym, ◌∙◌, ap, append-nil, append_assoc, length-append, arith}
use Rattle.std.proofs.lemmas.List.{same_from_push}
use Rattle.symbol_reader.specs.Checks.{check_of}
use Rattle.symbol_reader.specs.declared.refusals.ReadRefusal.{ReadRefusal}
use Rattle.symbol_reader.specs.declared.refusals.ReadRefusal.TheVariants.{Short, Outside, Check}
use Rattle.symbol_reader.proofs.Laws.{no_word_goes_on}
use Rattle.call_values.specs.declared.choices.End.{End}
use Rattle.call_values.specs.Ends.{end_symbol}
use Rattle.call_values.proofs.PublicLaws.{end_one}
use Rattle.expansion.specs.declared.values.Sets.{Sets}
use Rattle.expansion.specs.Expansions.{IsExpansion}
use Rattle.expansion.specs.Spelling.{covered, through_check, spell}
use Rattle.expansion.specs.Reading.{IsViable, IsReading}
use Rattle.expansion.specs.inside.Grammar.{CheckedSets}
use Rattle.expansion.proofs.SetParts.{checked_sets_good}
use Rattle.expansion.proofs.WholeLists.{lists_good}
use Rattle.plain_laws.proofs.Lists.{split}

up_to_last : (x : Sets) (e : End) → spell x e ≡ (covered x e ++ (check_of (covered x e) ∷ end_symbol e ∷ [])) ++ (end_symbol e ∷ [])
up_to_last x e = sym (append_assoc (covered x e) (check_of (covered x e) ∷ end_symbol e ∷ []) (end_symbol e ∷ []))

-- two expansions' lists that begin one list are one, and so is what follows
pub same_lists : (x y : Sets) (e : End) (r s : List ℕ) → IsExpansion x → IsExpansion y → spell y e ++ r ≡ spell x e ++ s → (x ≡ y) × (r ≡ s)
same_lists x y e r s h k p =
    let same = (lists_good e).one y x (spell y e) (spell x e) r s (record { is_lawful = k; list = refl }) (record { is_lawful = h; list = refl }) p in
    (sym same.0, same.2)

pub spell_same : (x y : Sets) (e f : End) → IsExpansion x → IsExpansion y → spell x e ≡ spell y f → (x ≡ y) × (e ≡ f)
spell_same x y e f h k p =
    let ends : end_symbol e ≡ end_symbol f =
    (same_from_push (covered x e ++ (check_of (covered x e) ∷ end_symbol e ∷ [])) (covered y f ++ (check_of (covered y f) ∷ end_symbol f ∷ []))
    (end_symbol e) (end_symbol f) (sym (up_to_last x e) ∙ p ∙ up_to_last y f)).1 in
    let same : e ≡ f = end_one e f ends in
    let list : spell x e ≡ spell y e = p ∙ ap (λ g. spell y g) (sym same) in
    ((same_lists x y e [] [] h k (ap (λ l. l ++ []) (sym list))).0, same)

pub front_same : (x y : Sets) (e : End) (rest : List ℕ) → IsExpansion x → IsExpansion y → through_check y e ≡ through_check x e ++ rest → (x ≡ y) × (rest ≡ [])
front_same x y e rest h k p =
    let m : ℕ = check_of (covered x e) in let n : ℕ = check_of (covered y e) in
    let parts : covered y e ++ (n ∷ []) ≡ covered x e ++ (m ∷ rest) = p ∙ append_assoc (covered x e) (m ∷ []) rest in
    let same = (checked_sets_good e).one y x (covered y e) (covered x e) (n ∷ []) (m ∷ rest)
    (record { is_lawful = k; list = refl }) (record { is_lawful = h; list = refl }) parts in
    let ends : n ∷ [] ≡ m ∷ rest = same.2 in
    let none : rest ≡ [] = cc in
    (sym same.0, none)

-- no expansion's list goes on after another's
no_longer : (x y : Sets) (e : End) (t s : List ℕ) (a : ℕ) → IsExpansion x → IsExpansion y → spell y e ≡ (spell x e ++ t) ++ (a ∷ s) → ⊥
no_longer x y e t s a h k p =
    let same = same_lists x y e [] (t ++ (a ∷ s)) h k (append-nil (spell y e) ∙ p ∙ append_assoc (spell x e) t (a ∷ s)) in
    let count : 0 ≡ length (t ++ (a ∷ s)) = ap length same.1 in
    absurd (omega (arith, length-append t (a ∷ s)))

-- no check comes after an expansion's whole list
no_check_after : (x y : Sets) (e : End) (t : List ℕ) → IsExpansion x → IsExpansion y → covered y e ≡ spell x e ++ t → ⊥
no_check_after x y e t h k p =
    let tail : List ℕ = end_symbol e ∷ end_symbol e ∷ t in
    let list : covered y e ≡ covered x e ++ (check_of (covered x e) ∷ tail) =
    p ∙ append_assoc (covered x e) (check_of (covered x e) ∷ end_symbol e ∷ end_symbol e ∷ []) t in
    no_word_goes_on (CheckedSets e) (checked_sets_good e) x y (covered x e) (check_of (covered x e)) tail
    (record { is_lawful = h; list = refl }) (record { is_lawful = k; list = sym list })

-- where an expansion's list begins the list, no symbol of it is refused
never_refused : (x : Sets) (e : End) (rest m after : List ℕ) (a : ℕ) → IsExpansion x → spell x e ++ rest ≡ m ++ (a ∷ after)
    → (IsViable e (m ++ (a ∷ [])) → ⊥) → ((t : List ℕ) → m ≡ spell x e ++ t → ⊥) → ⊥
never_refused x e rest m after a h p never beyond = elim (split m (a ∷ after) (spell x e) rest (sym p)) [
  | inl s ↦ beyond s.0 s.1
  | inr s ↦ (
      let first : s.0 ≡ a = (let k : a ∷ after ≡ s.0 ∷ (s.1 ++ rest) = s.3 in cc) in
      never (record {
        expansion = x;
        rest = s.1;
        lawful = h;
        list = s.2 ∙ ap (λ b. m ++ (b ∷ s.1)) first ∙ sym (append_assoc m (a ∷ []) s.1);
      }))
]

pub reads_back : (x : Sets) (e : End) (rest : List ℕ) (answer : Result (Sets × ℕ) ReadRefusal) → IsExpansion x → IsReading e (spell x e ++ rest) answer
    → answer ≡ Ok (x, length (spell x e))
reads_back x e rest (Ok (y, n)) h r =
    let same = same_lists x y e r.rest rest h r.lawful (sym r.list) in
    let place : n ≡ length (spell y e) = r.place in
    let count : n ≡ length (spell x e) = place ∙ ap (λ a. length (spell a e)) (sym same.0) in
    ap (λ a. Ok (a, n)) (sym same.0) ∙ ap (λ m. Ok (x, m)) count
reads_back x e rest (Err (Short n)) h r = absurd (no_longer x r.part.expansion e rest r.part.rest r.part.next h r.part.lawful r.part.list)
reads_back x e rest (Err (Outside n a)) h r =
    absurd (never_refused x e rest r.front r.rest a h r.list r.never
    (λ t p. no_longer x r.part.expansion e t r.part.rest r.part.next h r.part.lawful (r.part.list ∙ ap (λ m. m ++ (r.part.next ∷ r.part.rest)) p)))
reads_back x e rest (Err (Check n want got)) h r =
    absurd (never_refused x e rest r.front r.rest got h r.list r.never
    (λ t p. no_check_after x r.check_place.expansion e t h r.check_place.lawful (sym r.check_place.list ∙ p)))
