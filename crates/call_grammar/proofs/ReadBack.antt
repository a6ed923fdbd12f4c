-- What is read of a list that begins with a call's list.
use Rattle.std.proofs.Common.{◌≡◌, ℕ, inl, inr, List, [], ◌∷◌, ◌++◌, length, Result, Ok, Err, sym, ◌∙◌, ap, append-nil, append_assoc, length-append, arith}
use Rattle.call_values.specs.declared.calls.Call.{Call}
use Rattle.call_values.specs.Calls.{IsCall}
use Rattle.call_grammar.specs.Spelling.{format_of, covered, up_to_end, spell}
use Rattle.call_grammar.specs.Walk.{IsViable}
use Rattle.call_grammar.specs.Reading.{IsReading}
use Rattle.symbol_reader.specs.declared.refusals.ReadRefusal.{ReadRefusal}
use Rattle.symbol_reader.specs.declared.refusals.ReadRefusal.TheVariants.{Short, Outside, Check}
use Rattle.call_grammar.proofs.Fronts.{same_covered}
use Rattle.call_grammar.proofs.Readings.{tail_of, spell-tail}
use Rattle.plain_laws.proofs.Lists.{split}

-- two calls' lists that begin one list are one, and so is what follows
same_lists : (c d : Call) (r s : List ℕ) → IsCall c → IsCall d → spell d ++ r ≡ spell c ++ s → (c ≡ d) × (tail_of d ++ r ≡ tail_of c ++ s)
same_lists c d r s h k e =
    let left : spell d ++ r ≡ up_to_end d ++ (tail_of d ++ r) = ap (λ m. m ++ r) (spell-tail d) ∙ append_assoc (up_to_end d) (tail_of d) r in
    let right : spell c ++ s ≡ up_to_end c ++ (tail_of c ++ s) = ap (λ m. m ++ s) (spell-tail c) ∙ append_assoc (up_to_end c) (tail_of c) s in
    let whole : format_of d ∷ (covered d ++ (tail_of d ++ r)) ≡ format_of c ∷ (covered c ++ (tail_of c ++ s)) = sym left ∙ e ∙ right in
    let tails : covered d ++ (tail_of d ++ r) ≡ covered c ++ (tail_of c ++ s) = cc in
    same_covered c d (tail_of d ++ r) (tail_of c ++ s) h k tails

-- no call's list goes on after another call's
no_longer : (c d : Call) (t s : List ℕ) (y : ℕ) → IsCall c → IsCall d → spell d ≡ (spell c ++ t) ++ (y ∷ s) → ⊥
no_longer c d t s y h k e =
    let same = same_lists c d [] (t ++ (y ∷ s)) h k (append-nil (spell d) ∙ e ∙ append_assoc (spell c) t (y ∷ s)) in
    let count : length (tail_of d ++ []) ≡ length (tail_of c ++ (t ++ (y ∷ s))) = ap length same.1 in
    absurd (omega (arith, length-append t (y ∷ s)))

-- no check comes after a call's whole list
no_check_after : (c d : Call) (t : List ℕ) → IsCall c → IsCall d → up_to_end d ≡ spell c ++ t → ⊥
no_check_after c d t h k e =
    let e1 : up_to_end d ≡ up_to_end c ++ (tail_of c ++ t) = e ∙ ap (λ m. m ++ t) (spell-tail c) ∙ append_assoc (up_to_end c) (tail_of c) t in
    let e2 : format_of d ∷ covered d ≡ format_of c ∷ (covered c ++ (tail_of c ++ t)) = e1 in
    let e3 : covered d ≡ covered c ++ (tail_of c ++ t) = cc in
    let same = same_covered c d [] (tail_of c ++ t) h k (append-nil (covered d) ∙ e3) in
    let count : 0 ≡ length (tail_of c ++ t) = ap length same.1 in
    absurd (omega arith)

-- where a call's list begins the list, no symbol of it is refused
never_refused : (c : Call) (rest front after : List ℕ) (x : ℕ) → IsCall c → spell c ++ rest ≡ front ++ (x ∷ after) → (IsViable (front ++ (x ∷ [])) → ⊥)
    → ((t : List ℕ) → front ≡ spell c ++ t → ⊥) → ⊥
never_refused c rest front after x h e never beyond = elim (split front (x ∷ after) (spell c) rest (sym e)) [
  | inl s ↦ beyond s.0 s.1
  | inr s ↦ (
      let first : s.0 ≡ x = (let k : x ∷ after ≡ s.0 ∷ (s.1 ++ rest) = s.3 in cc) in
      never (record {
        call = c;
        rest = s.1;
        lawful = h;
        list = s.2 ∙ ap (λ a. front ++ (a ∷ s.1)) first ∙ sym (append_assoc front (x ∷ []) s.1);
      }))
]

pub reads_back : (c : Call) (rest : List ℕ) (answer : Result (Call × ℕ) ReadRefusal) → IsCall c → IsReading (spell c ++ rest) answer
    → answer ≡ Ok (c, length (spell c))
reads_back c rest (Ok (d, n)) h r =
    let same = same_lists c d r.rest rest h r.lawful (sym r.list) in
    let place : n ≡ length (spell d) = r.place in
    let count : n ≡ length (spell c) = place ∙ ap (λ a. length (spell a)) (sym same.0) in
    ap (λ a. Ok (a, n)) (sym same.0) ∙ ap (λ m. Ok (c, m)) count
reads_back c rest (Err (Short n)) h r = absurd (no_longer c r.part.call rest r.part.rest r.part.next h r.part.lawful r.part.list)
reads_back c rest (Err (Outside n x)) h r =
    absurd (never_refused c rest r.front r.rest x h r.list r.never
    (λ t e. no_longer c r.part.call t r.part.rest r.part.next h r.part.lawful (r.part.list ∙ ap (λ m. m ++ (r.part.next ∷ r.part.rest)) e)))
reads_back c rest (Err (Check n want got)) h r =
    absurd (never_refused c rest r.front r.rest got h r.list r.never
    (λ t e. no_check_after c r.check_place.call t h r.check_place.lawful (sym r.check_place.list ∙ e)))
