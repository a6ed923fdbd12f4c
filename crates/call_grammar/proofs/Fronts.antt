-- Lists of different calls differ before their ends.
use Rattle.std.proofs.Common.{◌≡◌, ℕ, ◌⊎◌, inl, inr, List, [], ◌∷◌, ◌++◌, refl, sym, ◌∙◌, ap, append_assoc, append-nil}
use Rattle.call_values.specs.declared.calls.Call.{Call}
use Rattle.call_values.specs.Calls.{IsCall}
use Rattle.call_grammar.specs.Spelling.{format_of, end_of, covered, check_of, up_to_end, through_check, spell}
use Rattle.call_grammar.specs.Walk.{IsOpen, IsDone}
use Rattle.call_grammar.proofs.CallParts.{checked_characters_good}

-- what the check covers of a call begins that of no other call
pub same_covered : (c d : Call) (r s : List ℕ) → IsCall c → IsCall d → covered d ++ r ≡ covered c ++ s → (c ≡ d) × (r ≡ s)
same_covered c d r s h k e =
    let one = checked_characters_good.one d c (covered d) (covered c) r s (record { is_lawful = k; list = refl }) (record { is_lawful = h; list = refl }) e in
    (sym one.0, one.2)

pub front_same : (c d : Call) (rest : List ℕ) → IsCall c → IsCall d → through_check d ≡ through_check c ++ rest → (c ≡ d) × (rest ≡ [])
front_same c d rest h k e =
    let m : ℕ = check_of (covered c) in let n : ℕ = check_of (covered d) in
    let whole : format_of d ∷ (covered d ++ (n ∷ [])) ≡ format_of c ∷ ((covered c ++ (m ∷ [])) ++ rest) = e in
    let tails : covered d ++ (n ∷ []) ≡ (covered c ++ (m ∷ [])) ++ rest = cc in
    let same = same_covered c d (n ∷ []) (m ∷ rest) h k (tails ∙ append_assoc (covered c) (m ∷ []) rest) in
    let ends : n ∷ [] ≡ m ∷ rest = same.1 in
    let none : rest ≡ [] = cc in
    (same.0, none)

-- up to its first end of sequence no call's list begins another's
pub end_same : (c d : Call) (rest : List ℕ) → IsCall c → IsCall d → up_to_end d ≡ up_to_end c ++ rest → (c ≡ d) × (rest ≡ [])
end_same c d rest h k e =
    let whole : format_of d ∷ covered d ≡ format_of c ∷ (covered c ++ rest) = e in
    let tails : covered d ≡ covered c ++ rest = cc in
    let same = same_covered c d [] rest h k (append-nil (covered d) ∙ tails) in
    (same.0, sym same.1)

pub spell_same : (c d : Call) → IsCall c → IsCall d → spell c ≡ spell d → c ≡ d
spell_same c d h k e =
    let m : ℕ = check_of (covered c) in let n : ℕ = check_of (covered d) in
    let ends : List ℕ = end_of c ∷ end_of c ∷ [] in let tail : List ℕ = end_of d ∷ end_of d ∷ [] in
    let whole : format_of c ∷ ((covered c ++ (m ∷ [])) ++ ends) ≡ format_of d ∷ ((covered d ++ (n ∷ [])) ++ tail) = e in
    let tails : (covered c ++ (m ∷ [])) ++ ends ≡ (covered d ++ (n ∷ [])) ++ tail = cc in
    (same_covered c d (n ∷ tail) (m ∷ ends) h k
    (sym (append_assoc (covered d) (n ∷ []) tail) ∙ sym tails ∙ append_assoc (covered c) (m ∷ []) ends)).0

no_more : (l : List ℕ) (x : ℕ) (rest : List ℕ) → x ∷ rest ≡ [] → ⊥
no_more l x rest e = cc

pub open_not_done : (l : List ℕ) → (l ≡ []) ⊎ IsOpen l → IsDone l → ⊥
open_not_done l (inl e) d = let k : [] ≡ format_of d.call ∷ (covered d.call ++ (check_of (covered d.call) ∷ [])) = sym e ∙ d.list in cc
open_not_done l (inr o) d =
    let e : through_check o.call ≡ through_check d.call ++ (o.next ∷ o.rest) = o.list ∙ ap (λ a. a ++ (o.next ∷ o.rest)) d.list in
    let same = front_same d.call o.call (o.next ∷ o.rest) d.lawful o.lawful e in
    no_more l o.next o.rest same.1
