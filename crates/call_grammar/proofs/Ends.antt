-- Where the first end of sequence is next.
use Rattle.std.proofs.Common.{◌≡◌, ℕ, ◌≤◌, ◌⊎◌, inl, inr, List, [], ◌∷◌, ◌++◌, length, drop, Err, sym, ◌∙◌, ap, subst, append-nil, append_assoc, arith}
use mathlib.Core.List.{head-eq_of_cons-eq}
use Rattle.std.proofs.lemmas.List.{same_from_push}
use Rattle.symbol_reader.specs.declared.reading.Stop.{Stop}
use Rattle.symbol_reader.specs.declared.reading.Stop.TheVariants.{Short, Outside}
use Rattle.symbol_reader.specs.inside.Reading.{Took, Outcome}
use Rattle.symbol_reader.proofs.Laws.{no_word_goes_on}
use Rattle.call_values.specs.declared.calls.Call.{Call}
use Rattle.dsc_symbols.specs.declared.ends.TheConstants.{ACKNOWLEDGE_BQ, ACKNOWLEDGE_RQ, EOS}
use Rattle.call_grammar.specs.Spelling.{format_of, fields_of, end_of, covered, check_of, through_check}
use Rattle.call_grammar.specs.inside.Grammar.{CheckedCharacters}
use Rattle.call_grammar.specs.Walk.{IsDone, IsAtEnd}
use Rattle.call_grammar.specs.inside.Judging.{IsWalking, IsCovered}
use Rattle.call_grammar.proofs.CallParts.{checked_characters_good}
use Rattle.call_grammar.proofs.Lengths.{walking_short, length-front}
use Rattle.call_grammar.proofs.Steps.{spelled, no_cover}

-- what a walk has taken is short
pub taken_short : (l : List ℕ) → (l ≡ []) ⊎ IsWalking l ⊎ IsDone l → length l ≤ 30
taken_short l (inl e) = omega (arith, walking_short l (inl e))
taken_short l (inr (inl w)) = omega (arith, walking_short l (inr w))
taken_short l (inr (inr d)) = let k : length l ≡ length (through_check d.call) = ap length d.list in omega (arith, length-front d.call)

-- what is read to its end is what a check covers
pub read_covered : (l new : List ℕ) (v : Call) → Took CheckedCharacters v l new → length new ≡ 0 → IsCovered l
read_covered l [] v t n =
    let w : t.front ≡ covered v = t.word.list in
    record { call = v; lawful = t.word.is_lawful; list = t.list ∙ append-nil t.front ∙ w }
read_covered l (x ∷ new) v t n = absurd (omega arith)

pub none_left : (l new : List ℕ) (v : Call) → IsCovered l → Took CheckedCharacters v l new → length new ≡ 0
none_left l new v w t =
    let c : Call = w.call in
    let parts : covered c ++ [] ≡ t.front ++ new = append-nil (covered c) ∙ sym w.list ∙ t.list in
    let same = checked_characters_good.one c v (covered c) t.front [] new (spelled c w.lawful) t.word parts in
    sym (ap length same.2)

pub not_refused : (l new : List ℕ) (why : Stop) → IsCovered l → Outcome CheckedCharacters l (Err why) new → ⊥
not_refused l new Short w o =
    let c : Call = w.call in
    let s = o.wants in
    no_word_goes_on CheckedCharacters checked_characters_good c s.value (covered c) s.next s.rest (spelled c w.lawful)
    (subst (λ a. CheckedCharacters s.value (a ++ (s.next ∷ s.rest))) w.list s.word)
not_refused l new Outside w o =
    let c : Call = w.call in
    let list : covered c ≡ o.front ++ (o.next ∷ o.rest) = sym w.list ∙ o.list in
    o.never (record { value = c; rest = o.rest; word = subst (CheckedCharacters c) (list ∙ sym (append_assoc o.front (o.next ∷ []) o.rest)) (spelled c w.lawful) })

-- where an end of sequence and then a check would follow what a walk has taken, the first end of sequence is next
pub end_at : (l : List ℕ) (e : ℕ) → (l ≡ []) ⊎ IsWalking l ⊎ IsDone l → IsCovered (drop 1 (l ++ (e ∷ []))) → IsAtEnd l
end_at l e (inl k) w =
    let none : [] ≡ covered w.call = ap (λ a. drop 1 (a ++ (e ∷ []))) (sym k) ∙ w.list in
    absurd (no_cover w.call none)
end_at l e (inr (inl k)) w =
    let c : Call = w.call in
    let list : k.first ∷ (k.rest ++ (e ∷ [])) ≡ covered c = ap (λ a. drop 1 (a ++ (e ∷ []))) (sym k.list) ∙ w.list in
    let format : k.first ≡ format_of c = head-eq_of_cons-eq list in
    let whole : l ++ (e ∷ []) ≡ format_of c ∷ covered c =
    ap (λ a. a ++ (e ∷ [])) k.list ∙ ap (λ a. k.first ∷ a) list ∙ ap (λ a. a ∷ covered c) format in
    let same : end_of c ≡ e = (same_from_push (format_of c ∷ format_of c ∷ fields_of c) l (end_of c) e (sym whole)).1 in
    record { call = c; lawful = w.lawful; list = sym whole ∙ ap (λ a. l ++ (a ∷ [])) (sym same) }
end_at l e (inr (inr d)) w =
    let c : Call = d.call in
    let k : ℕ = check_of (covered c) in
    let whole : (covered c ++ (k ∷ [])) ++ (e ∷ []) ≡ covered w.call = ap (λ a. drop 1 (a ++ (e ∷ []))) (sym d.list) ∙ w.list in
    let parts : covered c ++ (k ∷ e ∷ []) ≡ covered w.call ++ [] =
    sym (append_assoc (covered c) (k ∷ []) (e ∷ [])) ∙ whole ∙ sym (append-nil (covered w.call)) in
    let same = checked_characters_good.one c w.call (covered c) (covered w.call) (k ∷ e ∷ []) [] (spelled c d.lawful) (spelled w.call w.lawful) parts in
    let none : k ∷ e ∷ [] ≡ [] = same.2 in
    absurd (cc)

end_known : (c : Call) → (end_of c ≡ ACKNOWLEDGE_RQ) ⊎ (end_of c ≡ ACKNOWLEDGE_BQ) ⊎ (end_of c ≡ EOS)
end_known c = grind arith

covered_as : (l : List ℕ) (e : ℕ) (a : IsAtEnd l) → end_of a.call ≡ e → IsCovered (drop 1 (l ++ (e ∷ [])))
covered_as l e a k = grind arith

-- before the first end of sequence, one of the three would be followed by a check
pub at_end : (l : List ℕ) → IsAtEnd l
    → IsCovered (drop 1 (l ++ (ACKNOWLEDGE_RQ ∷ []))) ⊎ IsCovered (drop 1 (l ++ (ACKNOWLEDGE_BQ ∷ []))) ⊎ IsCovered (drop 1 (l ++ (EOS ∷ [])))
at_end l a = elim (end_known a.call) [
  | inl k ↦ inl (covered_as l ACKNOWLEDGE_RQ a k)
  | inr h ↦ elim h [ inl k ↦ inr (inl (covered_as l ACKNOWLEDGE_BQ a k)) | inr k ↦ inr (inr (covered_as l EOS a k)) ]
]
