-- What lacks the last symbol of a word lacks one symbol of every word that it begins: languages, along the forms of
-- calls.
use Rattle.std.proofs.Common.{◌≡◌, ℕ, inl, inr, List, [], ◌∷◌, ◌++◌, length, refl, sym, ◌∙◌, ap, subst, append_assoc, arith}
use mathlib.Core.List.{head-eq_of_cons-eq}
use Rattle.symbol_reader.proofs.Laws.{Alike, no_word_goes_on}
use Rattle.call_values.specs.declared.calls.Call.{Call}
use Rattle.call_grammar.specs.Spelling.{format_of, covered, check_of, end_of}
use Rattle.call_grammar.specs.inside.Grammar.{CheckedCharacters}
use Rattle.call_grammar.specs.Walk.{IsViable, IsAtEnd, IsAtCheck}
use Rattle.call_grammar.proofs.CodedParts.{formats_good}
use Rattle.call_grammar.proofs.CallParts.{call_alike, checked_characters_good}
use Rattle.call_grammar.proofs.Steps.{spelled, no_cover}
use Rattle.plain_laws.proofs.Lists.{split}
use Rattle.call_grammar.proofs.FormParts.{LacksOne, then_last, after_format_closes}

one_symbol : (l : List ℕ) → length l ≡ 1 → (x : ℕ) × (l ≡ x ∷ [])
one_symbol [] h = absurd (omega arith)
one_symbol (x ∷ []) h = (x, refl)
one_symbol (x ∷ (y ∷ l)) h = absurd (omega arith)

alike_last : {V : Type 0} (first second : V → List ℕ → Type 0) → Alike first second → LacksOne first → LacksOne second
alike_last first second same l = record {
  some = λ v p. l.some v (same.back v [] p);
  one = λ v u front last rest p q. l.one v u front last rest (same.back v (front ++ (last ∷ [])) p) (same.back u (front ++ rest) q);
}

checked_last : LacksOne CheckedCharacters
checked_last = alike_last _ _ call_alike (then_last _ _ formats_good (λ f _ _. (after_format_closes f).last))

-- after all fields of a call, a symbol with which a call goes on is followed by a check
one_more : (l : List ℕ) (x : ℕ) (c d : Call) (rest tail : List ℕ) → CheckedCharacters c (l ++ (end_of c ∷ [])) → CheckedCharacters d (covered d)
    → covered d ++ tail ≡ l ++ (x ∷ rest) → covered d ≡ l ++ (x ∷ [])
one_more l x c d rest tail p q e = elim (split (covered d) tail l (x ∷ rest) e) [
  | inl h ↦ (
      let one = one_symbol h.0 (checked_last.one c d l (end_of c) h.0 p (subst (CheckedCharacters d) h.1 q)) in
      let starts : x ∷ rest ≡ one.0 ∷ tail = h.2 ∙ ap (λ t. t ++ tail) one.1 in
      let same : x ≡ one.0 = head-eq_of_cons-eq starts in
      h.1 ∙ ap (λ t. l ++ t) one.1 ∙ ap (λ y. l ++ (y ∷ [])) (sym same))
  | inr h ↦ (
      let longer : l ++ (end_of c ∷ []) ≡ covered d ++ (h.0 ∷ (h.1 ++ (end_of c ∷ []))) =
      ap (λ t. t ++ (end_of c ∷ [])) h.2 ∙ append_assoc (covered d) (h.0 ∷ h.1) (end_of c ∷ []) in
      absurd (no_word_goes_on CheckedCharacters checked_characters_good d c (covered d) h.0 (h.1 ++ (end_of c ∷ [])) q (subst (CheckedCharacters c) longer p)))
]

pub end_then_check : (l : List ℕ) (x : ℕ) → IsAtEnd l → IsViable (l ++ (x ∷ [])) → IsAtCheck (l ++ (x ∷ []))
end_then_check [] x a v =
    let list : format_of a.call ∷ covered a.call ≡ end_of a.call ∷ [] = a.list in
    let none : covered a.call ≡ [] = cc in
    absurd (no_cover a.call (sym none))
end_then_check (f ∷ l) x a v =
    let c : Call = a.call in
    let d : Call = v.call in
    let k : ℕ = check_of (covered d) in
    let tail : List ℕ = end_of d ∷ end_of d ∷ [] in
    let list : format_of c ∷ covered c ≡ f ∷ (l ++ (end_of c ∷ [])) = a.list in
    let fields : covered c ≡ l ++ (end_of c ∷ []) = cc in
    let whole : format_of d ∷ ((covered d ++ (k ∷ [])) ++ tail) ≡ f ∷ ((l ++ (x ∷ [])) ++ v.rest) = v.list in
    let rest : (covered d ++ (k ∷ [])) ++ tail ≡ (l ++ (x ∷ [])) ++ v.rest = cc in
    let format : format_of d ≡ f = head-eq_of_cons-eq whole in
    let split_at : covered d ++ (k ∷ tail) ≡ l ++ (x ∷ v.rest) = sym (append_assoc (covered d) (k ∷ []) tail) ∙ rest ∙ append_assoc l (x ∷ []) v.rest in
    let same : covered d ≡ l ++ (x ∷ []) = one_more l x c d v.rest (k ∷ tail) (subst (CheckedCharacters c) fields (spelled c a.lawful)) (spelled d v.lawful) split_at in
    record { call = d; lawful = v.lawful; list = ap (λ y. y ∷ (l ++ (x ∷ []))) (sym format) ∙ ap (λ t. format_of d ∷ t) (sym same) }
