-- reading the group that a line names
use Rattle.std.proofs.Common.{◌≡◌, ℕ, suc, ◌≤◌, min, Bool, true, false, ◌==◌, if◌then◌else◌, List, [], ◌∷◌, ◌++◌, length, codes, decimal, Result, Ok, Err, ◌⊎◌, inl, inr, refl, sym, ◌∙◌, ap, subst, append-nil, length-append, arith}
use Rattle.std.proofs.lemmas.Bool.{eqb-true}
use Rattle.line_grammar.specs.Tokens.{free_number, value_after}
use Rattle.line_grammar.specs.Grammar.{Grammar, finish, word, field, Parts, second, written}
use Rattle.line_grammar.specs.inside.Reading.{after, ended, read_token, named, further, read}
use Rattle.line_grammar.proofs.Chains.{after_list, word_missed, word_on, token_missed, token_on, fault_within, both_miss, no_end}
use Rattle.line_grammar.proofs.Decimals.{number_read}
use Rattle.input_lines.specs.ReceiverLine.{behind_blank, grouped, group_parts}
use Rattle.input_lines.specs.inside.Reading.{IsBehindBlank, IsNamed, group_text}

-- a group's digits miss
group_missed : (rest : Grammar) (digits : List ℕ) (left : ℕ) → IsBehindBlank rest → left ≤ length digits → read (field (free_number 0 4294967295) (behind_blank rest)) digits ≡ Err left
    → read (grouped (behind_blank rest)) (32 ∷ 103 ∷ digits) ≡ Err left
unfolding after
group_missed rest digits left blank few h =
    let n = length digits in
    let in_blank = word_on (codes " ") rest (32 ∷ 103 ∷ digits) (103 ∷ digits) (suc n) refl (blank.no_group digits) in
    let no_body = both_miss finish (word (codes " ") rest) (32 ∷ 103 ∷ digits) (suc (suc n)) (suc n) (suc n) (no_end 32 (103 ∷ digits)) in_blank (omega arith) in
    let no_name = word_on (codes " g") (field (free_number 0 4294967295) (behind_blank rest)) (32 ∷ 103 ∷ digits) digits left refl h in
    both_miss (behind_blank rest) (word (codes " g") (field (free_number 0 4294967295) (behind_blank rest))) (32 ∷ 103 ∷ digits) (suc n) left left no_body no_name (omega arith)

pub no_number : (bytes digits : List ℕ) (left : ℕ) → after (codes " g") bytes ≡ Ok digits → read_token (free_number 0 4294967295) digits ≡ Err left
    → (rest : Grammar) → IsBehindBlank rest → read (grouped (behind_blank rest)) bytes ≡ Err left
no_number bytes digits left e h rest blank =
    subst (λ (l : List ℕ). read (grouped (behind_blank rest)) l ≡ Err left) (sym (after_list (codes " g") bytes digits e))
    (group_missed rest digits left blank (fault_within (field (free_number 0 4294967295) finish) digits left refl (token_missed (free_number 0 4294967295) finish digits left h)) (token_missed (free_number 0 4294967295) (behind_blank rest) digits left h))

-- a group was read
pub group_named : (bytes digits front back : List ℕ) (n : ℕ) → after (codes " g") bytes ≡ Ok digits → read_token (free_number 0 4294967295) digits ≡ Ok (front, back) → value_after 0 front ≡ n
    → IsNamed n bytes back
group_named bytes digits front back n e h v =
    let number = number_read 0 4294967295 n digits front back (omega arith) (omega arith) h v in
    let text = number.0 ∙ ap (λ (l : List ℕ). l ++ back) (sym (append-nil (decimal n))) in
    (true, (omega (arith, number.2), after_list (codes " g") bytes digits e ∙ ap (λ (l : List ℕ). codes " g" ++ l) text))

-- what a group and what follows it are written of
joined : (named : Bool) (group : ℕ) (G : Grammar) (q : Parts) → group_text named group ++ written G q ≡ written (grouped G) (group_parts named group q)
joined false group G q = refl
joined true group G q = ap (λ (l : List ℕ). codes " g" ++ (l ++ written G q)) (append-nil (decimal group))

pub named_written : (group : ℕ) (bytes back : List ℕ) (name : IsNamed group bytes back) (G : Grammar) (q : Parts) → back ≡ written G q → bytes ≡ written (grouped G) (group_parts name.0 group q)
named_written group bytes back name G q e = name.1.1 ∙ ap (λ (l : List ℕ). group_text name.0 group ++ l) e ∙ joined name.0 group G q

pub no_rest : (bytes digits front back : List ℕ) (n : ℕ) → after (codes " g") bytes ≡ Ok digits → read_token (free_number 0 4294967295) digits ≡ Ok (front, back) → value_after 0 front ≡ n
    → (rest : Grammar) (left : ℕ) → IsBehindBlank rest → read (behind_blank rest) back ≡ Err left → read (grouped (behind_blank rest)) bytes ≡ Err left
no_rest bytes digits front back n e h v rest left blank k =
    let number = number_read 0 4294967295 n digits front back (omega arith) (omega arith) h v in
    let few : left ≤ length back = fault_within (behind_blank rest) back left blank.sound k in
    let all : left ≤ length digits = omega (arith, few, ap length number.0, length-append (decimal n) back) in
    subst (λ (l : List ℕ). read (grouped (behind_blank rest)) l ≡ Err left) (sym (after_list (codes " g") bytes digits e))
    (group_missed rest digits left blank all (token_on (free_number 0 4294967295) (behind_blank rest) digits front back left h k))

-- no group was read
fault_few : (all left : ℕ) (r : Result Parts ℕ) → ((l : ℕ) → r ≡ Err l → l ≤ all) → further (Err (suc all)) (named second r) ≡ Err left → left ≤ all
fault_few all left (Ok parts) within e = absurd (cc)
fault_few all left (Err l) within e = let k : min (suc all) l ≡ left = cc in omega (arith, within l refl)

blank_few : (rest : Grammar) (bytes : List ℕ) (left : ℕ) → IsBehindBlank rest → read (behind_blank rest) (32 ∷ bytes) ≡ Err left → left ≤ length bytes
unfolding read ended after
blank_few rest bytes left blank e = fault_few (length bytes) left (read rest bytes) (λ l h. fault_within rest bytes l blank.sound h) e

no_g : (c k : ℕ) (bytes : List ℕ) (t : Bool) → (if t then Ok bytes else Err (suc (length bytes))) ≡ Err k → k ≡ suc (length bytes)
no_g c k bytes true h = absurd (cc)
no_g c k bytes false h = let e : suc (length bytes) ≡ k = cc in sym e

stops_at_g : (bytes : List ℕ) (k : ℕ) → after (codes "g") bytes ≡ Err k → k ≡ length bytes
unfolding after
stops_at_g [] k h = let e : 0 ≡ k = cc in sym e
stops_at_g (c ∷ bytes) k h = no_g c k bytes (c == 103) h

stops_first : (b k : ℕ) (bytes : List ℕ) (t : Bool) → (b == 32) ≡ t → (if t then after (codes "g") bytes else Err (suc (length bytes))) ≡ Err k
    → ((b ≡ 32) × (k ≡ length bytes)) ⊎ (k ≡ suc (length bytes))
stops_first b k bytes true e h = inl (eqb-true b 32 e, stops_at_g bytes k h)
stops_first b k bytes false e h = inr (let n : suc (length bytes) ≡ k = cc in sym n)

after_first : (b k : ℕ) (bytes : List ℕ) → after (codes " g") (b ∷ bytes) ≡ Err k → ((b ≡ 32) × (k ≡ length bytes)) ⊎ (k ≡ suc (length bytes))
unfolding after
after_first b k bytes h = stops_first b k bytes (b == 32) refl h

ends_well : (rest : Grammar) (left : ℕ) → read (behind_blank rest) [] ≡ Err left → ⊥
unfolding read ended after
ends_well rest left e = absurd (cc)

not_a_group : (rest : Grammar) (bytes : List ℕ) (k left : ℕ) → IsBehindBlank rest → after (codes " g") bytes ≡ Err k → read (behind_blank rest) bytes ≡ Err left → left ≤ k
not_a_group rest [] k left blank h e = absurd (ends_well rest left e)
not_a_group rest (b ∷ bytes) k left blank h e =
    elim (after_first b k bytes h) [
      | inl at ↦
          let few = blank_few rest bytes left blank (subst (λ (x : ℕ). read (behind_blank rest) (x ∷ bytes) ≡ Err left) at.0 e) in
          omega (arith, few, at.1)
      | inr at ↦ omega (arith, at, fault_within (behind_blank rest) (b ∷ bytes) left blank.sound e)
    ]

pub no_name : (bytes : List ℕ) (k : ℕ) → after (codes " g") bytes ≡ Err k
    → (rest : Grammar) (left : ℕ) → IsBehindBlank rest → read (behind_blank rest) bytes ≡ Err left → read (grouped (behind_blank rest)) bytes ≡ Err left
no_name bytes k h rest left blank e =
    let no_more = word_missed (codes " g") (field (free_number 0 4294967295) (behind_blank rest)) bytes k h in
    both_miss (behind_blank rest) (word (codes " g") (field (free_number 0 4294967295) (behind_blank rest))) bytes left k left e no_more (omega (arith, not_a_group rest bytes k left blank h e))
