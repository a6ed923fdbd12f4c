-- reading bodies of signs
use Rattle.std.proofs.Common.{◌≡◌, ◌≢◌, ℕ, suc, ◌≤◌, ◌==◌, ◌||◌, Bool, true, false, List, [], ◌∷◌, ◌++◌, length, map, codes, decimal, Result, Option, Some, None, IfOk, IfSome, IsSome, IsNone, Ok, Err, inl, inr, refl, sym, ◌∙◌, ap, subst, append-nil, length-append, arith}
use Rattle.std.specs.List.{list_all}
use Rattle.std.proofs.lemmas.List.{length-map}
use Rattle.std.proofs.lemmas.Bool.{or_cases, eqb-true, and_parts, and_from, both_ways}
use Rattle.ten_unit.specs.declared.character.Element.{Element}
use Rattle.ten_unit.specs.declared.character.Element.TheVariants.{Y, B, Lost}
use Rattle.ten_unit.specs.Signs.{element_of, is_sign}
use Rattle.line_grammar.specs.Tokens.{run, is_one_of, IsToken}
use Rattle.std.proofs.Math.Bool.{or-false}
use Rattle.line_grammar.specs.Grammar.{Grammar, finish, word, Parts, none, Spells, AreParts, written}
use Rattle.line_grammar.specs.inside.Reading.{after, ended, read_token, read}
use Rattle.line_grammar.specs.inside.Soundness.{is_sound}
use Rattle.line_grammar.proofs.Chains.{after_list, run_list, fault_within, both_miss, no_end, end_nil, finished}
use Rattle.line_grammar.proofs.Fields.{field_of}
use Rattle.input_lines.specs.ReceiverLine.{sign_of, signs, signs_parts, behind_blank, reception, text_of_reception, IsLine}
use Rattle.input_lines.specs.StreamLine.{IsStreamLine}
use Rattle.input_lines.specs.inside.Reading.{blank_and_signs, body_text, IsBehindBlank}

same_eqb : (a b : ℕ) → (a == b) ≡ (b == a)
same_eqb a b = grind arith

-- the bytes that lines have for signs are signs
same_sign : (b : ℕ) → is_one_of (codes "YB-") b ≡ is_sign b
same_sign b =
    ap (λ (t : Bool). t || ((66 == b) || ((45 == b) || false))) (same_eqb 89 b) ∙ ap (λ (t : Bool). (b == 89) || (t || ((45 == b) || false))) (same_eqb 66 b)
    ∙ ap (λ (t : Bool). (b == 89) || ((b == 66) || t)) (or-false (45 == b) ∙ same_eqb 45 b)

same_signs : (bytes : List ℕ) → list_all (is_one_of (codes "YB-")) bytes ≡ list_all is_sign bytes
same_signs bytes = ap (λ (p : ℕ → Bool). list_all p bytes) (λ i b. same_sign b i)

all_of_signs : (bytes : List ℕ) → list_all is_sign bytes ≡ true → list_all (is_one_of (codes "YB-")) bytes ≡ true
all_of_signs bytes h = same_signs bytes ∙ h

pub all_of_bytes : (bytes : List ℕ) → list_all (is_one_of (codes "YB-")) bytes ≡ true → list_all is_sign bytes ≡ true
all_of_bytes bytes h = sym (same_signs bytes) ∙ h

-- signs and elements
sign_again : (b : ℕ) → is_sign b ≡ true → sign_of (element_of b) ≡ b
sign_again b h =
    elim (or_cases (b == 89) ((b == 66) || (b == 45)) h) [
      | inl y ↦ subst (λ (x : ℕ). sign_of (element_of x) ≡ x) (sym (eqb-true b 89 y)) refl
      | inr other ↦ (elim (or_cases (b == 66) (b == 45) other) [
        | inl n ↦ subst (λ (x : ℕ). sign_of (element_of x) ≡ x) (sym (eqb-true b 66 n)) refl
        | inr lost ↦ subst (λ (x : ℕ). sign_of (element_of x) ≡ x) (sym (eqb-true b 45 lost)) refl
      ])
    ]

signs_again : (bytes : List ℕ) → list_all is_sign bytes ≡ true → map sign_of (map element_of bytes) ≡ bytes
signs_again [] h = refl
signs_again (b ∷ bytes) h =
    let k = and_parts (is_sign b) (list_all is_sign bytes) h in
    ap (λ (x : ℕ). x ∷ map sign_of (map element_of bytes)) (sign_again b k.0) ∙ ap (λ (l : List ℕ). b ∷ l) (signs_again bytes k.1)

element_again : (e : Element) → element_of (sign_of e) ≡ e
element_again Y = refl
element_again _ = refl

-- elements are read back from their signs
pub elements_again : (e : List Element) → map element_of (map sign_of e) ≡ e
elements_again [] = refl
elements_again (x ∷ e) = ap (λ (y : Element). y ∷ map element_of (map sign_of e)) (element_again x) ∙ ap (λ (l : List Element). x ∷ l) (elements_again e)

one_sign : (e : Element) → is_sign (sign_of e) ≡ true
one_sign Y = refl
one_sign _ = refl

-- elements are written by signs alone
pub all_signs : (e : List Element) → list_all is_sign (map sign_of e) ≡ true
all_signs [] = refl
all_signs (x ∷ e) = and_from (is_sign (sign_of x)) (list_all is_sign (map sign_of e)) (one_sign x) (all_signs e)

-- signs are written of the elements that they are
signs_written : (front : List ℕ) → list_all (is_one_of (codes "YB-")) front ≡ true → front ≡ map sign_of (map element_of front) ++ []
signs_written front all = sym (append-nil (map sign_of (map element_of front)) ∙ signs_again front (all_of_bytes front all))

pub blank_written : (bytes front : List ℕ) → list_all (is_one_of (codes "YB-")) front ≡ true → bytes ≡ codes " " ++ front → bytes ≡ written blank_and_signs (signs_parts (map element_of front))
blank_written bytes front all e = e ∙ ap (λ (l : List ℕ). codes " " ++ l) (signs_written front all)

pub some_map : {A B : Type 0} (f : A → B) (xs : List A) → xs ≢ [] → map f xs ≢ []
some_map f [] some e = some refl
some_map f (x ∷ xs) some e = absurd (cc)

-- the row of some elements has a sign for each
pub signs_are : (e : List Element) → e ≢ [] → AreParts signs (signs_parts e)
signs_are e some = ((some_map sign_of e some, all_of_signs (map sign_of e) (all_signs e)), tt)

-- a body
pub some_body : (e : List Element) → e ≢ [] → written blank_and_signs (signs_parts e) ≡ body_text e
some_body [] some = absurd (some refl)
some_body (x ∷ e) some = refl

pub body_of : (bytes front : List ℕ) → front ≢ [] → list_all (is_one_of (codes "YB-")) front ≡ true → bytes ≡ codes " " ++ front → bytes ≡ body_text (map element_of front)
body_of bytes front some all e = blank_written bytes front all e ∙ some_body (map element_of front) (some_map element_of front some)

-- whatever is spelled by a blank and signs is written of some elements
pub signs_back : (parts : Parts) (bytes : List ℕ) → Spells blank_and_signs parts bytes → (e : List Element) × (e ≢ []) × (bytes ≡ written blank_and_signs (signs_parts e))
signs_back parts bytes h =
    let f = field_of (run (codes "YB-")) finish parts h.0 h.2 in
    let all = f.list ∙ ap (λ (l : List ℕ). f.front ++ l) (finished f.parts f.back f.spelled) ∙ append-nil f.front in
    (map element_of f.front, some_map element_of f.front f.is_token.0, blank_written bytes f.front f.is_token.1 (h.1 ∙ ap (λ (l : List ℕ). codes " " ++ l) all))

pub checked_signs : (bytes front : List ℕ) → after (codes " ") bytes ≡ Ok front → (length front ≡ 0 → ⊥) → list_all (is_one_of (codes "YB-")) front ≡ true
    → (bytes ≡ codes " " ++ front) × IsToken (run (codes "YB-")) front
checked_signs bytes front h some all = (after_list (codes " ") bytes front h, ((λ (e : front ≡ []). some (ap length e)), all))

pub run_signs : (bytes rest front back : List ℕ) → after (codes " ") bytes ≡ Ok rest → read_token (run (codes "YB-")) rest ≡ Ok (front, back) → ended back ≡ Ok none
    → (bytes ≡ codes " " ++ front) × IsToken (run (codes "YB-")) front
run_signs bytes rest front back h k m =
    let r = run_list (codes "YB-") rest front back refl k in
    (after_list (codes " ") bytes rest h ∙ ap (λ (l : List ℕ). codes " " ++ l) (r.0 ∙ ap (λ (l : List ℕ). front ++ l) (end_nil back m) ∙ append-nil front), (r.1, r.2))

-- where there is no body
pub blank_missed : (rest : Grammar) (bytes : List ℕ) (left : ℕ) → is_sound rest ≡ true → (length bytes ≡ 0 → ⊥) → read (word (codes " ") rest) bytes ≡ Err left → read (behind_blank rest) bytes ≡ Err left
blank_missed rest [] left sound some h = absurd (some refl)
blank_missed rest (b ∷ bytes) left sound some h =
    let few : left ≤ suc (length bytes) = fault_within (word (codes " ") rest) (b ∷ bytes) left sound h in
    both_miss finish (word (codes " ") rest) (b ∷ bytes) (suc (length bytes)) left left (no_end b bytes) h (omega (arith, few))

pub signs_behind_blank : IsBehindBlank signs
unfolding read read_token
signs_behind_blank = record { sound = refl; no_group = λ bytes. refl }

-- signs are packed, and it is known what was packed
pub packed_some : (bytes : List ℕ) (read : Option (List Element)) → list_all is_sign bytes ≡ true → (IsNone read → list_all is_sign bytes ≡ false) → IsSome read
packed_some bytes (Some e) all fails = refl
packed_some bytes None all fails = absurd (both_ways (list_all is_sign bytes) (fails refl) all)

pub packed_are : (bytes : List ℕ) (e : List Element) (read : Option (List Element)) → read ≡ Some e
    → IfSome read (λ e. (list_all is_sign bytes ≡ true) × (e ≡ map element_of bytes)) → e ≡ map element_of bytes
packed_are bytes e read is some = (subst (λ (o : Option (List Element)). IfSome o (λ e. (list_all is_sign bytes ≡ true) × (e ≡ map element_of bytes))) is some).1

-- they are a body
pub packed_body_of : {E : Type 0} (bytes front : List ℕ) (b : ℕ) (r : Result (Option (List Element)) E) → bytes ≡ b ∷ front → b ≡ 32 → (length front ≡ 0 → ⊥)
    → IfOk r (λ read. IfSome read (λ e. (list_all is_sign front ≡ true) × (e ≡ map element_of front))) → IfOk r (λ read. IfSome read (λ e. bytes ≡ body_text e))
packed_body_of bytes front b (Ok (Some e)) list blank some is =
    body_of bytes front (λ (e : front ≡ []). some (ap length e)) (all_of_signs front is.0) (list ∙ ap (λ (x : ℕ). x ∷ front) blank) ∙ ap body_text (sym is.1)
packed_body_of bytes front b (Ok None) list blank some is = tt
packed_body_of bytes front b (Err e) list blank some is = tt

-- a line has no fewer bytes than elements
body_few : (e : List Element) → length e ≤ length (body_text e)
body_few [] = omega arith
body_few (x ∷ e) = omega (arith, length-map (x ∷ e) sign_of, length-append (map sign_of (x ∷ e)) [])

text_few : (named : Bool) (group : ℕ) (e : List Element) → length e ≤ length (text_of_reception named group e)
text_few false group e = omega (arith, body_few e)
text_few true group e = omega (arith, length-append (decimal group) (body_text e), body_few e)

pub reception_few : (group : ℕ) (e : List Element) (text : List ℕ) → IsLine (reception group e) text → length e ≤ length text
reception_few group e text is = omega (arith, ap length is.1.1, text_few is.0 group e)

pub stream_few : (e : List Element) (text : List ℕ) → IsStreamLine e text → length e ≤ length text
stream_few e text (inl is) = omega (arith, ap length is.0)
stream_few e text (inr is) = omega (arith, ap length is.1, length-map e sign_of, length-append (map sign_of e) [])
