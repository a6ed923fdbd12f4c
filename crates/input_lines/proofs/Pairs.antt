-- reading pairs of a place and a symbol
use Rattle.std.proofs.Common.{◌≡◌, ℕ, zero, suc, ◌+◌, ◌-◌, ◌≤◌, ◌<◌, ◌==◌, ◌&&◌, ◌||◌, Bool, true, List, [], ◌∷◌, ◌++◌, length, codes, decimal, Ok, Err, refl, sym, ◌∙◌, ap, subst, append_assoc, length-append, arith}
use Rattle.std.specs.List.{list_any, All}
use Rattle.std.proofs.lemmas.List.{length_push}
use Rattle.std.proofs.lemmas.List.Elements.{All-append, All-cons, All-nil}
use Rattle.std.proofs.lemmas.List.Folds.{list_any-append}
use Rattle.std.proofs.Math.Bool.{or-false}
use Rattle.slot_evidence.specs.declared.places.Seen.{Seen}
use Rattle.slot_evidence.specs.Facts.{Facts, one_fact, union}
use Rattle.slot_evidence.specs.Sheet.{IsEnds}
use Rattle.slot_evidence.proofs.PublicLaws.{IsEnds-same}
use Rattle.line_grammar.specs.Tokens.{free_number, value_after}
use Rattle.line_grammar.specs.Grammar.{Grammar, word, field}
use Rattle.line_grammar.specs.Repeats.{repeated}
use Rattle.line_grammar.specs.inside.Reading.{after, read_token, read_number, read}
use Rattle.line_grammar.specs.inside.Soundness.{is_sound}
use Rattle.line_grammar.proofs.Repeats.{read_one_less}
use Rattle.line_grammar.proofs.Chains.{after_list, word_on, token_on, fault_within}
use Rattle.line_grammar.proofs.Decimals.{number_read}
use Rattle.input_lines.specs.ReceiverLine.{IsPair, pair, behind_blank, grouped}
use Rattle.input_lines.specs.Lines.{facts_of_pairs}
use Rattle.input_lines.specs.inside.Reading.{group_text, pairs_text, IsBehindBlank, IsNamed}

-- what follows a place misses
pub behind_place : (bytes a place b : List ℕ) (left : ℕ) → after (codes " ") bytes ≡ Ok a → read_token (free_number 0 63) a ≡ Ok (place, b)
    → (rest : Grammar) → read (word (codes ":") (field (free_number 0 127) rest)) b ≡ Err left → read (word (codes " ") (pair rest)) bytes ≡ Err left
behind_place bytes a place b left h k rest m =
    word_on (codes " ") (pair rest) bytes a left h (token_on (free_number 0 63) (word (codes ":") (field (free_number 0 127) rest)) a place b left k m)

-- a pair in front of others
pub pair_written : (x : ℕ × ℕ) (l r : List ℕ) → codes " " ++ (decimal x.0 ++ (codes ":" ++ (decimal x.1 ++ (l ++ r)))) ≡ (codes " " ++ (decimal x.0 ++ (codes ":" ++ (decimal x.1 ++ l)))) ++ r
pair_written x l r =
    ap (λ (k : List ℕ). codes " " ++ (decimal x.0 ++ (codes ":" ++ k))) (sym (append_assoc (decimal x.1) l r))
    ∙ ap (λ (k : List ℕ). codes " " ++ k) (sym (append_assoc (decimal x.0) (codes ":" ++ (decimal x.1 ++ l)) r))

-- pairs are written one after the other
pub pairs_append : (front back : List (ℕ × ℕ)) → pairs_text (front ++ back) ≡ pairs_text front ++ pairs_text back
pairs_append [] back = refl
pairs_append (x ∷ front) back =
    ap (λ (l : List ℕ). codes " " ++ (decimal x.0 ++ (codes ":" ++ (decimal x.1 ++ l)))) (pairs_append front back) ∙ pair_written x (pairs_text front) (pairs_text back)

pub pair_read : (bytes a place b d symbol back : List ℕ) (p v : ℕ) → after (codes " ") bytes ≡ Ok a → read_token (free_number 0 63) a ≡ Ok (place, b) → value_after 0 place ≡ p
    → after (codes ":") b ≡ Ok d → read_token (free_number 0 127) d ≡ Ok (symbol, back) → value_after 0 symbol ≡ v → IsPair (p, v) × (bytes ≡ pairs_text ((p, v) ∷ []) ++ back)
pair_read bytes a place b d symbol back p v h k is_p m s is_v =
    let one = number_read 0 63 p a place b (omega arith) (omega arith) k is_p in
    let two = number_read 0 127 v d symbol back (omega arith) (omega arith) s is_v in
    let colon : b ≡ codes ":" ++ (decimal v ++ back) = after_list (codes ":") b d m ∙ ap (λ (l : List ℕ). codes ":" ++ l) two.0 in
    let place_on : a ≡ decimal p ++ (codes ":" ++ (decimal v ++ back)) = one.0 ∙ ap (λ (l : List ℕ). decimal p ++ l) colon in
    ((omega (arith, one.2), omega (arith, two.2)), after_list (codes " ") bytes a h ∙ ap (λ (l : List ℕ). codes " " ++ l) place_on ∙ pair_written (p, v) [] back)

-- pairs are sound, and differ from a group
pub pairs_sound : (n : ℕ) → is_sound (repeated pair n) ≡ true
pairs_sound zero = refl
pairs_sound (suc zero) = refl
pairs_sound (suc (suc n)) = pairs_sound (suc n)

pub pairs_behind_blank : (n : ℕ) → IsBehindBlank (pair (repeated pair n))
unfolding read read_token read_number
pairs_behind_blank n = record { sound = pairs_sound (suc n); no_group = λ bytes. refl }

-- the pairs that were taken
pub record IsTaken (bytes rest : List ℕ) (sheet : List Seen) : Type 0 where
  pub pairs : List (ℕ × ℕ)
  pub are : All IsPair pairs
  pub list : bytes ≡ pairs_text pairs ++ rest
  pub ends : IsEnds (facts_of_pairs pairs) sheet
  pub goes_on : (n left : ℕ) → read (repeated pair n) rest ≡ Err left → read (repeated pair (length pairs + n)) bytes ≡ Err left

facts_push : (pairs : List (ℕ × ℕ)) (x : ℕ × ℕ) (p v : ℕ) → union (facts_of_pairs pairs) (one_fact x.0 x.1) p v ≡ facts_of_pairs (pairs ++ (x ∷ [])) p v
facts_push pairs x p v =
    let f : ℕ × ℕ → Bool = λ pair. p == pair.0 && v == pair.1 in
    sym (list_any-append f pairs (x ∷ []) ∙ ap (λ (b : Bool). list_any f pairs || b) (or-false (f x)))

-- one blank at least, and where what follows it misses
some_less : (n left : ℕ) (bytes : List ℕ) → (length bytes ≡ 0 → ⊥) → read (word (codes " ") (pair (repeated pair n))) bytes ≡ Err left → read (repeated pair (suc n)) bytes ≡ Err left
some_less n left [] some h = absurd (some refl)
some_less n left (b ∷ bytes) some h = read_one_less pair n b left bytes h (fault_within (word (codes " ") (pair (repeated pair n))) (b ∷ bytes) left (pairs_sound (suc n)) h)

pub taken_more : (bytes rest back : List ℕ) (old new : List Seen) (x : ℕ × ℕ) → IsTaken bytes rest old → IsPair x → rest ≡ pairs_text (x ∷ []) ++ back
    → ((K : Grammar) (left : ℕ) → read K back ≡ Err left → read (word (codes " ") (pair K)) rest ≡ Err left)
    → ((F : Facts) → IsEnds F old → IsEnds (union F (one_fact x.0 x.1)) new) → IsTaken bytes back new
taken_more bytes rest back old new x t is e goes_on ends = record {
  pairs = t.pairs ++ (x ∷ []);
  are = All-append IsPair t.pairs (x ∷ []) t.are (All-cons IsPair x [] is (All-nil IsPair));
  list = t.list ∙ ap (λ (l : List ℕ). pairs_text t.pairs ++ l) e ∙ sym (append_assoc (pairs_text t.pairs) (pairs_text (x ∷ [])) back)
      ∙ ap (λ (l : List ℕ). l ++ back) (sym (pairs_append t.pairs (x ∷ [])));
  ends = IsEnds-same (union (facts_of_pairs t.pairs) (one_fact x.0 x.1)) (facts_of_pairs (t.pairs ++ (x ∷ []))) new (facts_push t.pairs x) (ends (facts_of_pairs t.pairs) t.ends);
  goes_on = λ n left h.
      let some : length rest ≡ 0 → ⊥ = λ z. omega (arith, z, ap length e) in
      let next = some_less n left rest some (goes_on (repeated pair n) left h) in
      let all = t.goes_on (suc n) left next in
      subst (λ (m : ℕ). read (repeated pair m) bytes ≡ Err left) (omega (arith, length_push t.pairs x)) all;
}

length_pairs : (pairs : List (ℕ × ℕ)) → length pairs ≤ length (pairs_text pairs)
length_pairs [] = omega arith
length_pairs (x ∷ pairs) =
    omega (arith, length_pairs pairs, length-append (decimal x.0) (codes ":" ++ (decimal x.1 ++ pairs_text pairs)), length-append (decimal x.1) (pairs_text pairs))

pub taken_fault : (bytes rest : List ℕ) (sheet : List Seen) (left : ℕ) → IsTaken bytes rest sheet → (length rest ≡ 0 → ⊥)
    → ((K : Grammar) → read (word (codes " ") (pair K)) rest ≡ Err left) → (n : ℕ) → length bytes < n → read (repeated pair n) bytes ≡ Err left
taken_fault bytes rest sheet left t some h n large =
    let count = length t.pairs in
    let few : count ≤ length bytes = omega (arith, length_pairs t.pairs, ap length t.list, length-append (pairs_text t.pairs) rest) in
    let m = n - count - 1 in
    let next = some_less m left rest some (h (repeated pair m)) in
    let all = t.goes_on (suc m) left next in
    subst (λ (k : ℕ). read (repeated pair k) bytes ≡ Err left) (omega (arith, few, large)) all

-- evidence after its group
pub no_group : (bytes : List ℕ) (left : ℕ) → ((rest : Grammar) → IsBehindBlank rest → read (grouped (behind_blank rest)) bytes ≡ Err left)
    → (n : ℕ) → length bytes < n → read (grouped (repeated pair n)) bytes ≡ Err left
no_group bytes left h zero large = absurd (omega (arith, large))
no_group bytes left h (suc n) large = h (pair (repeated pair n)) (pairs_behind_blank n)

pub no_pairs : (bytes rest : List ℕ) (group left : ℕ) → IsNamed group bytes rest
    → ((K : Grammar) (l : ℕ) → IsBehindBlank K → read (behind_blank K) rest ≡ Err l → read (grouped (behind_blank K)) bytes ≡ Err l)
    → ((n : ℕ) → length rest < n → read (repeated pair n) rest ≡ Err left)
    → (n : ℕ) → length bytes < n → read (grouped (repeated pair n)) bytes ≡ Err left
no_pairs bytes rest group left name goes_on h zero large = absurd (omega (arith, large))
no_pairs bytes rest group left name goes_on h (suc n) large =
    let few : length rest < suc n = omega (arith, large, ap length name.1.1, length-append (group_text name.0 group) rest) in
    goes_on (pair (repeated pair n)) left (pairs_behind_blank n) (h (suc n) few)
