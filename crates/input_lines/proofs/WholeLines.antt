-- whole lines: the grammars have the lines of join's input
use Rattle.std.proofs.Common.{◌≡◌, ℕ, zero, suc, ◌+◌, ◌≤◌, ◌<◌, Bool, true, false, List, [], ◌∷◌, ◌++◌, length, map, codes, decimal, inl, inr, refl, sym, ◌∙◌, ap, subst, append-nil, arith}
use Rattle.std.specs.List.{All}
use Rattle.std.proofs.lemmas.Bool.{and_from}
use Rattle.std.proofs.lemmas.List.Elements.{All-append, All-cons, All-nil}
use Rattle.ten_unit.specs.declared.character.Element.{Element}
use Rattle.ten_unit.specs.Signs.{element_of}
use Rattle.line_grammar.specs.Tokens.{free_number, value_after, IsNumber}
use Rattle.line_grammar.specs.Grammar.{Grammar, finish, word, field, either, Parts, none, part, first, second, Spells, written}
use Rattle.line_grammar.specs.Repeats.{repeated}
use Rattle.line_grammar.specs.inside.Soundness.{is_sound, is_unambiguous}
use Rattle.line_grammar.specs.Bytes.{letter_e, letter_r}
use Rattle.line_grammar.proofs.Fields.{field_of}
use Rattle.line_grammar.proofs.Written.{written_spells}
use Rattle.line_grammar.proofs.Grammars.{choice_back}
use Rattle.line_grammar.proofs.Apart.{one_reading}
use Rattle.line_grammar.proofs.Repeats.{IsLimit}
use Rattle.line_grammar.proofs.Decimals.{number_text, decimal_number, decimal_value}
use Rattle.line_grammar.proofs.Chains.{finished}
use Rattle.input_lines.specs.ReceiverLine.{empty_or_comment, ReceiverLine, nothing, reception, evidence, signs, behind_blank, body_parts, grouped, group_parts, IsGroup, pair, pairs_parts, IsPair, reception_line, evidence_line, IsLine}
use Rattle.input_lines.specs.inside.Reading.{join_lines, body_text, pairs_text, IsNamed}
use Rattle.input_lines.proofs.Bodies.{signs_are, some_body, signs_back, elements_again}
use Rattle.input_lines.proofs.NamedGroups.{named_written}
use Rattle.input_lines.proofs.Pairs.{pairs_sound}

-- what the parts of a line say
abbrev pub group_in : Parts → ℕ
group_in (second (part digits rest)) = value_after 0 digits
group_in _ = 0

abbrev pub rest_in : Parts → Parts
rest_in (first rest) = rest
rest_in (second (part digits rest)) = rest
rest_in _ = none

abbrev pub elements_in : Parts → List Element
elements_in (second (part front rest)) = map element_of front
elements_in _ = []

abbrev pub pairs_in : Parts → List (ℕ × ℕ)
pairs_in (second (part place (part symbol rest))) = (value_after 0 place, value_after 0 symbol) ∷ pairs_in rest
pairs_in _ = []

abbrev pub line_in : Parts → ReceiverLine
line_in (second (first parts)) = reception (group_in parts) (elements_in (rest_in parts))
line_in (second (second parts)) = evidence (group_in parts) (pairs_in (rest_in parts))
line_in _ = nothing

-- a line is spelled by the grammars that allow as many pairs
pub record IsSpelled (G : Grammar) (text : List ℕ) {A : Type 0} (says : Parts → A) (value : A) : Type 0 where
  pub parts : Parts
  pub spelled : Spells G parts text
  pub is : says parts ≡ value

body_spelled : (e : List Element) → IsSpelled (behind_blank signs) (body_text e) elements_in e
body_spelled [] = record { parts = first none; spelled = refl; is = refl }
body_spelled (x ∷ e) = record {
  parts = body_parts (x ∷ e);
  spelled = written_spells (behind_blank signs) (body_parts (x ∷ e)) (signs_are (x ∷ e) (λ (k : x ∷ e ≡ []). absurd (cc)));
  is = elements_again (x ∷ e);
}

pairs_spelled : (n : ℕ) (pairs : List (ℕ × ℕ)) → length pairs < n → All IsPair pairs → IsSpelled (repeated pair n) (pairs_text pairs) pairs_in pairs
pairs_spelled zero pairs few all = absurd (omega (arith, few))
pairs_spelled (suc n) [] few all = record { parts = first none; spelled = refl; is = refl }
pairs_spelled (suc n) (x ∷ pairs) few all =
    let is = all 0 x (omega arith) in
    let more = pairs_spelled n pairs (omega (arith, few)) (λ k d below. all (suc k) d (omega (arith, below))) in
    let place = decimal_number 0 63 x.0 (omega arith) (omega (arith, is.0)) (omega arith) in
    let symbol = decimal_number 0 127 x.1 (omega arith) (omega (arith, is.1)) (omega arith) in
    let text = decimal x.1 ++ pairs_text pairs in
    record {
      parts = second (part (decimal x.0) (part (decimal x.1) more.parts));
      spelled = (decimal x.0 ++ (codes ":" ++ text), refl, (place, (codes ":" ++ text, refl, (text, refl, (symbol, (pairs_text pairs, refl, more.spelled))))));
      is = ap (λ (p : ℕ). (p, value_after 0 (decimal x.1)) ∷ pairs_in more.parts) (decimal_value x.0 (omega (arith, is.0)))
          ∙ ap (λ (v : ℕ). (x.0, v) ∷ pairs_in more.parts) (decimal_value x.1 (omega (arith, is.1)))
          ∙ ap (λ (l : List (ℕ × ℕ)). x ∷ l) more.is;
    }

-- the parts of a group and of what follows it
pub record IsGrouped (G : Grammar) (text : List ℕ) (group : ℕ) (rest : Parts) : Type 0 where
  pub parts : Parts
  pub spelled : Spells (grouped G) parts text
  pub group_is : group_in parts ≡ group
  pub rest_is : rest_in parts ≡ rest

-- whatever grammar wrote what follows, another one spells it
group_spelled : (G H : Grammar) (named : Bool) (group : ℕ) (q rest : Parts) → IsGroup named group → Spells G rest (written H q) → IsGrouped G (written (grouped H) (group_parts named group q)) group rest
group_spelled G H false group q rest is spelled = record { parts = first rest; spelled = spelled; group_is = sym is; rest_is = refl }
group_spelled G H true group q rest is spelled = record {
  parts = second (part (decimal group) rest);
  spelled = (decimal group ++ written H q, refl, (decimal_number 0 4294967295 group (omega arith) (omega (arith, is)) (omega arith), (written H q, refl, spelled)));
  group_is = decimal_value group (omega (arith, is));
  rest_is = refl;
}

-- how many pairs a line has
abbrev pub pairs_of : ReceiverLine → List (ℕ × ℕ)
pairs_of (evidence group pairs) = pairs
pairs_of _ = []

pub line_spelled : (w : ReceiverLine) (text : List ℕ) (n : ℕ) → IsLine w text → length (pairs_of w) < n → IsSpelled (join_lines n) text line_in w
line_spelled nothing text n h few = record { parts = first h.0; spelled = h.1; is = refl }
line_spelled (reception group e) text n h few =
    let body = body_spelled e in
    let g = group_spelled (behind_blank signs) (behind_blank signs) h.0 group (body_parts e) body.parts h.1.0 body.spelled in
    record {
      parts = second (first g.parts);
      spelled = (written (grouped (behind_blank signs)) (group_parts h.0 group (body_parts e)), h.1.1, g.spelled);
      is = ap (λ (k : ℕ). reception k (elements_in (rest_in g.parts))) g.group_is ∙ ap (λ (p : Parts). reception group (elements_in p)) g.rest_is ∙ ap (reception group) body.is;
    }
line_spelled (evidence group pairs) text n h few =
    let all = pairs_spelled n pairs few h.1.1.0 in
    let g = group_spelled (repeated pair n) (repeated pair (length pairs)) h.0 group (pairs_parts pairs) all.parts h.1.0 all.spelled in
    record {
      parts = second (second g.parts);
      spelled = (written (grouped (repeated pair (length pairs))) (group_parts h.0 group (pairs_parts pairs)), h.1.1.1, g.spelled);
      is = ap (λ (k : ℕ). evidence k (pairs_in (rest_in g.parts))) g.group_is ∙ ap (λ (p : Parts). evidence group (pairs_in p)) g.rest_is ∙ ap (evidence group) all.is;
    }

-- and what they spell is a line
body_back : (parts : Parts) (bytes : List ℕ) → Spells (behind_blank signs) parts bytes → (e : List Element) × (bytes ≡ body_text e)
body_back parts bytes h =
    elim (choice_back finish (word (codes " ") signs) parts bytes h) [
      | inl k ↦ ([], finished k.0 bytes k.1)
      | inr k ↦ (let s = signs_back k.0 bytes k.1 in (s.0, s.2 ∙ some_body s.0 s.1))
    ]

-- pairs, and that each is one
abbrev AreAll : List ℕ → Type 0
AreAll text = (pairs : List (ℕ × ℕ)) × (All IsPair pairs × (text ≡ pairs_text pairs))

pair_more : (bytes a place b d symbol back : List ℕ) → bytes ≡ codes " " ++ a → IsNumber 0 63 place → a ≡ place ++ b → b ≡ codes ":" ++ d → IsNumber 0 127 symbol → d ≡ symbol ++ back → AreAll back → AreAll bytes
pair_more bytes a place b d symbol back e is_place f g is_symbol h more =
    let p = value_after 0 place in
    let v = value_after 0 symbol in
    let x : ℕ × ℕ = (p, v) in
    let is : IsPair x = (omega (arith, is_place.high), omega (arith, is_symbol.high)) in
    let symbol_on : d ≡ decimal v ++ pairs_text more.0 = h ∙ ap (λ (l : List ℕ). l ++ back) (sym (number_text 0 127 symbol (omega arith) is_symbol)) ∙ ap (λ (l : List ℕ). decimal v ++ l) more.1.1 in
    let place_on : a ≡ decimal p ++ (codes ":" ++ (decimal v ++ pairs_text more.0)) =
    f ∙ ap (λ (l : List ℕ). l ++ b) (sym (number_text 0 63 place (omega arith) is_place)) ∙ ap (λ (l : List ℕ). decimal p ++ l) (g ∙ ap (λ (l : List ℕ). codes ":" ++ l) symbol_on) in
    (x ∷ more.0, (All-append IsPair (x ∷ []) more.0 (All-cons IsPair x [] is (All-nil IsPair)) more.1.0, e ∙ ap (λ (l : List ℕ). codes " " ++ l) place_on))

no_more_pairs : (bytes : List ℕ) → bytes ≡ [] → AreAll bytes
no_more_pairs bytes e = ([], ((λ k d below. absurd (omega (arith, below))), e))

pairs_back : (n : ℕ) (parts : Parts) (bytes : List ℕ) → Spells (repeated pair n) parts bytes → AreAll bytes
pairs_back zero parts bytes h = no_more_pairs bytes (finished parts bytes h)
pairs_back (suc n) parts bytes h =
    elim (choice_back finish (word (codes " ") (pair (repeated pair n))) parts bytes h) [
      | inl k ↦ no_more_pairs bytes (finished k.0 bytes k.1)
      | inr k ↦
          let f = field_of (free_number 0 63) (word (codes ":") (field (free_number 0 127) (repeated pair n))) k.0 k.1.0 k.1.2 in
          let s = field_of (free_number 0 127) (repeated pair n) f.parts f.spelled.0 f.spelled.2 in
          pair_more bytes k.1.0 f.front f.back f.spelled.0 s.front s.back k.1.1 f.is_token f.list f.spelled.1 s.is_token s.list (pairs_back n s.parts s.back s.spelled)
    ]

pub record HasGroup (G : Grammar) (bytes : List ℕ) : Type 0 where
  pub group : ℕ
  pub body : List ℕ
  pub parts : Parts
  pub name : IsNamed group bytes body
  pub spelled : Spells G parts body

group_back : (G : Grammar) (parts : Parts) (bytes : List ℕ) → Spells (grouped G) parts bytes → HasGroup G bytes
group_back G parts bytes h =
    elim (choice_back G (word (codes " g") (field (free_number 0 4294967295) G)) parts bytes h) [
      | inl k ↦ record { group = 0; body = bytes; parts = k.0; name = (false, (refl, refl)); spelled = k.1 }
      | inr k ↦
          let f = field_of (free_number 0 4294967295) G k.0 k.1.0 k.1.2 in
          let n = value_after 0 f.front in
          let digits = sym (number_text 0 4294967295 f.front (omega arith) f.is_token) ∙ sym (append-nil (decimal n)) in
          record {
            group = n;
            body = f.back;
            parts = f.parts;
            name = (true, (omega (arith, f.is_token.high), k.1.1 ∙ ap (λ (l : List ℕ). codes " g" ++ l) (f.list ∙ ap (λ (l : List ℕ). l ++ f.back) digits)));
            spelled = f.spelled;
          }
    ]

-- a group and a body are a reception after an r, and a group and pairs evidence after an e
pub reception_of : (group : ℕ) (e : List Element) (bytes back : List ℕ) → IsNamed group bytes back → back ≡ body_text e → IsLine (reception group e) (letter_r ∷ bytes)
reception_of group e bytes back name is = (name.0, (name.1.0, ap (λ (l : List ℕ). letter_r ∷ l) (named_written group bytes back name (behind_blank signs) (body_parts e) is)))

pub evidence_of : (group : ℕ) (pairs : List (ℕ × ℕ)) (bytes back : List ℕ) → IsNamed group bytes back → All IsPair pairs → back ≡ pairs_text pairs → IsLine (evidence group pairs) (letter_e ∷ bytes)
evidence_of group pairs bytes back name all is =
    (name.0, (name.1.0, (all, ap (λ (l : List ℕ). letter_e ∷ l) (named_written group bytes back name (repeated pair (length pairs)) (pairs_parts pairs) is))))

reception_back : (parts : Parts) (bytes : List ℕ) → Spells reception_line parts bytes → (w : ReceiverLine) × IsLine w bytes
reception_back parts bytes h =
    let g = group_back (behind_blank signs) parts h.0 h.2 in
    let body = body_back g.parts g.body g.spelled in
    (reception g.group body.0, subst (IsLine (reception g.group body.0)) (sym h.1) (reception_of g.group body.0 h.0 g.body g.name body.1))

evidence_back : (n : ℕ) (parts : Parts) (bytes : List ℕ) → Spells (evidence_line n) parts bytes → (w : ReceiverLine) × IsLine w bytes
evidence_back n parts bytes h =
    let g = group_back (repeated pair n) parts h.0 h.2 in
    let all = pairs_back n g.parts g.body g.spelled in
    (evidence g.group all.0, subst (IsLine (evidence g.group all.0)) (sym h.1) (evidence_of g.group all.0 h.0 g.body g.name all.1.0 all.1.1))

line_back : (n : ℕ) (parts : Parts) (bytes : List ℕ) → Spells (join_lines n) parts bytes → (w : ReceiverLine) × IsLine w bytes
line_back n parts bytes h =
    elim (choice_back empty_or_comment (either reception_line (evidence_line n)) parts bytes h) [
      | inl k ↦ (nothing, k)
      | inr k ↦ (elim (choice_back reception_line (evidence_line n) k.0 bytes k.1) [
        | inl r ↦ reception_back r.0 bytes r.1
        | inr e ↦ evidence_back n e.0 bytes e.1
      ])
    ]

enough : (w : ReceiverLine) (text : List ℕ) → IsLine w text → (m : ℕ) × ((n : ℕ) → m ≤ n → (parts : Parts) × Spells (join_lines n) parts text)
enough w text is = (suc (length (pairs_of w)), λ n large. let s = line_spelled w text n is (omega (arith, large)) in (s.parts, s.spelled))

pub lines_limit : IsLimit join_lines IsLine
lines_limit = record { to = line_back; back = enough }

-- the grammars are sound, and no line has two readings
pub lines_sound : (n : ℕ) → is_sound (join_lines n) ≡ true
lines_sound zero = refl
lines_sound (suc n) = and_from (is_sound (repeated pair (suc n))) (is_sound (repeated pair (suc n))) (pairs_sound (suc n)) (pairs_sound (suc n))

pairs_plain : (n : ℕ) → is_unambiguous (repeated pair n) ≡ true
pairs_plain zero = refl
pairs_plain (suc n) = pairs_plain n

lines_plain : (n : ℕ) → is_unambiguous (join_lines (suc n)) ≡ true
lines_plain n = and_from (is_unambiguous (repeated pair (suc n))) (is_unambiguous (repeated pair (suc n))) (pairs_plain (suc n)) (pairs_plain (suc n))

-- a line of join's input says one thing
pub one_line : (v w : ReceiverLine) (text : List ℕ) → IsLine v text → IsLine w text → v ≡ w
one_line v w text is_v is_w =
    let m = length (pairs_of v) + length (pairs_of w) in
    let a = line_spelled v text (suc m) is_v (omega arith) in
    let b = line_spelled w text (suc m) is_w (omega arith) in
    let same = one_reading (join_lines (suc m)) a.parts b.parts text (lines_sound (suc m)) (lines_plain m) a.spelled b.spelled in
    sym a.is ∙ ap line_in same ∙ b.is
