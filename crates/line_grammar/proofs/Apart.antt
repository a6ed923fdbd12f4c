-- a line of a plain grammar has one reading
use Rattle.std.proofs.Common.{◌≡◌, ℕ, ◌+◌, ◌-◌, Bool, true, false, ◌&&◌, ◌==◌, if◌then◌else◌, List, [], ◌∷◌, ◌++◌, length, ◌⊎◌, inl, inr, Result, Ok, Err, refl, sym, ◌∙◌, ap, subst, append-nil, arith}
use Rattle.std.specs.List.{flat_map, list_any, list_all}
use Rattle.std.proofs.lemmas.Bool.{and_parts, or_left, or_right, eq-eqb, not-true}
use Rattle.std.proofs.lemmas.List.{append_cancel_left}
use Rattle.plain_laws.proofs.Lists.{split}
use Rattle.line_grammar.specs.Columns.{ReadsAs, with_column}
use Rattle.line_grammar.specs.Tokens.{Token, IsToken}
use Rattle.line_grammar.specs.Grammar.{Grammar, finish, anything, word, field, either, Parts, none, part, first, second, Spells}
use Rattle.line_grammar.specs.inside.Soundness.{may_have, may_follow, is_some_token, is_sound, cut, cut_all, may_end, differs, is_unambiguous}
use Rattle.line_grammar.specs.inside.Reading.{read}
use Rattle.line_grammar.proofs.Stops.{Reads, left_le, IsColumn-stops}
use Rattle.line_grammar.proofs.Munching.{has, some_byte, no_token}
use Rattle.line_grammar.proofs.Fields.{follows}
use Rattle.line_grammar.proofs.Grammars.{reads}

-- one of these grammars is sound and has this line
AnyLine : List Grammar → List ℕ → Type 0
AnyLine [] bytes = ⊥
AnyLine (G ∷ grammars) bytes = ((parts : Parts) × Spells G parts bytes × (is_sound G ≡ true)) ⊎ AnyLine grammars bytes

any_left : (a b : List Grammar) (bytes : List ℕ) → AnyLine a bytes → AnyLine (a ++ b) bytes
unfolding AnyLine
any_left [] b bytes h = absurd h
any_left (G ∷ a) b bytes (inl h) = inl h
any_left (G ∷ a) b bytes (inr h) = inr (any_left a b bytes h)

any_right : (a b : List Grammar) (bytes : List ℕ) → AnyLine b bytes → AnyLine (a ++ b) bytes
unfolding AnyLine
any_right [] b bytes h = h
any_right (G ∷ a) b bytes h = inr (any_right a b bytes h)

-- what follows a byte is cut
cut_word : (c d : ℕ) (text back s : List ℕ) (rest : Grammar) (parts : Parts) (t : Bool) → (c == d) ≡ t → c ∷ s ≡ d ∷ (text ++ back) → Spells rest parts back → is_sound rest ≡ true
    → AnyLine (if t then word text rest ∷ [] else []) s
unfolding AnyLine
cut_word c d text back s rest parts true e k h sound = inl (parts, (back, (cc), h), sound)
cut_word c d text back s rest parts false e k h sound =
    let same : c ≡ d = cc in
    let yes = eq-eqb c d same in
    absurd (cc)

cut_token : (s : List ℕ) (t : Bool) → t ≡ true → AnyLine (if t then anything ∷ [] else []) s
unfolding AnyLine
cut_token s true e = inl (none, tt, refl)
cut_token s false e = absurd (cc)

token_sound : (token : Token) (rest : Grammar) → is_sound (field token rest) ≡ true → is_some_token token ≡ true
token_sound token rest sound = (and_parts (is_some_token token) (may_follow token rest && is_sound rest) sound).0

cut_line : (c : ℕ) (G : Grammar) (parts : Parts) (s : List ℕ) → is_sound G ≡ true → Spells G parts (c ∷ s) → AnyLine (cut c G) s
unfolding AnyLine
cut_line c finish none s sound h = absurd (cc)
cut_line c finish (part a b) s sound h = absurd h
cut_line c finish (first a) s sound h = absurd h
cut_line c finish (second a) s sound h = absurd h
cut_line c anything none s sound h = inl (none, tt, refl)
cut_line c anything (part a b) s sound h = absurd h
cut_line c anything (first a) s sound h = absurd h
cut_line c anything (second a) s sound h = absurd h
cut_line c (word [] rest) parts s sound h = cut_line c rest parts s sound (subst (λ (l : List ℕ). Spells rest parts l) (sym h.1) h.2)
cut_line c (word (d ∷ text) rest) parts s sound h = cut_word c d text h.0 s rest parts (c == d) refl h.1 h.2 sound
cut_line c (field token rest) (part front parts) s sound h = cut_token s (may_have token c) (some_byte token front h.1.0 c s (token_sound token rest sound) h.0 h.1.1)
cut_line c (field token rest) none s sound h = absurd h
cut_line c (field token rest) (first a) s sound h = absurd h
cut_line c (field token rest) (second a) s sound h = absurd h
cut_line c (either left right) (first parts) s sound h = any_left (cut c left) (cut c right) s (cut_line c left parts s (and_parts (is_sound left) (is_sound right) sound).0 h)
cut_line c (either left right) (second parts) s sound h = any_right (cut c left) (cut c right) s (cut_line c right parts s (and_parts (is_sound left) (is_sound right) sound).1 h)
cut_line c (either left right) none s sound h = absurd h
cut_line c (either left right) (part a b) s sound h = absurd h

cut_lines : (c : ℕ) (grammars : List Grammar) (s : List ℕ) → AnyLine grammars (c ∷ s) → AnyLine (flat_map (cut c) grammars) s
unfolding AnyLine
cut_lines c [] s h = absurd h
cut_lines c (G ∷ grammars) s (inl h) = any_left (cut c G) (flat_map (cut c) grammars) s (cut_line c G h.0 s h.2 h.1)
cut_lines c (G ∷ grammars) s (inr h) = any_right (cut c G) (flat_map (cut c) grammars) s (cut_lines c grammars s h)

cut_text : (text : List ℕ) (grammars : List Grammar) (s : List ℕ) → AnyLine grammars (text ++ s) → AnyLine (cut_all text grammars) s
cut_text [] grammars s h = h
cut_text (c ∷ text) grammars s h = cut_text text (flat_map (cut c) grammars) s (cut_lines c grammars (text ++ s) h)

-- a line that ends at once
ends_at_once : (G : Grammar) (parts : Parts) → is_sound G ≡ true → Spells G parts [] → may_end G ≡ true
ends_at_once finish parts sound h = refl
ends_at_once anything parts sound h = refl
ends_at_once (word [] rest) parts sound h = ends_at_once rest parts sound (subst (λ (l : List ℕ). Spells rest parts l) (sym h.1) h.2)
ends_at_once (word (c ∷ text) rest) parts sound h = let e : [] ≡ c ∷ (text ++ h.0) = h.1 in absurd (cc)
ends_at_once (field token rest) (part front parts) sound h = absurd (no_token token front h.1.0 (token_sound token rest sound) h.0 h.1.1)
ends_at_once (field token rest) none sound h = absurd h
ends_at_once (field token rest) (first a) sound h = absurd h
ends_at_once (field token rest) (second a) sound h = absurd h
ends_at_once (either left right) (first parts) sound h = or_left (may_end left) (may_end right) (ends_at_once left parts (and_parts (is_sound left) (is_sound right) sound).0 h)
ends_at_once (either left right) (second parts) sound h = or_right (may_end left) (may_end right) (ends_at_once right parts (and_parts (is_sound left) (is_sound right) sound).1 h)
ends_at_once (either left right) none sound h = absurd h
ends_at_once (either left right) (part a b) sound h = absurd h

any_ends : (grammars : List Grammar) → AnyLine grammars [] → list_any may_end grammars ≡ true
unfolding AnyLine
any_ends [] h = absurd h
any_ends (G ∷ grammars) (inl h) = or_left (may_end G) (list_any may_end grammars) (ends_at_once G h.0 h.2 h.1)
any_ends (G ∷ grammars) (inr h) = or_right (may_end G) (list_any may_end grammars) (any_ends grammars h)

any_follows : (token : Token) (grammars : List Grammar) (c : ℕ) (s : List ℕ) → list_all (may_follow token) grammars ≡ true → AnyLine grammars (c ∷ s) → may_have token c ≡ false
unfolding AnyLine
any_follows token [] c s h k = absurd k
any_follows token (G ∷ grammars) c s h (inl k) = follows token G k.0 c s (and_parts (may_follow token G) (list_all (may_follow token) grammars) h).0 k.1
any_follows token (G ∷ grammars) c s h (inr k) = any_follows token grammars c s (and_parts (may_follow token G) (list_all (may_follow token) grammars) h).1 k

-- grammars that differ have no line in common
token_differs : (token : Token) (grammars : List Grammar) (front back s : List ℕ) → is_some_token token ≡ true → list_all (may_follow token) grammars ≡ true → IsToken token front → s ≡ front ++ back → AnyLine grammars s → ⊥
token_differs token grammars front back [] some h is e k = no_token token front back some is e
token_differs token grammars front back (c ∷ s) some h is e k =
    let no = any_follows token grammars c s h k in
    let yes = some_byte token front back c s some is e in
    absurd (cc)

differ : (G : Grammar) (grammars : List Grammar) (parts : Parts) (s : List ℕ) → is_sound G ≡ true → differs G grammars ≡ true → Spells G parts s → AnyLine grammars s → ⊥
unfolding AnyLine
differ finish grammars none s sound h k m =
    let no = not-true (list_any may_end grammars) h in
    let yes = any_ends grammars (subst (λ (l : List ℕ). AnyLine grammars l) k m) in
    absurd (cc)
differ finish grammars (part a b) s sound h k m = absurd k
differ finish grammars (first a) s sound h k m = absurd k
differ finish grammars (second a) s sound h k m = absurd k
differ anything [] parts s sound h k m = absurd m
differ anything (other ∷ grammars) parts s sound h k m = absurd (cc)
differ (word text rest) grammars parts s sound h k m =
    differ rest (cut_all text grammars) parts k.0 sound h k.2 (cut_text text grammars k.0 (subst (λ (l : List ℕ). AnyLine grammars l) k.1 m))
differ (field token rest) grammars (part front parts) s sound h k m = token_differs token grammars front k.1.0 s (token_sound token rest sound) h k.0 k.1.1 m
differ (field token rest) grammars none s sound h k m = absurd k
differ (field token rest) grammars (first a) s sound h k m = absurd k
differ (field token rest) grammars (second a) s sound h k m = absurd k
differ (either left right) grammars (first parts) s sound h k m = differ left grammars parts s (and_parts (is_sound left) (is_sound right) sound).0 (and_parts (differs left grammars) (differs right grammars) h).0 k m
differ (either left right) grammars (second parts) s sound h k m = differ right grammars parts s (and_parts (is_sound left) (is_sound right) sound).1 (and_parts (differs left grammars) (differs right grammars) h).1 k m
differ (either left right) grammars none s sound h k m = absurd k
differ (either left right) grammars (part a b) s sound h k m = absurd k

-- two tokens at the front of a line are one
same_token : (token : Token) (rest : Grammar) (a r b s t : List ℕ) (q : Parts) → may_follow token rest ≡ true → IsToken token a → Spells rest q s → a ≡ b ++ t → s ≡ t ++ r → (a ≡ b) × (r ≡ s)
same_token token rest a r b s [] q h is k e f = (e ∙ append-nil b, sym f)
same_token token rest a r b s (y ∷ t) q h is k e f =
    let no = follows token rest q y (t ++ r) h (subst (λ (l : List ℕ). Spells rest q l) f k) in
    let yes = has token a b t y is e in
    absurd (cc)

one_token : (token : Token) (rest : Grammar) (a r b s : List ℕ) (p q : Parts) → may_follow token rest ≡ true → IsToken token a → IsToken token b → Spells rest p r → Spells rest q s → a ++ r ≡ b ++ s → (a ≡ b) × (r ≡ s)
one_token token rest a r b s p q h is_a is_b k m e =
    elim (split a r b s e) [
      | inl x ↦ same_token token rest a r b s x.0 q h is_a m x.1 x.2
      | inr x ↦ (let y = same_token token rest b s a r (x.0 ∷ x.1) p h is_b k x.2 x.3 in (sym y.0, sym y.1))
    ]

either_apart : (left right : Grammar) (p q : Parts) (s : List ℕ) → is_sound (either left right) ≡ true → differs left (right ∷ []) ≡ true → Spells left p s → Spells right q s → ⊥
unfolding AnyLine
either_apart left right p q s sound h k m =
    let both = and_parts (is_sound left) (is_sound right) sound in
    differ left (right ∷ []) p s both.0 h k (inl (q, m, both.1))

-- one reading
pub one_reading : (G : Grammar) (p q : Parts) (s : List ℕ) → is_sound G ≡ true → is_unambiguous G ≡ true → Spells G p s → Spells G q s → p ≡ q
one_reading finish none none s h k a b = refl
one_reading anything none none s h k a b = refl
one_reading (word text rest) p q s h k a b =
    let same : a.0 ≡ b.0 = append_cancel_left text a.0 b.0 (sym a.1 ∙ b.1) in
    one_reading rest p q b.0 h k (subst (λ (l : List ℕ). Spells rest p l) same a.2) b.2
one_reading (field token rest) (part x p) (part y q) s h k a b =
    let sound = and_parts (is_some_token token) (may_follow token rest && is_sound rest) h in
    let follow = and_parts (may_follow token rest) (is_sound rest) sound.1 in
    let same = one_token token rest x a.1.0 y b.1.0 p q follow.0 a.0 b.0 a.1.2 b.1.2 (sym a.1.1 ∙ b.1.1) in
    let more = one_reading rest p q b.1.0 follow.1 k (subst (λ (l : List ℕ). Spells rest p l) same.1 a.1.2) b.1.2 in
    ap (λ (l : List ℕ). part l p) same.0 ∙ ap (λ (r : Parts). part y r) more
one_reading (either left right) (first p) (first q) s h k a b =
    let plain = and_parts (differs left (right ∷ [])) (is_unambiguous left && is_unambiguous right) k in
    ap first (one_reading left p q s (and_parts (is_sound left) (is_sound right) h).0 (and_parts (is_unambiguous left) (is_unambiguous right) plain.1).0 a b)
one_reading (either left right) (second p) (second q) s h k a b =
    let plain = and_parts (differs left (right ∷ [])) (is_unambiguous left && is_unambiguous right) k in
    ap second (one_reading right p q s (and_parts (is_sound left) (is_sound right) h).1 (and_parts (is_unambiguous left) (is_unambiguous right) plain.1).1 a b)
one_reading (either left right) (first p) (second q) s h k a b =
    absurd (either_apart left right p q s h (and_parts (differs left (right ∷ [])) (is_unambiguous left && is_unambiguous right) k).0 a b)
one_reading (either left right) (second p) (first q) s h k a b =
    absurd (either_apart left right q p s h (and_parts (differs left (right ∷ [])) (is_unambiguous left && is_unambiguous right) k).0 b a)
one_reading finish none (part a b) s h k x y = absurd y
one_reading finish none (first a) s h k x y = absurd y
one_reading finish none (second a) s h k x y = absurd y
one_reading finish (part a b) q s h k x y = absurd x
one_reading finish (first a) q s h k x y = absurd x
one_reading finish (second a) q s h k x y = absurd x
one_reading anything none (part a b) s h k x y = absurd y
one_reading anything none (first a) s h k x y = absurd y
one_reading anything none (second a) s h k x y = absurd y
one_reading anything (part a b) q s h k x y = absurd x
one_reading anything (first a) q s h k x y = absurd x
one_reading anything (second a) q s h k x y = absurd x
one_reading (field token rest) (part a b) none s h k x y = absurd y
one_reading (field token rest) (part a b) (first c) s h k x y = absurd y
one_reading (field token rest) (part a b) (second c) s h k x y = absurd y
one_reading (field token rest) none q s h k x y = absurd x
one_reading (field token rest) (first a) q s h k x y = absurd x
one_reading (field token rest) (second a) q s h k x y = absurd x
one_reading (either left right) (first a) none s h k x y = absurd y
one_reading (either left right) (first a) (part b c) s h k x y = absurd y
one_reading (either left right) (second a) none s h k x y = absurd y
one_reading (either left right) (second a) (part b c) s h k x y = absurd y
one_reading (either left right) none q s h k x y = absurd x
one_reading (either left right) (part a b) q s h k x y = absurd x

-- the reader's answer, with the column
answered : (G : Grammar) (bytes : List ℕ) (r : Result Parts ℕ) → is_sound G ≡ true → is_unambiguous G ≡ true → Reads (Spells G) bytes r → ReadsAs (Spells G) bytes (with_column bytes r)
answered G bytes (Ok parts) h k m = (m, λ other n. one_reading G other parts bytes h k n m)
answered G bytes (Err left) h k m = IsColumn-stops (Spells G) bytes left (length bytes + 1 - left) m (omega (arith, left_le (Spells G) bytes left m))

-- an unambiguous grammar's reader answers what the text spells, or its column
pub answers : (G : Grammar) (bytes : List ℕ) → is_sound G ≡ true → is_unambiguous G ≡ true → ReadsAs (Spells G) bytes (with_column bytes (read G bytes))
answers G bytes h k = answered G bytes (read G bytes) h k (reads G bytes h)
