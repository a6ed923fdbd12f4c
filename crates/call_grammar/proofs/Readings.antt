-- From what is read of a list to the answers of `read`.
use Rattle.std.proofs.Common.{◌≡◌, ℕ, ◌-◌, ◌<◌, ◌≤◌, inl, List, [], ◌∷◌, ◌++◌, length, drop, get_or, refl, sym, ◌∙◌, ap, subst, append_assoc, length-append, arith}
use mathlib.Core.List.{head-eq_of_cons-eq}
use Rattle.std.proofs.Math.Seq.{get_or-append_seam}
use Rattle.symbol_reader.specs.inside.Reading.{Begins, Wants, Leaves}
use Rattle.symbol_reader.proofs.Laws.{no_word_goes_on}
use Rattle.call_values.specs.declared.calls.Call.{Call}
use Rattle.call_values.specs.Calls.{IsCall}
use Rattle.call_grammar.specs.Spelling.{format_of, fields_of, end_of, covered, check_of, up_to_end, spell}
use Rattle.call_grammar.specs.inside.Grammar.{CheckedCharacters}
use Rattle.dsc_symbols.specs.Formats.{IsFormat}
use Rattle.symbol_reader.proofs.Steps.{length_left}
use Rattle.call_grammar.specs.Walk.{IsViable, IsOpen}
use Rattle.call_grammar.specs.Reading.{IsPart, EndsShort, EndsOutside, IsTwice}
use Rattle.call_grammar.specs.inside.Forms.{format_symbol}
use Rattle.call_grammar.proofs.CodedParts.{format_of_symbol, format_there}
use Rattle.call_grammar.proofs.FormParts.{after_format_closes}
use Rattle.call_grammar.proofs.ToForms.{to_format}
use Rattle.call_grammar.proofs.CallParts.{checked_characters_good}
use Rattle.call_grammar.proofs.Lengths.{length-spell}
use Rattle.call_grammar.proofs.Steps.{spelled, open_of, not_viable, no_cover, no_check_first}

-- what a call's list has after the first end of sequence
abbrev pub tail_of : Call → List ℕ
tail_of c = check_of (covered c) ∷ end_of c ∷ end_of c ∷ []

-- a call's list is what comes up to its end of sequence, and its last symbols
pub spell-tail : (c : Call) → spell c ≡ up_to_end c ++ tail_of c
spell-tail c = append_assoc (up_to_end c) (check_of (covered c) ∷ []) (end_of c ∷ end_of c ∷ [])

-- calls begin with format specifiers
pub format_lawful : (c : Call) → IsFormat (format_of c)
format_lawful c = grind arith

-- each format specifier begins a call
pub format_call : (f : ℕ) → IsFormat f → (c : Call) × IsCall c × (format_of c ≡ f)
format_call f h =
    let g = (after_format_closes (format_of_symbol f)).good in
    let o = to_format (format_of_symbol f) g.value g.text g.word in
    let list : format_symbol (format_of_symbol f) ∷ g.text ≡ covered g.value = o.list in
    (g.value, o.is_lawful, sym (head-eq_of_cons-eq list) ∙ format_there f h)

pub empty_short : (l : List ℕ) → length l < 1 → EndsShort l 0
empty_short [] h =
    let c : Call = checked_characters_good.value in
    let k : ℕ = check_of (covered c) in
    record {
      part = record {
        call = c;
        next = format_of c;
        rest = (covered c ++ (k ∷ [])) ++ (end_of c ∷ end_of c ∷ []);
        lawful = checked_characters_good.word.is_lawful;
        list = refl;
      };
      place = refl;
    }
empty_short (x ∷ l) h = absurd (omega arith)

pub first_outside : (l : List ℕ) → 0 < length l → (IsFormat (get_or l 0 0) → ⊥) → EndsOutside l 0 (get_or l 0 0)
first_outside [] h n = absurd (omega arith)
first_outside (x ∷ l) h n = record {
  front = [];
  rest = l;
  list = refl;
  place = refl;
  part = (empty_short [] (omega arith)).part;
  never = λ (v : IsViable (x ∷ [])).
      (let c = v.call in
      let e : format_of c ∷ ((covered c ++ (check_of (covered c) ∷ [])) ++ (end_of c ∷ end_of c ∷ [])) ≡ x ∷ v.rest = v.list in
      n (subst IsFormat (head-eq_of_cons-eq e) (format_lawful c)));
  elsewhere = no_check_first;
}

one_part : (f : ℕ) → IsFormat f → IsPart (f ∷ [])
one_part f h =
    let e = format_call f h in
    let c : Call = e.0 in
    let k : ℕ = check_of (covered c) in
    let rest : List ℕ = (fields_of c ++ (end_of c ∷ [])) in
    record {
      call = c;
      next = format_of c;
      rest = (rest ++ (k ∷ [])) ++ (end_of c ∷ end_of c ∷ []);
      lawful = e.1;
      list = ap (λ a. a ∷ (format_of c ∷ ((rest ++ (k ∷ [])) ++ (end_of c ∷ end_of c ∷ [])))) e.2;
    }

pub one_short : (l : List ℕ) → 0 < length l → length l < 2 → IsFormat (get_or l 0 0) → EndsShort l 1
one_short [] h k f = absurd (omega arith)
one_short (x ∷ []) h k f = record { part = one_part x f; place = refl }
one_short (x ∷ y ∷ l) h k f = absurd (omega arith)

pub second_outside : (l : List ℕ) → 1 < length l → IsFormat (get_or l 0 0) → (get_or l 0 0 ≡ get_or l 1 0 → ⊥) → EndsOutside l 1 (get_or l 1 0)
second_outside [] h f n = absurd (omega arith)
second_outside (x ∷ []) h f n = absurd (omega arith)
second_outside (x ∷ y ∷ l) h f n = record {
  front = x ∷ [];
  rest = l;
  list = refl;
  place = refl;
  part = one_part x f;
  never = λ (v : IsViable (x ∷ y ∷ [])).
      (let c = v.call in
      let rest : List ℕ = ((fields_of c ++ (end_of c ∷ [])) ++ (check_of (covered c) ∷ [])) ++ (end_of c ∷ end_of c ∷ []) in
      let e : format_of c ∷ format_of c ∷ rest ≡ x ∷ y ∷ v.rest = v.list in
      let p : format_of c ≡ x = head-eq_of_cons-eq e in
      let q : format_of c ∷ rest ≡ y ∷ v.rest = cc in
      n (sym p ∙ head-eq_of_cons-eq q));
  elsewhere = λ a. (let e : x ∷ [] ≡ format_of a.call ∷ covered a.call = a.list in let q : [] ≡ covered a.call = cc in no_cover a.call q);
}

pub open_part : (l : List ℕ) → IsOpen l → IsPart l
open_part l o =
    let ends : List ℕ = end_of o.call ∷ end_of o.call ∷ [] in
    record {
      call = o.call;
      next = o.next;
      rest = o.rest ++ ends;
      lawful = o.lawful;
      list = ap (λ a. a ++ ends) o.list ∙ append_assoc l (o.next ∷ o.rest) ends;
    }

pub checked_short : (l : List ℕ) → IsTwice l → Wants CheckedCharacters (drop 1 l) → EndsShort l (length l)
checked_short l t w =
    let once : drop 1 l ≡ t.format ∷ t.rest = ap (λ a. drop 1 a) t.list in
    record {
      part = subst IsPart (sym t.list) (open_part _ (open_of t.format (t.format ∷ t.rest) t.rest refl (inl (subst (Wants CheckedCharacters) once w))));
      place = refl;
    }

-- a format specifier begins what a check covers
format_begins : (f : ℕ) → IsFormat f → Begins CheckedCharacters (f ∷ [])
format_begins f h =
    let e = format_call f h in
    let c : Call = e.0 in
    let rest : List ℕ = fields_of c ++ (end_of c ∷ []) in
    record { value = c; rest = rest; word = subst (CheckedCharacters c) (ap (λ a. a ∷ rest) e.2) (spelled c e.1) }

left_outside : (f n : ℕ) (m rest tail : List ℕ) → IsFormat f → f ∷ tail ≡ m ++ (n ∷ rest) → Wants CheckedCharacters m → (Begins CheckedCharacters (m ++ (n ∷ [])) → ⊥)
    → EndsOutside (f ∷ f ∷ tail) (length (f ∷ m)) n
left_outside f n [] rest tail h e w never =
    let same : f ≡ n = head-eq_of_cons-eq e in
    absurd (never (subst (λ a. Begins CheckedCharacters (a ∷ [])) same (format_begins f h)))
left_outside f n (g ∷ m) rest tail h e w never = record {
  front = f ∷ g ∷ m;
  rest = rest;
  list = ap (λ a. f ∷ a) e;
  place = refl;
  part = open_part _ (open_of f (g ∷ m) m (ap (λ a. a ∷ m) (sym (head-eq_of_cons-eq e))) (inl w));
  never = not_viable f (g ∷ m) (g ∷ m) n n w refl never;
  elsewhere = λ a.
      (let c = a.call in
      let p : f ∷ g ∷ m ≡ format_of c ∷ covered c = a.list in
      let q : g ∷ m ≡ covered c = cc in
      no_word_goes_on CheckedCharacters checked_characters_good c w.value (covered c) w.next w.rest (spelled c a.lawful)
      (subst (λ b. CheckedCharacters w.value (b ++ (w.next ∷ w.rest))) q w.word));
}

pub checked_outside : (l new : List ℕ) → IsTwice l → Leaves CheckedCharacters (drop 1 l) new
    → EndsOutside l (length l - length new) (get_or l (length l - length new) 0)
checked_outside l new t v =
    let once : drop 1 l ≡ t.format ∷ t.rest = ap (λ a. drop 1 a) t.list in
    let parts : t.format ∷ t.rest ≡ v.front ++ (v.next ∷ v.rest) = sym once ∙ v.list in
    let whole : l ≡ (t.format ∷ v.front) ++ (v.next ∷ v.rest) = t.list ∙ ap (λ a. t.format ∷ a) parts in
    let place : length l - length new ≡ length (t.format ∷ v.front) =
    ap (λ a. length a - length new) whole ∙ ap (λ a. length ((t.format ∷ v.front) ++ (v.next ∷ v.rest)) - length a) v.left
    ∙ length_left (t.format ∷ v.front) v.rest v.next in
    let symbol : get_or l (length l - length new) 0 ≡ v.next =
    ap (λ a. get_or l a 0) place ∙ ap (λ a. get_or a (length (t.format ∷ v.front)) 0) whole ∙ get_or-append_seam (t.format ∷ v.front) v.next v.rest 0 in
    let ends = left_outside t.format v.next v.front v.rest t.rest t.lawful parts v.wants v.never in
    subst (λ a. EndsOutside a (length l - length new) (get_or l (length l - length new) 0)) (sym t.list)
    (subst (λ a. EndsOutside (t.format ∷ t.format ∷ t.rest) a (get_or l (length l - length new) 0)) (sym place)
    (subst (λ a. EndsOutside (t.format ∷ t.format ∷ t.rest) (length (t.format ∷ v.front)) a) (sym symbol) ends))

-- a part of a call's list is short
pub part_short : (l : List ℕ) → IsPart l → length l ≤ 31
part_short l p =
    let k : length (spell p.call) ≡ length (l ++ (p.next ∷ p.rest)) = ap length p.list in
    omega (arith, length-spell p.call, length-append l (p.next ∷ p.rest))

pub outside_short : (l : List ℕ) (n x : ℕ) → EndsOutside l n x → n ≤ 31
outside_short l n x e = let k : n ≡ length e.front = e.place in omega (arith, part_short e.front e.part)
