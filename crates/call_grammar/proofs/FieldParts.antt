-- Frequency and channel fields by their letters.
use Rattle.std.proofs.Common.{◌≡◌, ℕ, ◌+◌, ◌*◌, ◌/◌, ◌%◌, ◌≤◌, inl, inr, ◌==◌, if◌then◌else◌, Bool, true, false, List, [], ◌∷◌, refl, sym, ◌∙◌, ap, subst, arith}
use Rattle.std.proofs.lemmas.Bool.{eqb-true, eqb-false, ne_eqb, eq-eqb}
use Rattle.symbol_reader.specs.declared.letters.Letter.TheVariants.{Exactly, UpTo}
use Rattle.symbol_reader.specs.declared.letters.Letter.TheVariants as letter
use Rattle.symbol_reader.specs.Letters.{Allows}
use Rattle.symbol_reader.specs.inside.Languages.{Only, Then, Choice, Spelled}
use Rattle.symbol_reader.proofs.Laws.{Good, Alike, then_good, only_good, choice_good, alike_good}
use Rattle.symbol_reader.proofs.Steps.{letter_good, one_then, joined}
use Rattle.call_values.specs.declared.fields.FieldKind.{FieldKind}
use Rattle.call_values.specs.declared.fields.FieldKind.TheVariants.{Absent, Hundreds, Hf, Vhf, Tens}
use Rattle.call_values.specs.Fields.{IsField}
use Rattle.dsc_symbols.specs.declared.messages.TheConstants.{NO_INFORMATION, VHF_CHANNEL}
use Rattle.call_grammar.specs.Spelling.{field_symbols}
use Rattle.symbol_reader.proofs.Digits.{six-of, eight-of, three}
use Rattle.call_grammar.specs.inside.Grammar.{Symbol, FieldWords, FieldRest, field_letter, short_field, long_field}

abbrev pub FieldEnd : ℕ → ℕ → ℕ → FieldKind → List ℕ → Type 0
FieldEnd initial b c = Choice (initial / 10 == 4) (Then (Symbol (UpTo 99)) (λ d. Only (long_field initial b c d))) (Only (short_field initial b c))

abbrev pub FieldThird : ℕ → ℕ → FieldKind → List ℕ → Type 0
FieldThird initial b = Then (Symbol (field_letter initial)) (FieldEnd initial b)

abbrev pub FieldParts : FieldKind → List ℕ → Type 0
FieldParts = Then (Symbol letter.Field) FieldRest

pub long_end_good : (initial b c : ℕ) → Good (Then (Symbol (UpTo 99)) (λ d. Only (long_field initial b c d)))
long_end_good initial b c = then_good _ _ (letter_good (UpTo 99)) (λ d _ _. only_good (long_field initial b c d))

pub field_end_good : (initial b c : ℕ) → Good (FieldEnd initial b c)
field_end_good initial b c = choice_good (initial / 10 == 4) _ _ (λ _. long_end_good initial b c) (λ _. only_good (short_field initial b c))

pub field_third_good : (initial b : ℕ) → Good (FieldThird initial b)
field_third_good initial b = then_good _ _ (letter_good (field_letter initial)) (λ c _ _. field_end_good initial b c)

-- what follows a field's first character reads back
pub field_rest_good : (initial : ℕ) → Good (FieldRest initial)
field_rest_good initial = then_good _ _ (letter_good (field_letter initial)) (λ b _ _. field_third_good initial b)

parts_good : Good FieldParts
parts_good = then_good _ _ (letter_good letter.Field) (λ initial _ _. field_rest_good initial)

letter_at : (x : ℕ) (t : Bool) → Allows (if t then Exactly NO_INFORMATION else UpTo 99) x → t ≡ false → x ≤ 99
letter_at x t h e = grind arith

-- the letter of a field that is not absent
pub letter_up : (initial x : ℕ) → (initial ≡ NO_INFORMATION → ⊥) → Allows (field_letter initial) x → x ≤ 99
letter_up initial x n h = letter_at x (initial == NO_INFORMATION) h (ne_eqb initial NO_INFORMATION n)

-- where a field is found to have three characters
short_at : (initial b c : ℕ) (absent vhf hf : Bool) → Allows letter.Field initial → (initial / 10 ≡ 4 → ⊥)
    → (initial == NO_INFORMATION) ≡ absent → (initial == VHF_CHANNEL) ≡ vhf → (initial / 10 == 3) ≡ hf
    → Allows (if absent then Exactly NO_INFORMATION else UpTo 99) b → Allows (if absent then Exactly NO_INFORMATION else UpTo 99) c
    → Spelled IsField field_symbols (if absent then Absent else (if vhf then Vhf (b * 100 + c) else
    (if hf then Hf (initial % 10 * 10000 + (b * 100 + c)) else Hundreds (initial * 10000 + (b * 100 + c))))) (initial ∷ b ∷ c ∷ [])
short_at initial b c true vhf hf h n ea ev eh hb hc =
    let k : initial ≡ NO_INFORMATION = eqb-true initial NO_INFORMATION ea in
    let kb : b ≡ NO_INFORMATION = hb in
    let kc : c ≡ NO_INFORMATION = hc in
    record { is_lawful = tt; list = three k kb kc }
short_at initial b c false true hf h n ea ev eh hb hc =
    let k : initial ≡ VHF_CHANNEL = eqb-true initial VHF_CHANNEL ev in
    let kb : b ≤ 99 = hb in
    let kc : c ≤ 99 = hc in
    record { is_lawful = omega arith; list = sym (six-of (900000 + (b * 100 + c)) initial b c kb kc (omega arith)) }
short_at initial b c false false true h n ea ev eh hb hc =
    let k : initial / 10 ≡ 3 = eqb-true (initial / 10) 3 eh in
    let kb : b ≤ 99 = hb in
    let kc : c ≤ 99 = hc in
    record {
      is_lawful = omega arith;
      list = sym (six-of (300000 + (initial % 10 * 10000 + (b * 100 + c))) initial b c kb kc (omega arith));
    }
short_at initial b c false false false h n ea ev eh hb hc =
    let ka : initial ≡ NO_INFORMATION → ⊥ = eqb-false initial NO_INFORMATION ea in
    let kv : initial ≡ VHF_CHANNEL → ⊥ = eqb-false initial VHF_CHANNEL ev in
    let kh : initial / 10 ≡ 3 → ⊥ = eqb-false (initial / 10) 3 eh in
    let low : initial ≤ 49 = elim h [ inl l ↦ l | inr r ↦ elim r [ inl e ↦ absurd (kv e) | inr e ↦ absurd (ka e) ] ] in
    let few : initial ≤ 29 = grind arith in
    let kb : b ≤ 99 = hb in
    let kc : c ≤ 99 = hc in
    record { is_lawful = omega arith; list = sym (six-of (initial * 10000 + (b * 100 + c)) initial b c kb kc (omega arith)) }

pub short_words : (initial b c : ℕ) → Allows letter.Field initial → (initial / 10 ≡ 4 → ⊥) → Allows (field_letter initial) b → Allows (field_letter initial) c
    → Spelled IsField field_symbols (short_field initial b c) (initial ∷ b ∷ c ∷ [])
short_words initial b c h n hb hc = short_at initial b c (initial == NO_INFORMATION) (initial == VHF_CHANNEL) (initial / 10 == 3) h n refl refl refl hb hc

long_words : (initial b c d : ℕ) → initial / 10 ≡ 4 → b ≤ 99 → c ≤ 99 → d ≤ 99
    → Spelled IsField field_symbols (long_field initial b c d) (initial ∷ b ∷ c ∷ d ∷ [])
long_words initial b c d h hb hc hd = record {
  is_lawful = omega arith;
  list = sym (eight-of (40000000 + (initial % 10 * 1000000 + (b * 10000 + (c * 100 + d)))) initial b c d hb hc hd (omega arith));
}

to_end : (initial b c : ℕ) (t : Bool) (v : FieldKind) (l : List ℕ) → (initial / 10 == 4) ≡ t → Allows letter.Field initial
    → Allows (field_letter initial) b → Allows (field_letter initial) c → FieldEnd initial b c v l → FieldWords v (initial ∷ b ∷ c ∷ l)
to_end initial b c true v l e h hb hc p =
    let k : initial / 10 ≡ 4 = eqb-true (initial / 10) 4 e in
    let n : initial ≡ NO_INFORMATION → ⊥ = λ m. omega arith in
    let q = p.yes e in
    let value : v ≡ long_field initial b c q.chosen = q.after.value in
    let tail : l ≡ q.chosen ∷ [] = joined q q.after.list in
    let word = long_words initial b c q.chosen k (letter_up initial b n hb) (letter_up initial c n hc) q.before.allowed in
    subst (λ x. FieldWords x (initial ∷ b ∷ c ∷ l)) (sym value) (subst (λ x. FieldWords (long_field initial b c q.chosen) (initial ∷ b ∷ c ∷ x)) (sym tail) word)
to_end initial b c false v l e h hb hc p =
    let q = p.no e in
    let value : v ≡ short_field initial b c = q.value in
    let tail : l ≡ [] = q.list in
    let word = short_words initial b c h (eqb-false (initial / 10) 4 e) hb hc in
    subst (λ x. FieldWords x (initial ∷ b ∷ c ∷ l)) (sym value) (subst (λ x. FieldWords (short_field initial b c) (initial ∷ b ∷ c ∷ x)) (sym tail) word)

-- a field that begins so, and its rest
pub to_rest : (initial : ℕ) (v : FieldKind) (l : List ℕ) → Allows letter.Field initial → FieldRest initial v l → FieldWords v (initial ∷ l)
to_rest initial v l h p =
    let q = p.after in
    let list : l ≡ p.chosen ∷ q.chosen ∷ q.back = joined p (joined q refl) in
    subst (λ x. FieldWords v (initial ∷ x)) (sym list)
    (to_end initial p.chosen q.chosen (initial / 10 == 4) v q.back refl h p.before.allowed q.before.allowed q.after)

to_field : (v : FieldKind) (word : List ℕ) → FieldParts v word → FieldWords v word
to_field v word p = subst (FieldWords v) (sym (joined p refl)) (to_rest p.chosen v p.back p.before.allowed p.after)

letter_from : (x : ℕ) (t : Bool) → t ≡ false → x ≤ 99 → Allows (if t then Exactly NO_INFORMATION else UpTo 99) x
letter_from x t e h = grind arith

letter_ok : (initial x : ℕ) → (initial ≡ NO_INFORMATION → ⊥) → x ≤ 99 → Allows (field_letter initial) x
letter_ok initial x n h = letter_from x (initial == NO_INFORMATION) (ne_eqb initial NO_INFORMATION n) h

-- a field of three characters, and its first
short_rest : (v : FieldKind) (initial b c : ℕ) → (initial / 10 ≡ 4 → ⊥) → Allows (field_letter initial) b → Allows (field_letter initial) c → v ≡ short_field initial b c
    → FieldRest initial v (b ∷ c ∷ [])
short_rest v initial b c n hb hc value = grind arith

-- a field, its first character and the rest
pub record FieldSplit (v : FieldKind) : Type 0 where
  pub initial : ℕ
  pub rest : List ℕ
  pub allowed : Allows letter.Field initial
  pub list : field_symbols v ≡ initial ∷ rest
  pub word : FieldRest initial v rest

pub split_field : (v : FieldKind) → IsField v → FieldSplit v
split_field Absent h = record {
  initial = NO_INFORMATION;
  rest = NO_INFORMATION ∷ NO_INFORMATION ∷ [];
  allowed = inr (inr refl);
  list = refl;
  word = short_rest Absent NO_INFORMATION NO_INFORMATION NO_INFORMATION (λ e. omega (arith, e)) refl refl refl;
}
split_field (Hundreds n) h =
    let k : n ≤ 299999 = h in
    let a : ℕ = n / 10000 in let b : ℕ = n / 100 % 100 in let c : ℕ = n % 100 in
    let not_absent : a ≡ NO_INFORMATION → ⊥ = λ e. omega arith in
    let not_vhf : a ≡ VHF_CHANNEL → ⊥ = λ e. omega arith in
    let not_hf : a / 10 ≡ 3 → ⊥ = λ e. omega arith in
    let value : n ≡ a * 10000 + (b * 100 + c) = omega arith in
    record {
      initial = a;
      rest = b ∷ c ∷ [];
      allowed = inl (omega arith);
      list = six-of n a b c (omega arith) (omega arith) (omega arith);
      word = short_rest (Hundreds n) a b c (λ e. omega arith) (letter_ok a b not_absent (omega arith)) (letter_ok a c not_absent (omega arith))
          (rw (ne_eqb a NO_INFORMATION not_absent, ne_eqb a VHF_CHANNEL not_vhf, ne_eqb (a / 10) 3 not_hf) (ap (λ x. Hundreds x) value));
    }
split_field (Hf n) h =
    let k : n ≤ 99999 = h in
    let a : ℕ = 30 + n / 10000 in let b : ℕ = n / 100 % 100 in let c : ℕ = n % 100 in
    let not_absent : a ≡ NO_INFORMATION → ⊥ = λ e. omega arith in
    let not_vhf : a ≡ VHF_CHANNEL → ⊥ = λ e. omega arith in
    let is_hf : a / 10 ≡ 3 = omega arith in
    let value : n ≡ a % 10 * 10000 + (b * 100 + c) = omega arith in
    record {
      initial = a;
      rest = b ∷ c ∷ [];
      allowed = inl (omega arith);
      list = six-of (300000 + n) a b c (omega arith) (omega arith) (omega arith);
      word = short_rest (Hf n) a b c (λ e. omega arith) (letter_ok a b not_absent (omega arith)) (letter_ok a c not_absent (omega arith))
          (rw (ne_eqb a NO_INFORMATION not_absent, ne_eqb a VHF_CHANNEL not_vhf, eq-eqb (a / 10) 3 is_hf) (ap (λ x. Hf x) value));
    }
split_field (Vhf n) h =
    let k : n ≤ 9999 = h in
    let b : ℕ = n / 100 in let c : ℕ = n % 100 in
    let value : n ≡ b * 100 + c = omega arith in
    record {
      initial = VHF_CHANNEL;
      rest = b ∷ c ∷ [];
      allowed = inr (inl refl);
      list = six-of (900000 + n) VHF_CHANNEL b c (omega arith) (omega arith) (omega arith);
      word = short_rest (Vhf n) VHF_CHANNEL b c (λ e. omega (arith, e)) (letter_ok VHF_CHANNEL b (λ e. omega (arith, e)) (omega arith)) (letter_ok VHF_CHANNEL c (λ e. omega (arith, e)) (omega arith))
          (ap (λ x. Vhf x) value);
    }
split_field (Tens n) h =
    let k : n ≤ 9999999 = h in
    let a : ℕ = 40 + n / 1000000 in let b : ℕ = n / 10000 % 100 in let c : ℕ = n / 100 % 100 in let d : ℕ = n % 100 in
    let not_absent : a ≡ NO_INFORMATION → ⊥ = λ e. omega arith in
    let is_long : a / 10 ≡ 4 = omega arith in
    let value : n ≡ a % 10 * 1000000 + (b * 10000 + (c * 100 + d)) = omega arith in
    record {
      initial = a;
      rest = b ∷ c ∷ d ∷ [];
      allowed = inl (omega arith);
      list = eight-of (40000000 + n) a b c d (omega arith) (omega arith) (omega arith) (omega arith);
      word = one_then b (letter_ok a b not_absent (omega arith)) (one_then c (letter_ok a c not_absent (omega arith)) (record {
        yes = λ _. one_then d (omega arith) (record { value = ap (λ x. Tens x) value; list = refl });
        no = λ e. absurd (eqb-false (a / 10) 4 e is_long);
      }));
    }

from_field : (v : FieldKind) (word : List ℕ) → FieldWords v word → FieldParts v word
from_field v word p =
    let s = split_field v p.is_lawful in
    subst (FieldParts v) (sym (p.list ∙ s.list)) (one_then s.initial s.allowed s.word)

pub field_alike : Alike FieldParts FieldWords
field_alike = record { to = to_field; back = from_field }

-- a frequency or channel reads back, and none begins another
pub field_good : Good FieldWords
field_good = alike_good _ _ field_alike parts_good
