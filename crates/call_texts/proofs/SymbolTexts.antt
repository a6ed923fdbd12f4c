-- identities and symbols are numbers in nine and in three digits
use Rattle.std.proofs.Common.{◌≡◌, ℕ, ◌<◌, ◌^◌, Bool, true, List, refl, ◌∙◌, ap, arith}
use Rattle.std.proofs.lemmas.Bool.Decides.{nat_tests}
use Rattle.line_grammar.specs.Shapes.{fixed_number, is_within, digits}
use Rattle.line_grammar.specs.Tokens.{shaped}
use Rattle.line_grammar.proofs.Digits.{one_number}
use Rattle.line_grammar.proofs.Sections.{TokenTexts, numbers}
use Rattle.call_values.specs.Identity.{IsMmsi}
use Rattle.dsc_symbols.specs.Natures.{IsNature}
use Rattle.dsc_symbols.specs.Telecommands.{IsComm, IsFirst, IsSecond}
use Rattle.call_values.specs.declared.choices.Category.{Category}
use Rattle.call_values.specs.declared.choices.End.{End}
use Rattle.call_values.proofs.PublicLaws.{end_one}
use Rattle.call_grammar.specs.Spelling.{category_symbol, end_symbol}
use Rattle.dsc_symbols.specs.declared.sets.TheConstants.{BELOW_DISTRESS, ENDS, RELAY_ENDS, TEST_ENDS}
use Rattle.call_texts.specs.CallParts.{relay_end, test_end}
use Rattle.call_texts.specs.CallGrammar.{identity, symbol, nature, category, comm, first_command, second_command}

-- an identity is determined by its nine digits
pub identity_told : TokenTexts identity IsMmsi (digits 9)
identity_told = numbers 9 _ IsMmsi (λ n h. grind (arith, nat_tests)) (λ n h. grind (arith, nat_tests)) (λ n h. omega (arith, h))

pub nature_told : TokenTexts nature IsNature (digits 3)
nature_told = numbers 3 _ IsNature (λ n h. grind (arith, nat_tests)) (λ n h. grind (arith, nat_tests)) (λ n h. grind arith)

pub comm_told : TokenTexts comm IsComm (digits 3)
comm_told = numbers 3 _ IsComm (λ n h. grind (arith, nat_tests)) (λ n h. grind (arith, nat_tests)) (λ n h. grind arith)

pub first_told : TokenTexts first_command IsFirst (digits 3)
first_told = numbers 3 _ IsFirst (λ n h. grind (arith, nat_tests)) (λ n h. grind (arith, nat_tests)) (λ n h. grind arith)

pub second_told : TokenTexts second_command IsSecond (digits 3)
second_told = numbers 3 _ IsSecond (λ n h. grind (arith, nat_tests)) (λ n h. grind (arith, nat_tests)) (λ n h. grind arith)

-- values that have numbers of some ranges, one number each
pub coded : {V : Type 0} (width : ℕ) (ranges : List (ℕ × ℕ)) (Lawful : V → Type 0) (code : V → ℕ) → ((v : V) → Lawful v → (is_within ranges (code v) ≡ true) × (code v < 10 ^ width))
    → ((n : ℕ) → is_within ranges n ≡ true → (v : V) × Lawful v × (n ≡ code v)) → ((u v : V) → Lawful u → Lawful v → code u ≡ code v → u ≡ v)
    → TokenTexts (shaped (fixed_number width ranges)) Lawful (λ v. digits width (code v))
coded width ranges Lawful code inside decode one = record {
  is = λ v h. (code v, (inside v h).0, refl);
  of = λ bytes h. (let v = decode h.0 h.1 in (v.0, v.1, h.2 ∙ ap (digits width) v.2));
  one = λ u v h k e. one u v h k (one_number width (code u) (code v) (inside u h).1 (inside v k).1 e);
}

-- categories
category_inside : (c : Category) → (is_within BELOW_DISTRESS (category_symbol c) ≡ true) × (category_symbol c < 1000)
category_inside c = grind arith

category_decode : (n : ℕ) → is_within BELOW_DISTRESS n ≡ true → (c : Category) × Unit {0} × (n ≡ category_symbol c)
category_decode n h = grind arith

category_one : (u v : Category) → category_symbol u ≡ category_symbol v → u ≡ v
category_one u v e = grind arith

pub category_told : TokenTexts category (λ (c : Category). Unit {0}) (λ (c : Category). digits 3 (category_symbol c))
category_told = coded 3 _ (λ (c : Category). Unit {0}) category_symbol (λ c h. category_inside c) category_decode (λ u v h k e. category_one u v e)

-- ends of sequence
end_inside : (x : End) → (is_within ENDS (end_symbol x) ≡ true) × (end_symbol x < 1000)
end_inside x = grind arith

end_decode : (n : ℕ) → is_within ENDS n ≡ true → (x : End) × Unit {0} × (n ≡ end_symbol x)
end_decode n h = grind arith

pub end_told : TokenTexts (symbol ENDS) (λ (x : End). Unit {0}) (λ (x : End). digits 3 (end_symbol x))
end_told = coded 3 _ (λ (x : End). Unit {0}) end_symbol (λ x h. end_inside x) end_decode (λ u v h k e. end_one u v e)

-- one of two ends
relay_end_inside : (ask : Bool) → (is_within RELAY_ENDS (relay_end ask) ≡ true) × ((relay_end ask) < 1000)
relay_end_inside ask = grind arith

relay_end_decode : (n : ℕ) → is_within RELAY_ENDS n ≡ true → (ask : Bool) × Unit {0} × (n ≡ (relay_end ask))
relay_end_decode n h = grind arith

relay_end_one : (u v : Bool) → (relay_end u) ≡ (relay_end v) → u ≡ v
relay_end_one u v e = grind arith

pub relay_end_told : TokenTexts (symbol RELAY_ENDS) (λ (ask : Bool). Unit {0}) (λ (ask : Bool). digits 3 (relay_end ask))
relay_end_told = coded 3 _ (λ (ask : Bool). Unit {0}) relay_end (λ ask h. relay_end_inside ask) relay_end_decode (λ u v h k e. relay_end_one u v e)

test_end_inside : (reply : Bool) → (is_within TEST_ENDS (test_end reply) ≡ true) × ((test_end reply) < 1000)
test_end_inside reply = grind arith

test_end_decode : (n : ℕ) → is_within TEST_ENDS n ≡ true → (reply : Bool) × Unit {0} × (n ≡ (test_end reply))
test_end_decode n h = grind arith

test_end_one : (u v : Bool) → (test_end u) ≡ (test_end v) → u ≡ v
test_end_one u v e = grind arith

pub test_end_told : TokenTexts (symbol TEST_ENDS) (λ (reply : Bool). Unit {0}) (λ (reply : Bool). digits 3 (test_end reply))
test_end_told = coded 3 _ (λ (reply : Bool). Unit {0}) test_end (λ reply h. test_end_inside reply) test_end_decode (λ u v h k e. test_end_one u v e)
