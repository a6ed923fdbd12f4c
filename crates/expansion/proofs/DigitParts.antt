-- The digits of sets by their letters.
use Rattle.std.proofs.Common.{◌≡◌, ℕ, ◌+◌, ◌*◌, ◌/◌, ◌%◌, ◌≤◌, ◌⊎◌, inl, inr, ◌==◌, Bool, true, false, List, [], ◌∷◌, refl, sym, ◌∙◌, ap, subst, arith}
use Rattle.std.proofs.lemmas.Bool.{eqb-true}
use Rattle.symbol_reader.specs.declared.letters.Letter.TheVariants.{UpTo, UpToOr}
use Rattle.symbol_reader.specs.Digits.{eight_digits, four_digits}
use Rattle.symbol_reader.specs.inside.Languages.{Only, Then, Choice}
use Rattle.symbol_reader.proofs.Digits.{eight-of, four-of}
use Rattle.symbol_reader.proofs.Laws.{Good, Alike, then_good, only_good, choice_good, alike_good}
use Rattle.symbol_reader.proofs.Steps.{letter_good, one_then, joined}
use Rattle.dsc_symbols.specs.declared.messages.TheConstants.{NO_INFORMATION}
use Rattle.expansion.specs.declared.parts.PartKind.{PartKind}
use Rattle.expansion.specs.declared.parts.PartKind.TheVariants.{LeftOut, NoInformation, Digits}
use Rattle.expansion.specs.inside.Grammar.{Symbol, EightDigits, FourDigits, eight_of}

-- a first character that is not that of no information
low : (a most : ℕ) → (a ≤ most) ⊎ (a ≡ NO_INFORMATION) → (a == NO_INFORMATION) ≡ false → a ≤ most
low a most h e = grind arith

abbrev pub EightLast : ℕ → ℕ → ℕ → PartKind → List ℕ → Type 0
EightLast a b c = Then (Symbol (UpTo 99)) (λ d. Only (Digits (eight_of a b c d)))

abbrev pub EightThird : ℕ → ℕ → PartKind → List ℕ → Type 0
EightThird a b = Then (Symbol (UpTo 99)) (EightLast a b)

abbrev pub EightSecond : ℕ → PartKind → List ℕ → Type 0
EightSecond a = Then (Symbol (UpTo 99)) (EightThird a)

abbrev pub EightRest : ℕ → PartKind → List ℕ → Type 0
EightRest a = Choice (a == NO_INFORMATION) (Only NoInformation) (EightSecond a)

abbrev pub EightParts : PartKind → List ℕ → Type 0
EightParts = Then (Symbol (UpToOr 99 NO_INFORMATION)) EightRest

pub eight_last_good : (a b c : ℕ) → Good (EightLast a b c)
eight_last_good a b c = then_good _ _ (letter_good (UpTo 99)) (λ d _ _. only_good (Digits (eight_of a b c d)))

pub eight_third_good : (a b : ℕ) → Good (EightThird a b)
eight_third_good a b = then_good _ _ (letter_good (UpTo 99)) (λ c _ _. eight_last_good a b c)

pub eight_second_good : (a : ℕ) → Good (EightSecond a)
eight_second_good a = then_good _ _ (letter_good (UpTo 99)) (λ b _ _. eight_third_good a b)

pub eight_rest_good : (a : ℕ) → Good (EightRest a)
eight_rest_good a = choice_good (a == NO_INFORMATION) _ _ (λ _. only_good NoInformation) (λ _. eight_second_good a)

eight_parts_good : Good EightParts
eight_parts_good = then_good _ _ (letter_good (UpToOr 99 NO_INFORMATION)) (λ a _ _. eight_rest_good a)

to_eight_rest : (a : ℕ) (test : Bool) (v : PartKind) (back word : List ℕ) → (a ≤ 99) ⊎ (a ≡ NO_INFORMATION) → (a == NO_INFORMATION) ≡ test → EightRest a v back
    → word ≡ a ∷ back → EightDigits v word
to_eight_rest a true v back word h e p w =
    let q = p.yes e in
    let a_is : a ≡ NO_INFORMATION = eqb-true a NO_INFORMATION e in
    let value : v ≡ NoInformation = q.value in
    let tail : back ≡ [] = q.list in
    let list : word ≡ NO_INFORMATION ∷ [] = cc in
    subst (λ x. EightDigits x word) (sym value) (record { is_lawful = (tt, tt); list = list })
to_eight_rest a false v back word h e p w =
    let q = p.no e in let r = q.after in let s = r.after in
    let value : v ≡ Digits (eight_of a q.chosen r.chosen s.chosen) = s.after.value in
    let tail : back ≡ q.chosen ∷ r.chosen ∷ s.chosen ∷ [] = joined q (joined r (joined s s.after.list)) in
    let ha : a ≤ 99 = low a 99 h e in
    let hb : q.chosen ≤ 99 = q.before.allowed in
    let hc : r.chosen ≤ 99 = r.before.allowed in
    let hd : s.chosen ≤ 99 = s.before.allowed in
    let list = eight-of (eight_of a q.chosen r.chosen s.chosen) a q.chosen r.chosen s.chosen hb hc hd (omega arith) in
    subst (λ x. EightDigits x word) (sym value) (record { is_lawful = (tt, omega arith); list = w ∙ ap (λ x. a ∷ x) tail ∙ sym list })

to_eight : (v : PartKind) (word : List ℕ) → EightParts v word → EightDigits v word
to_eight v word p = to_eight_rest p.chosen (p.chosen == NO_INFORMATION) v p.back word p.before.allowed refl p.after (joined p refl)

eight-list : (n : ℕ) → eight_digits n ≡ (n / 1000000) ∷ (n / 10000 % 100) ∷ (n / 100 % 100) ∷ (n % 100) ∷ []
unfolding eight_digits
eight-list n = refl

eight_back : (n : ℕ) → n ≡ eight_of (n / 1000000) (n / 10000 % 100) (n / 100 % 100) (n % 100)
eight_back n = omega arith

not_none : (a : ℕ) → a ≤ 99 → (a == NO_INFORMATION) ≡ true → ⊥
not_none a h e = let k : a ≡ NO_INFORMATION = eqb-true a NO_INFORMATION e in absurd (omega arith)

from_eight : (v : PartKind) (word : List ℕ) → EightDigits v word → EightParts v word
from_eight LeftOut word p = absurd p.is_lawful.0
from_eight NoInformation word p =
    subst (λ w. EightParts NoInformation w) (sym p.list)
    (one_then NO_INFORMATION (inr refl) (record { yes = λ _. record { value = refl; list = refl }; no = λ (e : true ≡ false). absurd (cc) }))
from_eight (Digits n) word p =
    let h : n ≤ 99999999 = p.is_lawful.1 in
    subst (λ w. EightParts (Digits n) w) (sym (p.list ∙ eight-list n))
    (one_then (n / 1000000) (inl (omega arith)) (record {
      yes = λ e. absurd (not_none (n / 1000000) (omega arith) e);
      no = λ _. one_then (n / 10000 % 100) (omega arith) (one_then (n / 100 % 100) (omega arith)
          (one_then (n % 100) (omega arith) (record { value = ap Digits (eight_back n); list = refl })));
    }))

pub eight_alike : Alike EightParts EightDigits
eight_alike = record { to = to_eight; back = from_eight }

-- eight digits read back
pub eight_good : Good EightDigits
eight_good = alike_good _ _ eight_alike eight_parts_good

abbrev pub FourLast : ℕ → PartKind → List ℕ → Type 0
FourLast a = Then (Symbol (UpTo 99)) (λ b. Only (Digits (a * 100 + b)))

abbrev pub FourRest : ℕ → PartKind → List ℕ → Type 0
FourRest a = Choice (a == NO_INFORMATION) (Only NoInformation) (FourLast a)

abbrev pub FourParts : ℕ → PartKind → List ℕ → Type 0
FourParts most = Then (Symbol (UpToOr most NO_INFORMATION)) FourRest

pub four_last_good : (a : ℕ) → Good (FourLast a)
four_last_good a = then_good _ _ (letter_good (UpTo 99)) (λ b _ _. only_good (Digits (a * 100 + b)))

pub four_rest_good : (a : ℕ) → Good (FourRest a)
four_rest_good a = choice_good (a == NO_INFORMATION) _ _ (λ _. only_good NoInformation) (λ _. four_last_good a)

four_parts_good : (most : ℕ) → Good (FourParts most)
four_parts_good most = then_good _ _ (letter_good (UpToOr most NO_INFORMATION)) (λ a _ _. four_rest_good a)

to_four_rest : (most a : ℕ) (test : Bool) (v : PartKind) (back word : List ℕ) → (a ≤ most) ⊎ (a ≡ NO_INFORMATION) → (a == NO_INFORMATION) ≡ test → FourRest a v back
    → word ≡ a ∷ back → FourDigits most v word
to_four_rest most a true v back word h e p w =
    let q = p.yes e in
    let a_is : a ≡ NO_INFORMATION = eqb-true a NO_INFORMATION e in
    let value : v ≡ NoInformation = q.value in
    let tail : back ≡ [] = q.list in
    let list : word ≡ NO_INFORMATION ∷ [] = cc in
    subst (λ x. FourDigits most x word) (sym value) (record { is_lawful = (tt, tt); list = list })
to_four_rest most a false v back word h e p w =
    let q = p.no e in
    let value : v ≡ Digits (a * 100 + q.chosen) = q.after.value in
    let tail : back ≡ q.chosen ∷ [] = joined q q.after.list in
    let ha : a ≤ most = low a most h e in
    let hb : q.chosen ≤ 99 = q.before.allowed in
    let list = four-of (a * 100 + q.chosen) a q.chosen hb (omega arith) in
    subst (λ x. FourDigits most x word) (sym value) (record { is_lawful = (tt, omega arith); list = w ∙ ap (λ x. a ∷ x) tail ∙ sym list })

to_four : (most : ℕ) (v : PartKind) (word : List ℕ) → FourParts most v word → FourDigits most v word
to_four most v word p = to_four_rest most p.chosen (p.chosen == NO_INFORMATION) v p.back word p.before.allowed refl p.after (joined p refl)

four-list : (n : ℕ) → four_digits n ≡ (n / 100) ∷ (n % 100) ∷ []
unfolding four_digits
four-list n = refl

four_back : (n : ℕ) → n ≡ n / 100 * 100 + n % 100
four_back n = omega arith

from_four : (most : ℕ) (v : PartKind) (word : List ℕ) → most ≤ 99 → FourDigits most v word → FourParts most v word
from_four most LeftOut word m p = absurd p.is_lawful.0
from_four most NoInformation word m p =
    subst (λ w. FourParts most NoInformation w) (sym p.list)
    (one_then NO_INFORMATION (inr refl) (record { yes = λ _. record { value = refl; list = refl }; no = λ (e : true ≡ false). absurd (cc) }))
from_four most (Digits n) word m p =
    let h : n ≤ 100 * most + 99 = p.is_lawful.1 in
    subst (λ w. FourParts most (Digits n) w) (sym (p.list ∙ four-list n))
    (one_then (n / 100) (inl (omega arith)) (record {
      yes = λ e. absurd (not_none (n / 100) (omega arith) e);
      no = λ _. one_then (n % 100) (omega arith) (record { value = ap Digits (four_back n); list = refl });
    }))

pub four_alike : (most : ℕ) → most ≤ 99 → Alike (FourParts most) (FourDigits most)
four_alike most m = record { to = to_four most; back = λ v word p. from_four most v word m p }

-- four digits read back
pub four_good : (most : ℕ) → most ≤ 99 → Good (FourDigits most)
four_good most m = alike_good _ _ (four_alike most m) (four_parts_good most)
