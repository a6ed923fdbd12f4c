-- Identities by their letters: four characters of two digits, and one whose second digit is 0.
use Rattle.std.proofs.Common.{◌≡◌, ℕ, ◌*◌, ◌/◌, ◌%◌, ◌≤◌, List, [], ◌∷◌, refl, sym, ◌∙◌, ap, subst, arith}
use Rattle.symbol_reader.specs.declared.letters.Letter.TheVariants.{UpTo, Digits}
use Rattle.symbol_reader.specs.inside.Languages.{Only, Then}
use Rattle.symbol_reader.proofs.Laws.{Good, Alike, then_good, only_good, alike_good}
use Rattle.symbol_reader.proofs.Steps.{letter_good, one_then, joined}
use Rattle.call_values.specs.Identity.{IsMmsi}
use Rattle.call_grammar.specs.Spelling.{identity_symbols}
use Rattle.call_grammar.specs.inside.Grammar.{Symbol, Identities, identity_of}
use Rattle.symbol_reader.proofs.Digits.{ten_digits-of}

abbrev pub Last : ℕ → ℕ → ℕ → ℕ → ℕ → List ℕ → Type 0
Last a b c d = Then (Symbol (Digits 9 0)) (λ e. Only (identity_of a b c d e))

abbrev pub Fourth : ℕ → ℕ → ℕ → ℕ → List ℕ → Type 0
Fourth a b c = Then (Symbol (UpTo 99)) (Last a b c)

abbrev pub Third : ℕ → ℕ → ℕ → List ℕ → Type 0
Third a b = Then (Symbol (UpTo 99)) (Fourth a b)

abbrev pub Second : ℕ → ℕ → List ℕ → Type 0
Second a = Then (Symbol (UpTo 99)) (Third a)

abbrev pub First : ℕ → List ℕ → Type 0
First = Then (Symbol (UpTo 99)) Second

pub last_good : (a b c d : ℕ) → Good (Last a b c d)
last_good a b c d = then_good _ _ (letter_good (Digits 9 0)) (λ e _ _. only_good (identity_of a b c d e))

pub fourth_good : (a b c : ℕ) → Good (Fourth a b c)
fourth_good a b c = then_good _ _ (letter_good (UpTo 99)) (λ d _ _. last_good a b c d)

pub third_good : (a b : ℕ) → Good (Third a b)
third_good a b = then_good _ _ (letter_good (UpTo 99)) (λ c _ _. fourth_good a b c)

pub second_good : (a : ℕ) → Good (Second a)
second_good a = then_good _ _ (letter_good (UpTo 99)) (λ b _ _. third_good a b)

first_good : Good First
first_good = then_good _ _ (letter_good (UpTo 99)) (λ a _ _. second_good a)

identity_lawful : (a b c d e : ℕ) → a ≤ 99 → b ≤ 99 → c ≤ 99 → d ≤ 99 → e ≤ 99 → identity_of a b c d e ≤ 999999999
identity_lawful a b c d e ha hb hc hd he = omega arith

identity_list : (a b c d e : ℕ) → b ≤ 99 → c ≤ 99 → d ≤ 99 → e / 10 ≤ 9 → e % 10 ≤ 0
    → identity_symbols (identity_of a b c d e) ≡ a ∷ b ∷ c ∷ d ∷ e ∷ []
identity_list a b c d e hb hc hd he hf = ten_digits-of (10 * identity_of a b c d e) a b c d e hb hc hd (omega arith) (omega arith)

identity_back : (v : ℕ) → identity_of (v / 10000000) (v / 100000 % 100) (v / 1000 % 100) (v / 10 % 100) (10 * (v % 10)) ≡ v
identity_back v = omega arith

identity_digits : (v : ℕ) → identity_symbols v ≡ (v / 10000000) ∷ (v / 100000 % 100) ∷ (v / 1000 % 100) ∷ (v / 10 % 100) ∷ (10 * (v % 10)) ∷ []
identity_digits v =
    ten_digits-of (10 * v) (v / 10000000) (v / 100000 % 100) (v / 1000 % 100) (v / 10 % 100) (10 * (v % 10))
    (omega arith) (omega arith) (omega arith) (omega arith) (omega arith)

to_identity : (v : ℕ) (word : List ℕ) → First v word → Identities v word
to_identity v word p =
    let q = p.after in let r = q.after in let s = r.after in let t = s.after in let u = t.after in
    let list = joined p (joined q (joined r (joined s (joined t u.list)))) in
    let value : v ≡ identity_of p.chosen q.chosen r.chosen s.chosen t.chosen = u.value in
    record {
      is_lawful = subst (λ x. IsMmsi x) (sym value)
          (identity_lawful p.chosen q.chosen r.chosen s.chosen t.chosen p.before.allowed q.before.allowed r.before.allowed s.before.allowed (omega (arith, t.before.allowed)));
      list = list ∙ sym (ap identity_symbols value
          ∙ identity_list p.chosen q.chosen r.chosen s.chosen t.chosen q.before.allowed r.before.allowed s.before.allowed t.before.allowed.0 t.before.allowed.1);
    }

from_identity : (v : ℕ) (word : List ℕ) → Identities v word → First v word
from_identity v word p =
    let h : v ≤ 999999999 = p.is_lawful in
    subst (λ w. First v w) (sym (p.list ∙ identity_digits v))
    (one_then (v / 10000000) (omega arith) (one_then (v / 100000 % 100) (omega arith) (one_then (v / 1000 % 100) (omega arith)
    (one_then (v / 10 % 100) (omega arith) (one_then (10 * (v % 10)) (omega arith)
    (record { value = sym (identity_back v); list = refl }))))))

pub identity_alike : Alike First Identities
identity_alike = record { to = to_identity; back = from_identity }

-- an identity reads back
pub identity_good : Good Identities
identity_good = alike_good _ _ identity_alike first_good
