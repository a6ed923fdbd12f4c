-- before the true origin no lead is phased on what is sent at the start of a call
use Rattle.std.proofs.Common.{◌≡◌, ℕ, zero, suc, ◌+◌, ◌<◌, ◌≤◌, ◌==◌, inl, inr, Bool, true, false, not, List, [], ◌∷◌, refl, sym, arith, ap, ◌∙◌}
use Rattle.std.specs.List.{range_with_len, list_all, list_any}
use Rattle.std.proofs.lemmas.Bool.{cases_lt, and_parts, eqb-true, not-true, or_cases}
use Rattle.ten_unit.specs.declared.character.Element.{Element}
use Rattle.ten_unit.specs.Word.{is_word, word_of}
use Rattle.phasing.specs.Origin.{is_phased}
use Rattle.phasing.specs.Slot.{shows}
use Rattle.phasing.specs.Sent.{dots, dot_count, sent}
use Rattle.phasing.specs.Start.{start_symbols, formats}

-- of so many leads none is phased
none_early : List Element → ℕ → Bool
none_early s n = list_all (λ lead. not (is_phased s lead)) (range_with_len 0 n)

-- the elements sent of a format after a dot pattern have no phased lead before the true one
early_of : Bool → ℕ → Bool
early_of long format = none_early (sent (start_symbols format) long) (dot_count long + 150)

-- each format after the short dot pattern and after the long one: each lead is tried
short_early : list_all (early_of false) formats ≡ true
unfolding early_of none_early is_phased shows is_word word_of dots sent
short_early = refl

long_early : list_all (early_of true) formats ≡ true
unfolding early_of none_early is_phased shows is_word word_of dots sent
long_early = refl

pub none_at : (p : ℕ → Bool) (a n k : ℕ) → list_all (λ x. not (p x)) (range_with_len a n) ≡ true → a ≤ k → k < a + n → p k ≡ false
none_at p a zero k h low high = absurd (omega arith)
none_at p a (suc n) k h low high =
    let both = and_parts (not (p a)) (list_all (λ x. not (p x)) (range_with_len (a + 1) n)) h in
    elim (cases_lt a k) [
      | inl past ↦ none_at p (a + 1) n k both.1 (omega arith) (omega arith)
      | inr same ↦ let at : k ≡ a = omega arith in ap p at ∙ not-true (p a) both.0
    ]

none_early_at : (s : List Element) (n k : ℕ) → none_early s n ≡ true → k < n → is_phased s k ≡ false
unfolding none_early
none_early_at s n k h below = none_at (is_phased s) 0 n k h (omega arith) (omega arith)

-- what holds of each of a list holds of one of them
one_of_all : (p : ℕ → Bool) (l : List ℕ) (x : ℕ) → list_all p l ≡ true → list_any (λ y. y == x) l ≡ true → p x ≡ true
one_of_all p [] x h one = absurd (cc)
one_of_all p (y ∷ l) x h one =
    let both = and_parts (p y) (list_all p l) h in
    elim (or_cases (y == x) (list_any (λ z. z == x) l) one) [
      | inl here ↦ ap p (sym (eqb-true y x here)) ∙ both.0
      | inr there ↦ one_of_all p l x both.1 there
    ]

early : (format : ℕ) (long : Bool) → list_any (λ f. f == format) formats ≡ true → early_of long format ≡ true
early format false h = one_of_all (early_of false) formats format short_early h
early format true h = one_of_all (early_of true) formats format long_early h

-- no lead before the one after the dots is phased on what is sent at the start of a call
pub early_unphased : (format : ℕ) (long : Bool) (k : ℕ) → list_any (λ f. f == format) formats ≡ true → k < dot_count long + 150 → is_phased (sent (start_symbols format) long) k ≡ false
unfolding early_of
early_unphased format long k h below =
    none_early_at (sent (start_symbols format) long) (dot_count long + 150) k (early format long h) below
