-- Times by their letters.
use Rattle.std.proofs.Common.{◌≡◌, ℕ, ◌≤◌, ◌<◌, ◌⊎◌, inl, inr, ◌==◌, Bool, true, false, List, ◌∷◌, Option, Some, None, refl, sym, subst, arith}
use Rattle.std.proofs.lemmas.Bool.Decides.{nat_tests}
use Rattle.symbol_reader.specs.declared.letters.Letter.TheVariants.{Exactly, UpTo, UpToOr}
use Rattle.symbol_reader.specs.inside.Languages.{Only, Then, Choice}
use Rattle.symbol_reader.proofs.Laws.{Good, Alike, then_good, only_good, choice_good, alike_good}
use Rattle.symbol_reader.proofs.Steps.{letter_good, one_then, joined}
use Rattle.dsc_symbols.specs.declared.messages.TheConstants.{UNKNOWN_TIME}
use Rattle.call_grammar.specs.inside.Grammar.{Symbol, Times}

pub unknown_good : Good (Then {V = Option (ℕ × ℕ)} (Symbol (Exactly UNKNOWN_TIME)) (λ _. Only None))
unknown_good = then_good _ _ (letter_good (Exactly UNKNOWN_TIME)) (λ _ _ _. only_good None)

pub known_good : (hour : ℕ) → Good (Then {V = Option (ℕ × ℕ)} (Symbol (UpTo 59)) (λ minute. Only (Some (hour, minute))))
known_good hour = then_good _ _ (letter_good (UpTo 59)) (λ minute _ _. only_good (Some (hour, minute)))

-- the rest of a time, after its first character
abbrev pub TimeRest : ℕ → Option (ℕ × ℕ) → List ℕ → Type 0
TimeRest hour =
    Choice (hour == UNKNOWN_TIME) (Then (Symbol (Exactly UNKNOWN_TIME)) (λ _. Only None)) (Then (Symbol (UpTo 59)) (λ minute. Only (Some (hour, minute))))

pub rest_good : (hour : ℕ) → Good (TimeRest hour)
rest_good hour = choice_good (hour == UNKNOWN_TIME) _ _ (λ _. unknown_good) (λ _. known_good hour)

abbrev pub TimeParts : Option (ℕ × ℕ) → List ℕ → Type 0
TimeParts = Then (Symbol (UpToOr 23 UNKNOWN_TIME)) TimeRest

parts_good : Good TimeParts
parts_good = then_good _ _ (letter_good (UpToOr 23 UNKNOWN_TIME)) (λ hour _ _. rest_good hour)

-- an hour of the letter that is known is an hour of the day
hour_of_day : (hour : ℕ) → (hour ≤ 23) ⊎ (hour ≡ UNKNOWN_TIME) → (hour == UNKNOWN_TIME) ≡ false → hour < 24
hour_of_day hour h e = grind (arith, nat_tests)

to_unknown : (hour : ℕ) (v : Option (ℕ × ℕ)) (back word : List ℕ) → (hour == UNKNOWN_TIME) ≡ true
    → Then (Symbol (Exactly UNKNOWN_TIME)) (λ _. Only None) v back → word ≡ hour ∷ back → Times v word
to_unknown hour v back word test p e = grind (arith, nat_tests)

to_known : (hour : ℕ) (v : Option (ℕ × ℕ)) (back word : List ℕ) → hour < 24
    → Then {V = Option (ℕ × ℕ)} (Symbol (UpTo 59)) (λ minute. Only (Some (hour, minute))) v back → word ≡ hour ∷ back → Times v word
to_known hour v back word h p e = grind (arith, nat_tests)

to_rest : (hour : ℕ) (test : Bool) (v : Option (ℕ × ℕ)) (back word : List ℕ) → (hour ≤ 23) ⊎ (hour ≡ UNKNOWN_TIME) → (hour == UNKNOWN_TIME) ≡ test
    → TimeRest hour v back → word ≡ hour ∷ back → Times v word
to_rest hour true v back word h test p e = to_unknown hour v back word test (p.yes test) e
to_rest hour false v back word h test p e = to_known hour v back word (hour_of_day hour h test) (p.no test) e

to_time : (v : Option (ℕ × ℕ)) (word : List ℕ) → TimeParts v word → Times v word
to_time v word p = to_rest p.chosen (p.chosen == UNKNOWN_TIME) v p.back word p.before.allowed refl p.after (joined p refl)

not_unknown : (hour : ℕ) → hour < 24 → (hour == UNKNOWN_TIME) ≡ true → ⊥
not_unknown hour h e = grind (arith, nat_tests)

from_time : (v : Option (ℕ × ℕ)) (word : List ℕ) → Times v word → TimeParts v word
from_time None word p =
    subst (λ w. TimeParts None w) (sym p.list)
    (one_then UNKNOWN_TIME (inr refl) (record {
      yes = λ _. one_then UNKNOWN_TIME refl (record { value = refl; list = refl });
      no = λ (e : true ≡ false). absurd (cc);
    }))
from_time (Some t) word p =
    let h : t.0 < 24 = p.is_lawful.0 in
    let m : t.1 < 60 = p.is_lawful.1 in
    subst (λ w. TimeParts (Some t) w) (sym p.list)
    (one_then t.0 (inl (omega arith)) (record {
      yes = λ e. absurd (not_unknown t.0 h e);
      no = λ _. one_then t.1 (omega arith) (record { value = refl; list = refl });
    }))

pub time_alike : Alike TimeParts Times
time_alike = record { to = to_time; back = from_time }

-- a time reads back
pub time_good : Good Times
time_good = alike_good _ _ time_alike parts_good

pub unknown_hour : (hour : ℕ) → hour ≡ UNKNOWN_TIME → (hour == UNKNOWN_TIME) ≡ true
unknown_hour hour h = grind (arith, nat_tests)

pub known_hour : (hour : ℕ) → (hour ≡ UNKNOWN_TIME → ⊥) → (hour == UNKNOWN_TIME) ≡ false
known_hour hour h = grind (arith, nat_tests)
