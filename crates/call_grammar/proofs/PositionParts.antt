-- Positions by their letters.
use Rattle.std.proofs.Common.{◌≡◌, ℕ, zero, suc, ◌+◌, ◌*◌, ◌/◌, ◌%◌, ◌≤◌, ◌<◌, ◌⊎◌, inl, inr, ◌==◌, ◌&&◌, if◌then◌else◌, Bool, true, false, List, [], ◌∷◌, Option, Some, None, refl, sym, ◌∙◌, ap, subst, arith}
use Rattle.std.proofs.lemmas.Bool.Decides.{nat_tests}
use Rattle.std.proofs.lemmas.Bool.{eqb-true}
use Rattle.symbol_reader.specs.declared.letters.Letter.TheVariants.{Exactly, UpTo, UpToOr, Digits}
use Rattle.symbol_reader.specs.Letters.{Allows}
use Rattle.symbol_reader.specs.inside.Languages.{Only, Then, Choice}
use Rattle.symbol_reader.proofs.Laws.{Good, Alike, then_good, only_good, choice_good, alike_good}
use Rattle.symbol_reader.proofs.Steps.{letter_good, one_then, joined}
use Rattle.call_values.specs.declared.positions.Fix.{Fix}
use Rattle.call_values.specs.Positions.{IsArc, IsFix}
use Rattle.call_grammar.specs.Spelling.{ten_digits, position_digits}
use Rattle.call_grammar.specs.inside.Grammar.{Symbol, Positions, KnownRest, UnknownRest, fix_of, latitude_ones, minutes_and_hundreds, longitude_ones, longitude_minutes}
use Rattle.symbol_reader.proofs.Digits.{ten_digits-of}

abbrev pub Minutes : ℕ → ℕ → ℕ → ℕ → Option Fix → List ℕ → Type 0
Minutes a b c d = Then (Symbol (longitude_minutes c d)) (λ e. Only (Some (fix_of a b c d e)))

abbrev pub Longitude : ℕ → ℕ → ℕ → Option Fix → List ℕ → Type 0
Longitude a b c = Then (Symbol (longitude_ones c)) (Minutes a b c)

abbrev pub Hundreds : ℕ → ℕ → Option Fix → List ℕ → Type 0
Hundreds a b = Then (Symbol (minutes_and_hundreds a)) (Longitude a b)

pub minutes_good : (a b c d : ℕ) → Good (Minutes a b c d)
minutes_good a b c d = then_good _ _ (letter_good (longitude_minutes c d)) (λ e _ _. only_good (Some (fix_of a b c d e)))

pub longitude_good : (a b c : ℕ) → Good (Longitude a b c)
longitude_good a b c = then_good _ _ (letter_good (longitude_ones c)) (λ d _ _. minutes_good a b c d)

pub hundreds_good : (a b : ℕ) → Good (Hundreds a b)
hundreds_good a b = then_good _ _ (letter_good (minutes_and_hundreds a)) (λ c _ _. longitude_good a b c)

pub known_good : (a : ℕ) → Good (KnownRest a)
known_good a = then_good _ _ (letter_good (latitude_ones a)) (λ b _ _. hundreds_good a b)

-- n characters 99, and then a position that is not known
abbrev pub Nines : ℕ → Option Fix → List ℕ → Type 0
Nines zero = Only None
Nines (suc n) = Then (Symbol (Exactly 99)) (λ _. Nines n)

pub nines_good : (n : ℕ) → Good (Nines n)
nines_good zero = only_good None
nines_good (suc n) = then_good _ _ (letter_good (Exactly 99)) (λ _ _ _. nines_good n)

pub rest_good : (initial : ℕ) → Good (Choice (initial == 99) UnknownRest (KnownRest initial))
rest_good initial = choice_good (initial == 99) _ _ (λ _. nines_good 4) (λ _. known_good initial)

abbrev pub PositionParts : Option Fix → List ℕ → Type 0
PositionParts = Then (Symbol (UpToOr 39 99)) (λ initial. Choice (initial == 99) UnknownRest (KnownRest initial))

parts_good : Good PositionParts
parts_good = then_good _ _ (letter_good (UpToOr 39 99)) (λ initial _ _. rest_good initial)

-- what the letters allow, in numbers
record Lawful (a b c d e : ℕ) : Type 0 where
  initial : a ≤ 39
  ones : b / 10 ≤ 9
  tens : b % 10 ≤ 5
  pole : a % 10 ≡ 9 → b ≡ 0
  minutes : c / 10 ≤ 9
  hundreds : c % 10 ≤ 1
  pole_minutes : a % 10 ≡ 9 → c ≤ 1
  degrees : d ≤ 99
  half : c % 10 ≡ 1 → d ≤ 80
  last : e ≤ 59
  half_last : c % 10 ≡ 1 → d ≡ 80 → e ≡ 0

pub degrees_at : (c d : ℕ) (t : Bool) → (c % 10 == 1) ≡ t → Allows (if t then UpTo 80 else UpTo 99) d
    → (d ≤ 99) × (c % 10 ≡ 1 → d ≤ 80)
degrees_at c d t e h = grind (arith, nat_tests)

lawful_from : (a b c d e : ℕ) → a ≤ 39 → Allows (latitude_ones a) b → Allows (minutes_and_hundreds a) c → Allows (longitude_ones c) d
    → Allows (longitude_minutes c d) e → Lawful a b c d e
lawful_from a b c d e ha hb hc hd he = grind (arith, nat_tests)

fix_lawful : (a b c d e : ℕ) → Lawful a b c d e → IsFix (fix_of a b c d e)
fix_lawful a b c d e h = grind (arith, nat_tests)

fix_list : (a b c d e : ℕ) → Lawful a b c d e → ten_digits (position_digits (fix_of a b c d e)) ≡ a ∷ b ∷ c ∷ d ∷ e ∷ []
unfolding position_digits
fix_list a b c d e h =
    let k1 : b / 10 ≤ 9 = h.ones in
    let k2 : c / 10 ≤ 9 = h.minutes in
    let k3 : d ≤ 99 = h.degrees in
    let k4 : e ≤ 59 = h.last in
    ten_digits-of (position_digits (fix_of a b c d e)) a b c d e (omega arith) (omega arith) (omega arith) (omega arith) (omega arith)

to_known : (a : ℕ) (v : Option Fix) (back word : List ℕ) → a ≤ 39 → KnownRest a v back → word ≡ a ∷ back → Positions v word
to_known a v back word h p e =
    let q = p.after in let r = q.after in let s = r.after in let t = s.after in
    let lawful = lawful_from a p.chosen q.chosen r.chosen s.chosen h p.before.allowed q.before.allowed r.before.allowed s.before.allowed in
    let value : v ≡ Some (fix_of a p.chosen q.chosen r.chosen s.chosen) = t.value in
    let list = e ∙ ap (λ l. a ∷ l) (joined p (joined q (joined r (joined s t.list)))) in
    subst (λ x. Positions x word) (sym value) (record {
      is_lawful = fix_lawful a p.chosen q.chosen r.chosen s.chosen lawful;
      list = list ∙ sym (fix_list a p.chosen q.chosen r.chosen s.chosen lawful);
    })

to_unknown : (v : Option Fix) (back word : List ℕ) → UnknownRest v back → word ≡ 99 ∷ back → Positions v word
to_unknown v back word p e = grind (arith, nat_tests)

below_initial : (initial : ℕ) → (initial ≤ 39) ⊎ (initial ≡ 99) → (initial == 99) ≡ false → initial ≤ 39
below_initial initial h e = grind (arith, nat_tests)

to_rest : (initial : ℕ) (test : Bool) (v : Option Fix) (back word : List ℕ) → (initial ≤ 39) ⊎ (initial ≡ 99) → (initial == 99) ≡ test
    → Choice (initial == 99) UnknownRest (KnownRest initial) v back → word ≡ initial ∷ back → Positions v word
to_rest initial true v back word h test p e = to_unknown v back word (p.yes test) (e ∙ ap (λ x. x ∷ back) (eqb-true initial 99 test))
to_rest initial false v back word h test p e = to_known initial v back word (below_initial initial h test) (p.no test) e

to_position : (v : Option Fix) (word : List ℕ) → PositionParts v word → Positions v word
to_position v word p = to_rest p.chosen (p.chosen == 99) v p.back word p.before.allowed refl p.after (joined p refl)

-- the characters of a place
abbrev first_of_fix : Fix → ℕ
first_of_fix f = 10 * f.quadrant + f.lat_deg / 10

abbrev second_of : Fix → ℕ
second_of f = 10 * (f.lat_deg % 10) + f.lat_min / 10

abbrev third_of : Fix → ℕ
third_of f = 10 * (f.lat_min % 10) + f.lon_deg / 100

arc_minutes : (degrees minutes most : ℕ) → IsArc degrees minutes most → minutes < 60
arc_minutes degrees minutes most h = h.0

arc_most : (degrees minutes most : ℕ) → IsArc degrees minutes most → degrees ≤ most
arc_most degrees minutes most h = grind arith

arc_end : (degrees minutes most : ℕ) → IsArc degrees minutes most → degrees ≡ most → minutes ≡ 0
arc_end degrees minutes most h e = grind arith

fix_back : (f : Fix) → IsFix f → fix_of (first_of_fix f) (second_of f) (third_of f) (f.lon_deg % 100) f.lon_min ≡ f
fix_back f h = grind (arith, nat_tests)

fix_digits : (f : Fix) → IsFix f
    → ten_digits (position_digits f) ≡ first_of_fix f ∷ second_of f ∷ third_of f ∷ (f.lon_deg % 100) ∷ f.lon_min ∷ []
unfolding position_digits
fix_digits f h =
    let k1 : f.lat_deg ≤ 90 = arc_most _ _ _ h.latitude in
    let k2 : f.lat_min < 60 = arc_minutes _ _ _ h.latitude in
    let k3 : f.lon_deg ≤ 180 = arc_most _ _ _ h.longitude in
    let k4 : f.lon_min < 60 = arc_minutes _ _ _ h.longitude in
    ten_digits-of (position_digits f) (first_of_fix f) (second_of f) (third_of f) (f.lon_deg % 100) f.lon_min
    (omega arith) (omega arith) (omega arith) (omega arith) (omega arith)

ones_allowed : (a b : ℕ) (t : Bool) → (a % 10 == 9) ≡ t → b / 10 ≤ 9 → b % 10 ≤ 5 → (a % 10 ≡ 9 → b ≡ 0)
    → Allows (if t then Exactly 0 else Digits 9 5) b
ones_allowed a b t e h k l = grind (arith, nat_tests)

hundreds_allowed : (a c : ℕ) (t : Bool) → (a % 10 == 9) ≡ t → c / 10 ≤ 9 → c % 10 ≤ 1 → (a % 10 ≡ 9 → c ≤ 1)
    → Allows (if t then UpTo 1 else Digits 9 1) c
hundreds_allowed a c t e h k l = grind (arith, nat_tests)

pub degrees_allowed : (c d : ℕ) (t : Bool) → (c % 10 == 1) ≡ t → d ≤ 99 → (c % 10 ≡ 1 → d ≤ 80) → Allows (if t then UpTo 80 else UpTo 99) d
degrees_allowed c d t e h k = grind (arith, nat_tests)

last_allowed : (c d e : ℕ) (t : Bool) → ((c % 10 == 1) && (d == 80)) ≡ t → e ≤ 59 → (c % 10 ≡ 1 → d ≡ 80 → e ≡ 0)
    → Allows (if t then Exactly 0 else UpTo 59) e
last_allowed c d e t test h k = grind (arith, nat_tests)

not_99 : (n : ℕ) → n ≤ 39 → (n == 99) ≡ true → ⊥
not_99 n h e = grind (arith, nat_tests)

pole_of : (f : Fix) → IsFix f → first_of_fix f % 10 ≡ 9 → (f.lat_deg ≡ 90) × (f.lat_min ≡ 0)
pole_of f h e = grind (arith, nat_tests)

from_known : (f : Fix) → IsFix f
    → PositionParts (Some f) (first_of_fix f ∷ second_of f ∷ third_of f ∷ (f.lon_deg % 100) ∷ f.lon_min ∷ [])
from_known f h =
    let q : f.quadrant ≤ 3 = h.quadrant in
    let k1 : f.lat_deg ≤ 90 = arc_most _ _ _ h.latitude in
    let k2 : f.lat_min < 60 = arc_minutes _ _ _ h.latitude in
    let k3 : f.lon_deg ≤ 180 = arc_most _ _ _ h.longitude in
    let k4 : f.lon_min < 60 = arc_minutes _ _ _ h.longitude in
    let a : ℕ = first_of_fix f in let b : ℕ = second_of f in let c : ℕ = third_of f in let d : ℕ = f.lon_deg % 100 in
    let initial : a ≤ 39 = omega arith in
    one_then a (inl initial) (record {
      yes = λ e. absurd (not_99 a initial e);
      no = λ _.
          one_then b (ones_allowed a b (a % 10 == 9) refl (omega arith) (omega arith) (λ e. let p = pole_of f h e in omega arith))
          (one_then c (hundreds_allowed a c (a % 10 == 9) refl (omega arith) (omega arith) (λ e. let p = pole_of f h e in omega arith))
          (one_then d (degrees_allowed c d (c % 10 == 1) refl (omega arith) (λ e. omega arith))
          (one_then f.lon_min (last_allowed c d f.lon_min ((c % 10 == 1) && (d == 80)) refl (omega arith)
          (λ m n. arc_end _ _ _ h.longitude (omega arith)))
          (record { value = ap (λ x. Some x) (sym (fix_back f h)); list = refl }))));
    })

from_position : (v : Option Fix) (word : List ℕ) → Positions v word → PositionParts v word
from_position None word p =
    subst (λ w. PositionParts None w) (sym p.list)
    (one_then 99 (inr refl) (record {
      yes = λ _. one_then 99 refl (one_then 99 refl (one_then 99 refl (one_then 99 refl (record { value = refl; list = refl }))));
      no = λ (e : true ≡ false). absurd (cc);
    }))
from_position (Some f) word p =
    subst (λ w. PositionParts (Some f) w) (sym (p.list ∙ fix_digits f p.is_lawful)) (from_known f p.is_lawful)

pub position_alike : Alike PositionParts Positions
position_alike = record { to = to_position; back = from_position }

-- a position reads back
pub position_good : Good Positions
position_good = alike_good _ _ position_alike parts_good

pub is_99 : (initial : ℕ) → initial ≡ 99 → (initial == 99) ≡ true
is_99 initial h = grind (arith, nat_tests)

pub is_not_99 : (initial : ℕ) → (initial ≡ 99 → ⊥) → (initial == 99) ≡ false
is_not_99 initial h = grind (arith, nat_tests)
