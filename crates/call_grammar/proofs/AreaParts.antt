-- Areas by their letters.
use Rattle.std.proofs.Common.{◌≡◌, ℕ, ◌+◌, ◌*◌, ◌/◌, ◌%◌, ◌≤◌, ◌==◌, if◌then◌else◌, Bool, List, [], ◌∷◌, refl, sym, ◌∙◌, ap, subst, arith}
use Rattle.std.proofs.lemmas.Bool.Decides.{nat_tests}
use Rattle.symbol_reader.specs.declared.letters.Letter.TheVariants.{UpTo, Digits}
use Rattle.symbol_reader.specs.Letters.{Allows}
use Rattle.symbol_reader.specs.inside.Languages.{Only, Then}
use Rattle.symbol_reader.proofs.Laws.{Good, Alike, then_good, only_good, alike_good}
use Rattle.symbol_reader.proofs.Steps.{letter_good, one_then, joined}
use Rattle.call_values.specs.Areas.{Rectangle, IsArea}
use Rattle.call_grammar.specs.Spelling.{area_digits, area_symbols}
use Rattle.call_grammar.specs.inside.Grammar.{Symbol, Areas, area_latitude, longitude_ones, area_of}
use Rattle.symbol_reader.proofs.Digits.{ten_digits-of}
use Rattle.call_values.proofs.PublicLaws.{same_area}
use Rattle.call_grammar.proofs.PositionParts.{degrees_at, degrees_allowed}

abbrev pub AreaLast : ℕ → ℕ → ℕ → ℕ → Rectangle → List ℕ → Type 0
AreaLast a b c d = Then (Symbol (UpTo 99)) (λ e. Only (area_of a b c d e))

abbrev pub AreaFourth : ℕ → ℕ → ℕ → Rectangle → List ℕ → Type 0
AreaFourth a b c = Then (Symbol (UpTo 99)) (AreaLast a b c)

abbrev pub AreaThird : ℕ → ℕ → Rectangle → List ℕ → Type 0
AreaThird a b = Then (Symbol (longitude_ones b)) (AreaFourth a b)

abbrev pub AreaSecond : ℕ → Rectangle → List ℕ → Type 0
AreaSecond a = Then (Symbol (area_latitude a)) (AreaThird a)

abbrev pub AreaParts : Rectangle → List ℕ → Type 0
AreaParts = Then (Symbol (UpTo 39)) AreaSecond

pub area_last_good : (a b c d : ℕ) → Good (AreaLast a b c d)
area_last_good a b c d = then_good _ _ (letter_good (UpTo 99)) (λ e _ _. only_good (area_of a b c d e))

pub area_fourth_good : (a b c : ℕ) → Good (AreaFourth a b c)
area_fourth_good a b c = then_good _ _ (letter_good (UpTo 99)) (λ d _ _. area_last_good a b c d)

pub area_third_good : (a b : ℕ) → Good (AreaThird a b)
area_third_good a b = then_good _ _ (letter_good (longitude_ones b)) (λ c _ _. area_fourth_good a b c)

pub area_second_good : (a : ℕ) → Good (AreaSecond a)
area_second_good a = then_good _ _ (letter_good (area_latitude a)) (λ b _ _. area_third_good a b)

parts_good : Good AreaParts
parts_good = then_good _ _ (letter_good (UpTo 39)) (λ a _ _. area_second_good a)

latitude_at : (a b : ℕ) (t : Bool) → (a % 10 == 9) ≡ t → Allows (if t then Digits 0 1 else Digits 9 1) b
    → (b / 10 ≤ 9) × (b % 10 ≤ 1) × (a % 10 ≡ 9 → b / 10 ≤ 0)
latitude_at a b t e h = grind (arith, nat_tests)

pub area_lawful : (a b c d e : ℕ) → a ≤ 39 → Allows (area_latitude a) b → Allows (longitude_ones b) c → d ≤ 99 → e ≤ 99 → IsArea (area_of a b c d e)
area_lawful a b c d e ha hb hc hd he = grind (arith, nat_tests)

area_list : (a b c d e : ℕ) → b / 10 ≤ 9 → b % 10 ≤ 1 → c ≤ 99 → d ≤ 99 → e ≤ 99 → area_symbols (area_of a b c d e) ≡ a ∷ b ∷ c ∷ d ∷ e ∷ []
unfolding area_digits
area_list a b c d e hb hb' hc hd he =
    ten_digits-of (area_digits (area_of a b c d e)) a b c d e (omega arith) hc hd he (omega arith)

to_area : (v : Rectangle) (word : List ℕ) → AreaParts v word → Areas v word
to_area v word p =
    let q = p.after in let r = q.after in let s = r.after in let t = s.after in
    let list = joined p (joined q (joined r (joined s (joined t t.after.list)))) in
    let value : v ≡ area_of p.chosen q.chosen r.chosen s.chosen t.chosen = t.after.value in
    let kb = latitude_at p.chosen q.chosen (p.chosen % 10 == 9) refl q.before.allowed in
    let kc = degrees_at q.chosen r.chosen (q.chosen % 10 == 1) refl r.before.allowed in
    record {
      is_lawful = subst IsArea (sym value)
          (area_lawful p.chosen q.chosen r.chosen s.chosen t.chosen p.before.allowed q.before.allowed r.before.allowed s.before.allowed t.before.allowed);
      list = list ∙ sym (ap area_symbols value
          ∙ area_list p.chosen q.chosen r.chosen s.chosen t.chosen kb.0 kb.1 kc.0 s.before.allowed t.before.allowed);
    }

latitude_from : (a b : ℕ) (t : Bool) → (a % 10 == 9) ≡ t → b / 10 ≤ 9 → b % 10 ≤ 1 → (a % 10 ≡ 9 → b / 10 ≤ 0)
    → Allows (if t then Digits 0 1 else Digits 9 1) b
latitude_from a b t e h k l = grind (arith, nat_tests)

from_area : (v : Rectangle) (word : List ℕ) → Areas v word → AreaParts v word
unfolding area_digits
from_area v word p =
    let h : IsArea v = p.is_lawful in
    let hq : v.quadrant ≤ 3 = h.quadrant in
    let hl : v.latitude ≤ 90 = h.latitude in
    let ho : v.longitude ≤ 180 = h.longitude in
    let hs : v.south ≤ 99 = h.south in
    let he : v.east ≤ 99 = h.east in
    let a : ℕ = v.quadrant * 10 + v.latitude / 10 in
    let b : ℕ = v.latitude % 10 * 10 + v.longitude / 100 in
    let c : ℕ = v.longitude % 100 in
    let list : area_symbols v ≡ a ∷ b ∷ c ∷ v.south ∷ v.east ∷ [] =
    ten_digits-of (area_digits v) a b c v.south v.east (omega arith) (omega arith) hs he (omega arith) in
    let value : v ≡ area_of a b c v.south v.east = same_area v (area_of a b c v.south v.east) (omega arith) (omega arith) (omega arith) refl refl in
    subst (λ w. AreaParts v w) (sym (p.list ∙ list))
    (one_then a (omega arith)
    (one_then b (latitude_from a b (a % 10 == 9) refl (omega arith) (omega arith) (λ k. omega arith))
    (one_then c (degrees_allowed b c (b % 10 == 1) refl (omega arith) (λ k. omega arith))
    (one_then v.south hs (one_then v.east he (record { value = value; list = refl }))))))

pub area_alike : Alike AreaParts Areas
area_alike = record { to = to_area; back = from_area }

-- an area reads back, and no two areas' characters begin alike
pub area_good : Good Areas
area_good = alike_good _ _ area_alike parts_good
