-- elements with B in the place of each lost one: what begins in them where a word begins without that
use Rattle.std.proofs.Common.{◌≡◌, ℕ, ◌+◌, ◌*◌, ◌<◌, ◌≤◌, true, false, not, nat_le, List, refl, lit<, arith, ap, sym, ◌∙◌}
use Rattle.std.proofs.lemmas.Bool.{cond-true, cond-false, le-leb, lt-leb, false_from_ne_true}
use Rattle.ten_unit.specs.declared.character.Element.{Element}
use Rattle.ten_unit.specs.declared.character.Element.TheVariants.{Y, B, Lost}
use Rattle.ten_unit.specs.Word.{element_eq, word_of}
use Rattle.ten_unit.proofs.PublicLaws.{length-word}
use Rattle.phasing.specs.inside.Likely.{b_for_lost, filled}
use Rattle.phasing.specs.inside.Places.{element_at, is_at}
use Rattle.phasing.specs.Slot.{shows}
use Rattle.phasing.proofs.Kept.{word-sent}
use Rattle.phasing.proofs.Words.{each_at, at_each, heard_from, is_at-shows}

pub filled_from : (e : ℕ → Element) (place : ℕ) → 150 ≤ place → filled e place ≡ b_for_lost (e place)
filled_from e place from = cond-true (nat_le 150 place) (b_for_lost (e place)) Lost (le-leb 150 place from)

filled_before : (e : ℕ → Element) (place : ℕ) → place < 150 → filled e place ≡ Lost
filled_before e place before = cond-false (nat_le 150 place) (b_for_lost (e place)) Lost (lt-leb 150 place before)

-- its planes go by the one plane alone
y_alone : (x : Element) → element_eq x Y ≡ element_eq (b_for_lost x) Y
y_alone Y = refl
y_alone B = refl
y_alone Lost = refl

b_alone : (x : Element) → not (element_eq x Y) ≡ element_eq (b_for_lost x) B
b_alone Y = refl
b_alone B = refl
b_alone Lost = refl

pub is_y : (e : ℕ → Element) (place : ℕ) → 150 ≤ place → element_eq (e place) Y ≡ element_eq (filled e place) Y
is_y e place from = y_alone (e place) ∙ ap (λ (x : Element). element_eq x Y) (sym (filled_from e place from))

pub is_b_or_lost : (e : ℕ → Element) (place : ℕ) → 150 ≤ place → not (element_eq (e place) Y) ≡ element_eq (filled e place) B
is_b_or_lost e place from = b_alone (e place) ∙ ap (λ (x : Element). element_eq x B) (sym (filled_from e place from))

-- an element that isn't lost stays
heard_stays : (x : Element) → (x ≡ Lost → ⊥) → b_for_lost x ≡ x
heard_stays Y heard = refl
heard_stays B heard = refl
heard_stays Lost heard = absurd (heard refl)

-- no word begins before the first element
pub filled-early : (e : List Element) (place v : ℕ) → place < 150 → is_at (filled (element_at e)) (word_of v) place ≡ false
filled-early e place v before =
    false_from_ne_true (is_at (filled (element_at e)) (word_of v) place)
    (λ h.
    let first = each_at (filled (element_at e)) (word_of v) place h 0 (omega (arith, length-word v)) in
    let at : place + 0 ≡ place = omega arith in
    word-sent v 0 (lit< tt) (sym first ∙ ap (filled (element_at e)) at ∙ filled_before (element_at e) place before))

-- where a slot shows a symbol, its word begins
pub shown_begins : (e : List Element) (lead s v : ℕ) → shows e lead s v ≡ true → is_at (filled (element_at e)) (word_of v) (lead + 10 * s) ≡ true
shown_begins e lead s v shown =
    let place = lead + 10 * s in
    let each = each_at (element_at e) (word_of v) place (is_at-shows e lead s v ∙ shown) in
    at_each (filled (element_at e)) (word_of v) place
    (λ k below.
    let heard = λ (lost : element_at e (place + k) ≡ Lost). word-sent v k (omega (arith, length-word v)) (sym (each k below) ∙ lost) in
    filled_from (element_at e) (place + k) (heard_from e (place + k) heard) ∙ heard_stays (element_at e (place + k)) heard ∙ each k below)
