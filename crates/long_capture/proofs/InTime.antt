-- slots that end before a cut
use Rattle.std.proofs.Common.{◌≡◌, ℕ, ◌+◌, ◌-◌, ◌*◌, ◌<◌, Bool, false, ◌&&◌, nat_le, List, length, take, inl, inr, arith, ap, sym, ◌∙◌}
use Rattle.std.proofs.lemmas.Bool.{cases_lt, cond-false, le-leb, lt-leb, and_left, and_right}
use Rattle.std.proofs.lemmas.List.{get_or-take, length-take}
use Rattle.ten_unit.specs.declared.character.Element.{Element}
use Rattle.ten_unit.specs.declared.character.Element.TheVariants.{Lost}
use Rattle.ten_unit.specs.Word.{is_word}
use Rattle.ten_unit.proofs.PublicLaws.{is_word-none}
use Rattle.phasing.specs.Slot.{shows}
use Rattle.phasing.specs.inside.Places.{element_at}
use Rattle.phasing.proofs.PublicLaws.{element_at-inside, element_at-before}
use Rattle.long_capture.proofs.Near.{Laws}

-- an element before the cut
kept_at : (e : List Element) (next place : ℕ) → place < next → element_at (take (next - 150) e) place ≡ element_at e place
kept_at e next place near =
    elim (cases_lt place 150) [
      | inl early ↦ element_at-before (take (next - 150) e) place early ∙ sym (element_at-before e place early)
      | inr late ↦
          element_at-inside (take (next - 150) e) place late ∙ get_or-take (next - 150) e (place - 150) Lost (omega arith) ∙ sym (element_at-inside e place late)
    ]

-- a slot that ends after the cut is not inside
cut_off : (e : List Element) (next lead s v : ℕ) → next < lead + 10 * s + 10 → shows (take (next - 150) e) lead s v ≡ false
unfolding shows
cut_off e next lead s v past =
    elim (cases_lt (lead + 10 * s) 150) [
      | inl early ↦
          ap (λ (w : List Element). is_word w v) (cond-false _ _ _ (and_left _ (nat_le (lead + 10 * s + 10) (length (take (next - 150) e) + 150)) (lt-leb _ _ early))) ∙ is_word-none v
      | inr late ↦
          let outside : length (take (next - 150) e) + 150 < lead + 10 * s + 10 = omega (arith, length-take (next - 150) e) in
          ap (λ (w : List Element). is_word w v) (cond-false _ _ _ (and_right (nat_le 150 (lead + 10 * s)) _ (lt-leb _ _ outside))) ∙ is_word-none v
    ]

-- a slot is shown by a front of the elements as soon as it is whole
pub in_time : Laws → (e : List Element) (lead s v next : ℕ) → shows (take (next - 150) e) lead s v ≡ (nat_le (lead + 10 * s + 10) next && shows e lead s v)
in_time laws e lead s v next =
    elim (cases_lt next (lead + 10 * s + 10)) [
      | inl past ↦ cut_off e next lead s v past ∙ ap (λ (b : Bool). b && shows e lead s v) (sym (lt-leb _ _ past))
      | inr near ↦
          laws.slot (take (next - 150) e) e lead lead s v (λ i below. kept_at e next (lead + 10 * s + i) (omega arith))
          ∙ ap (λ (b : Bool). b && shows e lead s v) (sym (le-leb _ _ near))
    ]
