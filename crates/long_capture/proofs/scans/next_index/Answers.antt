use Rattle.std.proofs.Common.{◌≡◌, ℕ, ◌+◌, ◌-◌, ◌<◌, ◌≤◌, true, false, List, length, map, take, drop, inl, inr, ap, sym, arith, ◌∙◌}
use Rattle.std.proofs.lemmas.Bool.{cases_lt}
use Rattle.std.proofs.lemmas.List.{length-map, length-take-le, length-drop, take-map, drop-map}
use Rattle.ten_unit.specs.declared.character.Element.{Element}
use Rattle.ten_unit.specs.Signs.{element_of}
use Rattle.phasing.specs.Origin.{is_phased}
use Rattle.long_capture.specs.inside.Reads.{IsNextIndex}
use Rattle.long_capture.proofs.Near.{Laws}
use Rattle.long_capture.proofs.Cuts.{later_phased}
use Rattle.long_capture.proofs.scans.next_index.Goals as goal

-- the elements of the signs from index 1,408 on
rest_is : (signs : List ℕ) → map element_of (take (length signs - 1408) (drop 1408 signs)) ≡ take (length (map element_of signs) - 1408) (drop 1408 (map element_of signs))
rest_is signs =
    let long : length signs ≡ length (map element_of signs) = sym (length-map signs element_of) in
    sym (take-map element_of (length signs - 1408) (drop 1408 signs)) ∙ ap (take (length signs - 1408)) (sym (drop-map element_of 1408 signs))
    ∙ ap (λ (k : ℕ). take (k - 1408) (drop 1408 (map element_of signs))) long

-- a lead of them is one of the window
rest_phased : Laws → (signs : List ℕ) (k : ℕ) → length signs ≡ 1600 → k ≤ 32 → is_phased (map element_of (take (length signs - 1408) (drop 1408 signs))) (k + 150) ≡ is_phased (map element_of signs) (1408 + k + 150)
rest_phased laws signs k long few =
    ap (λ (l : List Element). is_phased l (k + 150)) (rest_is signs)
    ∙ later_phased laws (map element_of signs) 1408 k (omega (arith, long, few, length-map signs element_of))

-- what is found among them
next_of : Laws → (signs : List ℕ) (r : ℕ) → length signs ≡ 1600 → r ≤ 192 → (r < 192 → is_phased (map element_of (take (length signs - 1408) (drop 1408 signs))) (r + 150) ≡ true)
    → ((k : ℕ) → k < r → is_phased (map element_of (take (length signs - 1408) (drop 1408 signs))) (k + 150) ≡ false)
    → ((k : ℕ) → 1 ≤ k → k < 1408 → is_phased (map element_of signs) (k + 150) ≡ false) → IsNextIndex (map element_of signs) (1408 + r)
next_of laws signs r long most phased none before = record {
  from = omega arith;
  within = omega arith;
  phased = λ few. sym (rest_phased laws signs r long (omega arith)) ∙ phased (omega arith);
  none =
      λ k low below few.
      elim (cases_lt k 1408) [
        | inl early ↦ before k low early
        | inr late ↦
            let index : k + 150 ≡ 1408 + (k - 1408) + 150 = omega arith in
            ap (is_phased (map element_of signs)) index ∙ sym (rest_phased laws signs (k - 1408) long (omega arith)) ∙ none (k - 1408) (omega arith)
      ];
}

pub returns-then-found-lt-FRONT_INDICES : goal.returns-then-found-lt-FRONT_INDICES
returns-then-found-lt-FRONT_INDICES c = record {
  from = c.requires.from;
  within = omega arith;
  phased = λ few. c.requires.phased c.if-found-lt-FRONT_INDICES.true;
  none = λ k low below few. c.requires.none k low below;
}

pub returns : goal.returns
returns c =
    let laws : Laws = record { slot = c.elements_decide.ensures.slot; lead = c.elements_decide.ensures.lead; past = c.none_past_the_end.ensures } in
    let signs = c.args.window.now in
    let found = c.first_phased.ensures in
    let rest : length (map element_of (take (length signs - 1408) (drop 1408 signs))) ≡ 192 =
    omega (arith, c.requires.long, length-map (take (length signs - 1408) (drop 1408 signs)) element_of, length-take-le (length signs - 1408) (drop 1408 signs) (omega (arith, length-drop 1408 signs))) in
    next_of laws signs c.first_phased.result c.requires.long (omega (arith, found.within, rest)) (λ few. found.phased (omega (arith, rest))) found.none
    (λ k low below. c.requires.none k low (omega (arith, c.if-found-lt-FRONT_INDICES.false)))
