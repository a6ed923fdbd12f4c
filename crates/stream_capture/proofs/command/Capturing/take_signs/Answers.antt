use Rattle.std.proofs.Common.{◌≡◌, ℕ, ◌+◌, ◌-◌, ◌<◌, ◌≤◌, ◌^◌, List, ◌++◌, length, map, take, drop, ◌∙◌, ap, sym, subst, arith}
use Rattle.std.proofs.lemmas.List.{take_rest, take_all, length-drop, length-map, drop-map}
use Rattle.ten_unit.specs.declared.character.Element.{Element}
use Rattle.ten_unit.specs.Signs.{element_of}
use Rattle.stream_capture.specs.declared.command.Capturing.{Capturing}
use Rattle.stream_capture.specs.inside.Progress.{HasTold}
use Rattle.stream_capture.proofs.Ready.{MayTake, may_take_rest, part_more}
use Rattle.stream_capture.proofs.command.Capturing.take_signs.Goals as goal

-- after the elements of a front of the signs, it may take those of the rest
may_take_signs : (command : Capturing) (e : List Element) (signs : List ℕ) (i : ℕ) (text : List ℕ) → HasTold command (e ++ take i (map element_of signs)) text → length e + length signs < 2 ^ 31 → i ≤ length signs
    → MayTake command (length (map element_of signs) - i)
may_take_signs command e signs i text told few inside =
    let long : length (map element_of signs) ≡ length signs = length-map signs element_of in
    may_take_rest command e (map element_of signs) i text told (omega (arith, long, few)) (omega (arith, long, inside))

pub take_front-requires-clause-few : goal.take_front-requires-clause-few
take_front-requires-clause-few c =
    let r = c.requires in
    let may = may_take_signs c.loop-count.self r.e c.args.signs.now c.loop-count.count _ (c.loop-count.invariant.told r.e r.written r.told) r.few c.loop-count.invariant.inside in
    may.few

pub take_front-requires-clause-short : goal.take_front-requires-clause-short
take_front-requires-clause-short c =
    let r = c.requires in
    let signs = c.args.signs.now in
    let i = c.loop-count.count in
    let may = may_take_signs c.loop-count.self r.e signs i _ (c.loop-count.invariant.told r.e r.written r.told) r.few c.loop-count.invariant.inside in
    omega (arith, may.short, length-map signs element_of, ap length (take_rest signs i), length-drop i signs)

pub take_front-requires-clause-going : goal.take_front-requires-clause-going
take_front-requires-clause-going c =
    let r = c.requires in
    let may = may_take_signs c.loop-count.self r.e c.args.signs.now c.loop-count.count _ (c.loop-count.invariant.told r.e r.written r.told) r.few c.loop-count.invariant.inside in
    may.going

-- the elements of the rest of the signs
rest_is : (signs : List ℕ) (i : ℕ) → map element_of (take (length signs - i) (drop i signs)) ≡ drop i (map element_of signs)
rest_is signs i = ap (map element_of) (take_rest signs i) ∙ sym (drop-map element_of i signs)

pub loop-count-preserved : goal.loop-count-preserved
loop-count-preserved c =
    let signs = c.args.signs.now in
    let xs = map element_of signs in
    let i = c.loop-count.count in
    let n = c.in_ok-count.field-0 in
    record {
      inside = omega (arith, c.in_ok-count.ensures.front, ap length (take_rest signs i), length-drop i signs, c.loop-count.invariant.inside);
      told =
          λ e text h.
          let more = ap (λ (l : List Element). (e ++ take i xs) ++ take n l) (rest_is signs i) ∙ part_more e xs i n in
          subst (λ (l : List Element). HasTold c.take_front.new.self l (text ++ c.take_front.new.out.items)) more
          (c.in_ok-count.ensures.told (e ++ take i xs) text (c.loop-count.invariant.told e text h));
    }

pub returns : goal.returns
returns c = λ e text h.
    let signs = c.args.signs.now in
    let all : take c.loop-count.count (map element_of signs) ≡ map element_of signs = take_all c.loop-count.count (map element_of signs) (omega (arith, length-map signs element_of, c.loop-count-test.false)) in
    subst (λ (l : List Element). HasTold c.loop-count.self (e ++ l) (text ++ c.loop-count.out.items)) all (c.loop-count.invariant.told e text h)
