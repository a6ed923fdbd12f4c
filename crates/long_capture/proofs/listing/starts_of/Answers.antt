use Rattle.std.proofs.Common.{◌≡◌, ℕ, ◌+◌, ◌<◌, ◌++◌, List, [], ◌∷◌, length, take, drop, get_or, Some, None, refl, add-one, arith, ap, sym, subst, ◌∙◌}
use Rattle.std.proofs.Math.Seq.{drop-cons}
use Rattle.std.proofs.Math.ListN.{take-append-drop}
use Rattle.std.proofs.lemmas.List.{append-nil, take_more}
use Rattle.long_capture.specs.Captures.{reached, StandsFor}
use Rattle.long_capture.specs.Starts.{starts_below}
use Rattle.long_capture.specs.Told.{AreStarts, Tells}
use Rattle.ten_unit.specs.declared.character.Element.{Element}
use Rattle.ten_unit.specs.declared.character.Element.TheVariants.{Y}
use Rattle.long_capture.specs.declared.starts.Start.{Start}
use Rattle.long_capture.proofs.Lists.{none_below}
use Rattle.long_capture.proofs.listing.starts_of.Goals as goal

-- before the first element nothing is listed
nothing_listed : (e : List Element) (low : ℕ) (list : List Start) → low ≡ 0 → list ≡ [] → AreStarts e (starts_below e low) list
nothing_listed e low list first none =
    subst (λ (l : List Start). AreStarts e (starts_below e low) l) (sym none)
    (subst (λ (leads : List ℕ). AreStarts e leads []) (sym (ap (starts_below e) first ∙ none_below e)) tt)

pub loop-x-init : goal.loop-x-init
loop-x-init c = record {
  stands = c.new-capture.ensures.stands;
  are = nothing_listed c.args.e.now _ c.new-list.result.items c.new-capture.ensures.stands.far c.new-list.ensures.items;
}

-- a list at one of its elements
parted : (e : List Element) (i : ℕ) → i < length e → take i e ++ get_or e i Y ∷ drop (i + 1) e ≡ e
parted e i below =
    ap (λ (n : ℕ). take i e ++ get_or e i Y ∷ drop n e) (add-one i) ∙ ap (λ (l : List Element). take i e ++ l) (sym (drop-cons e i Y below)) ∙ take-append-drop i e

pub loop-x-preserved : goal.loop-x-preserved
loop-x-preserved c =
    let e = c.args.e.now in
    let i = c.loop-x.x-index in
    let was = c.loop-x.invariant in
    let below : i < length e = omega arith in
    record {
      stands = subst (λ (l : List Element). StandsFor c.take-answer.new.self l) (sym (take_more e i Y below)) (c.take-answer.ensures.stands (take i e) was.stands);
      are =
          subst (λ (l : List Start). AreStarts e (starts_below e (reached c.take-answer.new.self)) l) (sym (c.in_ok-add.ensures))
          (c.answers_add_up.ensures e (reached c.loop-x.capture) (reached c.take-answer.new.self) c.loop-x.list.items c.take-answer.result was.are
          (subst (λ (l : List Element). Tells l (reached c.loop-x.capture) (reached c.take-answer.new.self) c.take-answer.result) (parted e i below)
          (c.take-answer.ensures.tells (take i e) (drop (i + 1) e) was.stands)));
    }

pub loop-start-preserved : goal.loop-start-preserved
loop-start-preserved c =
    let e = c.args.e.now in
    let was = c.loop-start.invariant in
    record {
      ending = c.in-Some.ensures.ending e was.ending;
      are =
          subst (λ (l : List Start). AreStarts e (starts_below e (reached c.finish.new.self)) l) (sym (c.in_ok-add-2.ensures))
          (c.answers_add_up.ensures e (reached c.loop-start.capture) (reached c.finish.new.self) c.loop-start.list.items (Some c.in-Some.start) was.are (c.in-Some.ensures.tells e was.ending));
    }

pub returns : goal.returns
returns c =
    let e = c.args.e.now in
    let was = c.loop-start.invariant in
    let all = c.in_default.ensures.none e was.ending refl in
    subst (λ (n : ℕ). AreStarts e (starts_below e n) c.loop-start.list.items) all
    (subst (λ (l : List Start). AreStarts e (starts_below e (reached c.finish.new.self)) l) (append-nil c.loop-start.list.items)
    (c.answers_add_up.ensures e (reached c.loop-start.capture) (reached c.finish.new.self) c.loop-start.list.items None was.are (c.in_default.ensures.tells e was.ending)))
