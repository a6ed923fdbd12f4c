use Rattle.std.proofs.Common.{◌≡◌, [], ◌&&◌, ◌++◌, refl, sym, ap, subst, ◌∙◌, append-nil, slice_index_or, List, ℕ, arith}
use Rattle.std.proofs.lemmas.List.{get_or_read}
use Rattle.slot_evidence.specs.declared.places.Seen.{Seen}
use Rattle.slot_evidence.specs.Sheet.{IsEnds}
use Rattle.join_groups.specs.inside.Progress.{Numbers, HasTold, Progress}
use Rattle.join_groups.proofs.TellingLemmas.{progress_push, groups_text, numbers_inside, number_inside}
use Rattle.join_groups.proofs.telling.append_groups.Goals as goal

pub loop-group-init : goal.loop-group-init
loop-group-init g c = record {
  done = [];
  text = [];
  split = sym c.iter-group-items.ensures.rest ∙ sym c.into_iter-group-iterator.ensures.into_iter_gives;
  has_told = record { all = []; are_of = tt; text_is = refl; well_is = refl };
  written = sym (append-nil c.args.out.now.items);
}

pub index-requires : goal.index-requires
index-requires g c =
    let groups = c.args.groups.now in
    let ready = c.requires in
    let p = c.loop-group.invariant in
    let all = numbers_inside groups.numbers.entries groups.sheets.items groups.batch.items ready.named ready.facts c.iter-group-items.ensures.ordered ready.holds in
    let inside = number_inside groups.numbers.entries groups.sheets.items p.done (c.in-Some.group.now, c.in-Some.number.now) c.next.new.self
    (p.split ∙ ap (λ (left : Numbers). p.done ++ left) c.in-Some.ensures.steps) all in
    omega (arith, inside, groups.sheets.ok.0)

pub loop-group-preserved : goal.loop-group-preserved
loop-group-preserved g c =
    let tells = g.T.GroupWriter.tells in
    let groups = c.args.groups.now in
    let told = c.in_ok-is_well.ensures in
    let before = c.args.out.now.items in
    let here = subst (λ (left : Numbers). Progress tells groups.sheets.items groups.numbers.entries left before c.loop-group.out.items c.loop-group.is_well) c.in-Some.ensures.steps c.loop-group.invariant in
    let ready = c.requires in
    let p = c.loop-group.invariant in
    let all = numbers_inside groups.numbers.entries groups.sheets.items groups.batch.items ready.named ready.facts c.iter-group-items.ensures.ordered ready.holds in
    let inside = number_inside groups.numbers.entries groups.sheets.items p.done (c.in-Some.group.now, c.in-Some.number.now) c.next.new.self
    (p.split ∙ ap (λ (left : Numbers). p.done ++ left) c.in-Some.ensures.steps) all in
    let at : c.index.result.now ≡ slice_index_or groups.sheets.items c.in-Some.number.now [] = get_or_read groups.sheets.items c.in-Some.number.now c.index.result.now inside c.index.ensures [] in
    let next = progress_push tells groups.sheets.items groups.numbers.entries c.next.new.self (c.in-Some.group.now, c.in-Some.number.now) before c.loop-group.out.items told.0 c.loop-group.is_well c.in_ok-is_well.field-0 here
    (λ F ends. told.1.1 F (subst (λ (s : List Seen). IsEnds F s) (sym at) ends)) in
    subst (λ (after : List ℕ). Progress tells groups.sheets.items groups.numbers.entries c.next.new.self before after (c.loop-group.is_well && c.in_ok-is_well.field-0)) (sym told.1.0) next

pub returns : goal.returns
returns g c = λ said keeps ended.
    let tells = g.T.GroupWriter.tells in
    let groups = c.args.groups.now in
    let p = c.loop-group.invariant in
    let whole = sym (p.split ∙ ap (λ (left : Numbers). p.done ++ left) c.in-None.ensures.steps.0 ∙ append-nil p.done) in (
      p.text,
      (
        p.written,
        groups_text tells groups.sheets.items said groups.numbers.entries groups.batch.items p.text c.loop-group.is_well c.iter-group-items.ensures.ordered ended keeps
            (subst (λ (es : Numbers). HasTold tells groups.sheets.items es p.text c.loop-group.is_well) whole p.has_told),
      ),
    )
