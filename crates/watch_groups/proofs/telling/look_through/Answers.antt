use Rattle.std.proofs.Common.{◌≡◌, ℕ, ◌+◌, [], ◌∷◌, drop, true, slice_index, List, ◌==◌, arith, ap, refl, subst, ◌∙◌}
use Rattle.std.proofs.lemmas.Bool.{eq-eqb, or_left}
use Rattle.std.proofs.lemmas.List.{drop_more, drop_all}
use Rattle.join_groups.specs.Groups.{is_among}
use Rattle.watch_groups.specs.inside.Kept.{LooksThrough}
use Rattle.watch_groups.proofs.Looks.{looks_none, looks_more}
use Rattle.watch_groups.proofs.telling.look_through.Goals as goal

pub loop-here-init : goal.loop-here-init
loop-here-init c = λ said keeps named. looks_none said c.args.named.now c.args.told.now c.args.out.now.items

pub loop-here-preserved : goal.loop-here-preserved
loop-here-preserved c = λ said keeps named.
    let was = c.loop-here.invariant said keeps named in
    let all = c.args.named.now in
    let group = slice_index all c.loop-here.here in
    let left : drop c.loop-here.here all ≡ group ∷ drop (c.loop-here.here + 1) all = drop_more all c.loop-here.here 0 (omega arith) in
    let among : is_among (drop c.loop-here.here all) group ≡ true = ap (λ (l : List ℕ). is_among l group) left ∙ or_left (group == group) _ (eq-eqb group group refl) in
    looks_more said all (drop c.loop-here.here all) (drop (c.loop-here.here + 1) all) group c.args.told.now c.loop-here.told c.look_at.new.told
    c.args.out.now.items c.loop-here.out.items c.look_at.new.out.items left was
    (c.in_ok-look_at.ensures said keeps (named group (was.among group among)))

pub returns : goal.returns
returns c = λ said keeps named.
    let none : drop c.loop-here.here c.args.named.now ≡ [] = drop_all c.loop-here.here c.args.named.now (omega arith) in
    subst (λ (l : List ℕ). LooksThrough said c.args.named.now l c.args.told.now c.args.out.now.items c.loop-here.told c.loop-here.out.items) none (c.loop-here.invariant said keeps named)
