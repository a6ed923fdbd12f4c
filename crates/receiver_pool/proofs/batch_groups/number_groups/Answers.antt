use Rattle.std.proofs.Common.{◌≡◌, ℕ, List, length, arith, ap, sym, subst}
use Rattle.std.proofs.lemmas.List.{get_or_read}
use Rattle.receiver_pool.specs.declared.group_entries.GroupReception.{GroupReception}
use Rattle.receiver_pool.specs.inside.Turns.{nobody}
use Rattle.receiver_pool.specs.inside.Numbers.{AreNumbered}
use Rattle.receiver_pool.proofs.Gathered.{none_numbered, next_numbered}
use Rattle.receiver_pool.proofs.batch_groups.number_groups.Goals as goal

pub loop-heard-preserved : goal.loop-heard-preserved
loop-heard-preserved c =
    let i = c.loop-heard.heard-index in
    let heard = c.heard-item.result in
    let is = get_or_read c.args.batch.now i heard (omega arith) c.heard-item.is nobody in
    record {
      numbered =
          subst (AreNumbered c.args.batch.now _ _) (sym c.in_ok-push.ensures.items)
          (next_numbered c.args.batch.now i c.in_ok-place_of.field-0 heard.group _ _ c.loop-heard.places.items (omega arith) (ap (λ (h : GroupReception). h.group) is) c.in_ok-place_of.ensures.placed c.loop-heard.invariant.numbered);
      remembered = c.in_ok-place_of.ensures.remembered;
    }

pub loop-heard-init : goal.loop-heard-init
loop-heard-init c = record {
  numbered = none_numbered c.args.batch.now _ _ c.new-groups.ensures.items c.in_ok-places.ensures.items;
  remembered = λ i small. absurd (omega (arith, small, ap (λ (gs : List ℕ). length gs) c.new-groups.ensures.items));
}

pub returns : goal.returns
returns c =
    let end : c.loop-heard.heard-index ≡ length c.args.batch.now = omega arith in
    subst (λ (n : ℕ). AreNumbered c.args.batch.now n c.loop-heard.groups.items c.loop-heard.places.items) end c.loop-heard.invariant.numbered
