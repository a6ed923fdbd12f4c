use Rattle.std.proofs.Common.{◌≡◌, ◌+◌, ◌∷◌, [], length, sym, ap, ◌∙◌, subst, arith, length-append}
use Rattle.slot_evidence.specs.declared.places.Seen.TheVariants as seen
use Rattle.slot_evidence.specs.Seen.{ShowsOne}
use Rattle.slot_join.specs.Extra.{IsShownFrom}
use Rattle.slot_join.proofs.Stops.{seen_there}
use Rattle.slot_join.proofs.Followers.{push_from}
use Rattle.slot_join.proofs.extras.shown_from.Goals as goal

pub loop-p-preserved : goal.loop-p-preserved
loop-p-preserved c =
    let i = c.loop-p.invariant in
    let items = c.push.ensures.items in
    let v = c.in-One.symbol in
    let counts : length c.push.new.self.items ≡ length c.loop-p.symbols.items + length (v ∷ []) = ap length items ∙ length-append c.loop-p.symbols.items (v ∷ []) in
    record {
      place = omega (arith, counts, i.place);
      within = omega arith;
      shown = λ F ends.
          let here : ShowsOne (F c.loop-p.p) v = seen_there F c.args.sheet.now c.loop-p.p (seen.One v) ends c.in-One.ensures.seen in
          subst (λ l. IsShownFrom F c.args.from l) (sym items)
          (push_from F c.args.from v c.loop-p.symbols.items (i.shown F ends) (subst (λ n. ShowsOne (F n) v) (sym i.place) here));
    }
