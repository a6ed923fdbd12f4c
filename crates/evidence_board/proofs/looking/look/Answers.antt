use Rattle.std.proofs.Common.{arith, refl, length, subst, ◌∙◌, ap, length-set}
use Rattle.evidence_board.specs.Views.{kept_of, place_at}
use Rattle.evidence_board.specs.inside.Through.{LooksAt}
use Rattle.evidence_board.proofs.Changes.{further}
use Rattle.evidence_board.proofs.Loads.{sheet_further, sheet_beyond, kept_stays, is_seen_sheet}
use Rattle.evidence_board.proofs.looking.look.Goals as goal

pub loop-p-preserved : goal.loop-p-preserved
loop-p-preserved g c =
    let was = c.loop-p.invariant in
    let one = c.look_place.ensures in
    let now = c.look_place.new.token.view in
    let k = c.loop-p.p in
    record {
      table = one.table ∙ was.table;
      through =
          further (LooksAt g.A.Allowed.facts) _ _ now k (place_at now k) was.through one.place
          (subst (λ x. LooksAt g.A.Allowed.facts k x (place_at now k)) (was.through.above k (omega arith)) one.looked);
      size = ap length one.sheet ∙ length-set c.loop-p.sheet k _ ∙ was.size;
      below = sheet_further (λ p. kept_of (place_at now p).seen) c.loop-p.sheet _ k _ was.size (omega arith) one.sheet refl (kept_stays _ now c.loop-p.sheet k _ one.place was.below);
      above = sheet_beyond c.loop-p.sheet _ k _ one.sheet was.above;
    }

pub returns-clause-sheet : goal.returns-clause-sheet
returns-clause-sheet g c =
    let was = c.loop-p.invariant in
    is_seen_sheet c.loop-p.sheet c.loop-p.token.view was.size (was.through.size ∙ c.requires.seated.size) (λ p under. was.below p (omega arith))
