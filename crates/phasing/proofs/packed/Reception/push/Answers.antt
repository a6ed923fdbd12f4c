use Rattle.std.proofs.Common.{refl, arith}
use Rattle.std.proofs.lemmas.List.{length_push}
use Rattle.phasing.proofs.PackedBits.{kept_count, kept_same, kept_view}
use Rattle.phasing.proofs.Pushes.{kept_push, kept_set}
use Rattle.phasing.proofs.packed.Reception.push.Goals as goal
use Rattle.phasing.proofs.packed.Reception.push.Goals.{then-number-len, else-number-len+in_ok-push}

pub invariant_of-self-2 : goal.invariant_of-self-2
invariant_of-self-2 c =
    kept_same _ _ _
    (elim c.if-number-len.branch [
      | then-number-len w ↦ kept_set _ _ _ _ _ c.args.e _ c.self.invariant c.self.view_is c.words.ensures c.with_element-here.ensures (omega arith) (rw w.self-inside-is refl)
      | else-number-len+in_ok-push w ↦ kept_push _ _ _ _ _ c.args.e _ c.self.invariant c.self.view_is c.words.ensures c.with_element-here.ensures (omega arith) (rw w.self-inside-is w.in_ok-push.ensures.items)
    ])
    (omega (arith, kept_count _ _ _ c.self.view_is, c.in-Some.ensures, length_push c.args.self.now c.args.e))

pub returns-clause-pushed : goal.returns-clause-pushed
returns-clause-pushed c =
    kept_view _ _ _
    (elim c.if-number-len.branch [
      | then-number-len w ↦ kept_set _ _ _ _ _ c.args.e _ c.self.invariant c.self.view_is c.words.ensures c.with_element-here.ensures (omega arith) (rw w.self-inside-is refl)
      | else-number-len+in_ok-push w ↦ kept_push _ _ _ _ _ c.args.e _ c.self.invariant c.self.view_is c.words.ensures c.with_element-here.ensures (omega arith) (rw w.self-inside-is w.in_ok-push.ensures.items)
    ])
    (omega (arith, kept_count _ _ _ c.self.view_is, c.in-Some.ensures, length_push c.args.self.now c.args.e))
