use Rattle.std.proofs.Common.{◌≡◌, ℕ, map, ◌+◌, ◌*◌, ◌++◌, List, length, take, drop, replicate, ◌∙◌, sym, ap, subst, arith}
use Rattle.std.proofs.lemmas.List.{with_items_is}
use Rattle.ten_unit.specs.declared.character.Element.TheVariants.{B}
use Rattle.input_lines.specs.ReceiverLine.{sign_of}
use Rattle.generated_join.proofs.Overwritten.{SignsOverwritten, signs_none, signs_kept, signs_lost, signs_all, sign_inside}
use Rattle.generated_join.proofs.hearing.heard.Goals as goal
use Rattle.generated_join.proofs.hearing.heard.Goals.{then-is_lost, else-is_lost}

pub loop-slot-init : goal.loop-slot-init
loop-slot-init c =
    signs_none _ _ _ _ (c.in_ok-extend_from_slice.ensures.items ∙ ap (λ (l : List ℕ). l ++ c.args.transmission.now) c.in_ok-signs.ensures.items ∙ c.requires.transmission)

pub lose-requires : goal.lose-requires
lose-requires c =
    let room = sign_inside _ _ _ _ _ c.loop-slot.invariant c.loop-slot-test.true in
    omega (arith, room, ap length c.deref_mut.ensures.value)

pub loop-slot-preserved : goal.loop-slot-preserved
loop-slot-preserved c =
    let n = c.loop-slot.slot in
    elim c.if-is_lost.branch [
      | then-is_lost w ↦
          let new = w.lose.ensures ∙ ap (λ (l : List ℕ). take (20 + 10 * n) l ++ (map sign_of (replicate 10 B) ++ drop (20 + 10 * n + 10) l)) w.deref_mut.ensures.value in
          let items = ap (λ v. v.items) w.signs-is ∙ with_items_is c.loop-slot.signs w.lose.new.signs (w.lose.auto.signs ∙ w.deref_mut.ensures.len) in
          signs_lost _ _ _ _ _ _ c.loop-slot.invariant c.loop-slot-test.true (sym w.if-is_lost.ensures) (items ∙ new)
      | else-is_lost w ↦
          subst (λ v. SignsOverwritten c.args.group c.args.receiver c.args.slots.now (n + 1) v.items) (sym w.signs-is)
          (signs_kept _ _ _ _ _ c.loop-slot.invariant c.loop-slot-test.true (sym w.if-is_lost.ensures))
    ]

pub returns-clause-items : goal.returns-clause-items
returns-clause-items c =
    let all : c.loop-slot.slot ≡ length c.args.slots.now = omega arith in
    signs_all _ _ _ _ _ c.loop-slot.invariant all
