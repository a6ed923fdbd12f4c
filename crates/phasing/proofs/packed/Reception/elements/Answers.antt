use Rattle.std.proofs.Common.{◌++◌, ◌∷◌, [], take, List, sym, ap, ◌∙◌, arith}
use Rattle.std.proofs.lemmas.List.{take_more, take_all}
use Rattle.ten_unit.specs.declared.character.Element.{Element}
use Rattle.ten_unit.specs.declared.character.Element.TheVariants.{Lost}
use Rattle.phasing.proofs.PackedBits.{kept_count}
use Rattle.phasing.proofs.packed.Reception.elements.Goals as goal

pub element-requires : goal.element-requires
element-requires c = omega (arith, kept_count _ _ _ c.self.view_is)

pub loop-i-preserved : goal.loop-i-preserved
loop-i-preserved c =
    c.in_ok-push.ensures.items ∙ ap (λ (l : List Element). l ++ c.element.result ∷ []) c.loop-i.invariant
    ∙ ap (λ (x : Element). take c.loop-i.i c.args.self.now ++ x ∷ []) c.element.ensures
    ∙ sym (take_more c.args.self.now c.loop-i.i Lost (omega (arith, kept_count _ _ _ c.self.view_is)))

pub returns : goal.returns
returns c = c.loop-i.invariant ∙ take_all c.loop-i.i c.args.self.now (omega (arith, kept_count _ _ _ c.self.view_is))
