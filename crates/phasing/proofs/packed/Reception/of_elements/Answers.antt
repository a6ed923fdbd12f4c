use Rattle.std.proofs.Common.{refl, ◌∙◌}
use Rattle.phasing.proofs.PackedBits.{all_blocks, kept_same, kept_view, kept_keep}
use Rattle.phasing.proofs.packed.Reception.of_elements.Goals as goal

pub of-requires : goal.of-requires
of-requires c = kept_same _ c.args.e.now _ (kept_keep _ _ _ c.loop-block.invariant (all_blocks _ _ _ c.div_ceil-blocks.ensures c.loop-block-test.false)) refl

pub returns : goal.returns
returns c = c.of.ensures ∙ kept_view _ c.args.e.now _ (kept_keep _ _ _ c.loop-block.invariant (all_blocks _ _ _ c.div_ceil-blocks.ensures c.loop-block-test.false)) refl
