use Rattle.std.proofs.Common.{[], List, refl, sym, subst, ◌∙◌}
use Rattle.ten_unit.specs.declared.packing.Planes.{Planes}
use Rattle.phasing.specs.Packed.{Keep}
use Rattle.phasing.proofs.PackedBits.{kept_same, kept_view}
use Rattle.phasing.proofs.Pushes.{none_kept}
use Rattle.phasing.proofs.packed.Reception.new.Goals as goal

pub of-requires : goal.of-requires
of-requires c = kept_same _ [] 0 (subst (λ (planes : List Planes). Keep planes []) (sym c.new.ensures.items) none_kept) refl

pub returns : goal.returns
returns c = c.of.ensures ∙ kept_view _ [] 0 (subst (λ (planes : List Planes). Keep planes []) (sym c.new.ensures.items) none_kept) refl
