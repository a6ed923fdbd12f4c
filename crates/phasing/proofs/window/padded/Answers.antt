use Rattle.std.proofs.Common.{List, ◌++◌, length, drop, get_or, ap, ◌∙◌}
use Rattle.std.proofs.Math.ListN.{replicate}
use Rattle.ten_unit.specs.declared.character.Element.{Element}
use Rattle.ten_unit.specs.declared.character.Element.TheVariants.{Lost}
use Rattle.phasing.proofs.Padding.{padded_at}
use Rattle.phasing.proofs.window.padded.Goals as goal

pub returns : goal.returns
returns c = λ i below.
    ap (λ (l : List Element). get_or (l ++ drop (length c.args.e.now) (replicate 64 Lost)) i Lost) c.copy_from_slice.ensures.after
    ∙ padded_at c.args.e.now Lost i below
