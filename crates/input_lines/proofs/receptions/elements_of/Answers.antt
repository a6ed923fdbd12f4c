use Rattle.input_lines.proofs.Bodies.{packed_some, packed_are}
use Rattle.input_lines.proofs.receptions.elements_of.Goals as goal

pub unwrap-requires : goal.unwrap-requires
unwrap-requires c = packed_some c.args.signs.now c.in_ok-of_signs.field-0 c.requires c.in_ok-of_signs.ensures.none

pub returns : goal.returns
returns c = packed_are c.args.signs.now _ c.in_ok-of_signs.field-0 c.unwrap.ensures c.in_ok-of_signs.ensures.some
