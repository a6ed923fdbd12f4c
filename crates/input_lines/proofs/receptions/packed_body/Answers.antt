use Rattle.std.proofs.Common.{sym, ◌∙◌}
use Rattle.std.proofs.lemmas.Bool.{eqb-false}
use Rattle.input_lines.proofs.Bodies.{packed_body_of}
use Rattle.input_lines.proofs.receptions.packed_body.Goals as goal

pub returns : goal.returns
returns c = packed_body_of c.args.bytes.now c.in-Some.signs.now _ c.of_signs.result c.in-Some.ensures.cases.0 c.if-blank-ne32.false (eqb-false _ 0 (sym c.is_empty.ensures ∙ c.if-is_empty.false)) c.of_signs.ensures.some
