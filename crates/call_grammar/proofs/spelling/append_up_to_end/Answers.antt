use Rattle.std.proofs.Common.{length, ap, length-append, arith}
use Rattle.call_grammar.proofs.Lengths.{length-fields}
use Rattle.call_grammar.proofs.spelling.append_up_to_end.Goals as goal

pub append-requires-2 : goal.append-requires-2
append-requires-2 c =
    omega (arith, simp length-append at (length-fields c.args.call.now), simp length-append at (ap length c.append_fields.ensures), simp length-append at (ap length c.append.ensures), ap length c.requires)

pub returns-clause-short : goal.returns-clause-short
returns-clause-short c =
    omega (
      arith,
      simp length-append at (length-fields c.args.call.now),
      simp length-append at (ap length c.append_fields.ensures),
      simp length-append at (ap length c.append.ensures),
      simp length-append at (ap length c.append-2.ensures),
      ap length c.requires,
    )
