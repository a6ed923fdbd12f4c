use Rattle.std.proofs.Common.{length, decimal, ap, length-append, arith}
use Rattle.input_lines.proofs.SheetTexts.{number_length}
use Rattle.input_lines.proofs.sheets.append_pair.Goals as goal

pub returns-clause-len : goal.returns-clause-len
returns-clause-len g c =
    let place = number_length 2 _ _ c.from.ensures (omega arith) (omega (arith, c.requires.place)) (omega (arith, c.requires.place)) in
    let symbol = number_length 3 _ _ c.from-2.ensures (omega arith) (omega (arith, c.requires.symbol)) (omega (arith, c.requires.symbol)) in
    omega (
      arith,
      place,
      symbol,
      c.append.ensures.len,
      ap length c.append_number.ensures.items,
      length-append c.append.new.out.items (decimal c.from.result),
      c.append-2.ensures.len,
      ap length c.append_number-2.ensures.items,
      length-append c.append-2.new.out.items (decimal c.from-2.result),
    )
