use Rattle.symbol_reader.proofs.Steps.{letter_good, coded_stop, coded_read, fail}
use Rattle.call_grammar.specs.inside.Forms.{distress_telecommand_letter}
use Rattle.call_grammar.proofs.CodedParts.{distress_telecommand_coded, distress_telecommand_lawful, distress_telecommand_there}
use Rattle.call_grammar.proofs.symbols.distress_telecommand.Goals as goal

pub returns-in_err-symbol : goal.returns-in_err-symbol
returns-in_err-symbol c =
    let r = rw c.distress_telecommand_letter.ensures at c.in_err-symbol.ensures.reads in
    fail c.from_residual.ensures.1 (coded_stop (letter_good (distress_telecommand_letter c.args.to.now)) (distress_telecommand_coded c.args.to.now) r)

pub returns : goal.returns
returns c =
    let r = rw c.distress_telecommand_letter.ensures at c.in_ok-symbol.ensures.reads in
    let a = rw c.distress_telecommand_letter.ensures at c.in_ok-symbol.ensures.allowed in
    coded_read (distress_telecommand_lawful c.args.to.now c.in_ok-symbol.symbol a) (distress_telecommand_there c.args.to.now c.in_ok-symbol.symbol a) r
