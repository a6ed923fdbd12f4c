use Rattle.symbol_reader.specs.declared.letters.Letter.TheVariants.{Category}
use Rattle.symbol_reader.proofs.Steps.{letter_good, coded_stop, coded_read, fail}
use Rattle.call_grammar.proofs.CodedParts.{category_coded}
use Rattle.call_grammar.proofs.symbols.category_unless_distress.Goals as goal

pub returns-in_err-symbol : goal.returns-in_err-symbol
returns-in_err-symbol c = fail c.from_residual.ensures.1 (coded_stop (letter_good Category) category_coded c.in_err-symbol.ensures.reads)

pub returns : goal.returns
returns c = coded_read tt c.category_of_symbol.ensures c.in_ok-symbol.ensures.reads
