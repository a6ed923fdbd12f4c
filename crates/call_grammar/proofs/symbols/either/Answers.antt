use Rattle.symbol_reader.specs.declared.letters.Letter.TheVariants.{Either}
use Rattle.symbol_reader.proofs.Steps.{letter_good, coded_stop, coded_read, fail}
use Rattle.call_grammar.proofs.CodedParts.{either_coded, either_there}
use Rattle.call_grammar.proofs.symbols.either.Goals as goal

pub returns-in_err-symbol : goal.returns-in_err-symbol
returns-in_err-symbol c = fail c.from_residual.ensures.1
    (coded_stop (letter_good (Either c.args.one c.args.other)) (either_coded c.args.one c.args.other c.requires) c.in_err-symbol.ensures.reads)

pub returns : goal.returns
returns c = coded_read tt (either_there c.args.one c.args.other c.in_ok-symbol.symbol c.in_ok-symbol.ensures.allowed c.requires) c.in_ok-symbol.ensures.reads
