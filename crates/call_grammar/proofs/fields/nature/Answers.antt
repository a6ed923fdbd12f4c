use Rattle.dsc_symbols.specs.Natures.{IsNature}
use Rattle.symbol_reader.proofs.Steps.{alike, fail}
use Rattle.call_grammar.proofs.SymbolParts.{symbol_alike}
use Rattle.call_grammar.proofs.fields.nature.Goals as goal

pub returns-in_err-symbol : goal.returns-in_err-symbol
returns-in_err-symbol c = fail c.from_residual.ensures.1 (alike (symbol_alike IsNature) c.in_err-symbol.ensures.reads)
