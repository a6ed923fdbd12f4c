use Rattle.std.proofs.Common.{◌≡◌, arith}
use Rattle.std.proofs.lemmas.Grind.{common_steps}
use Rattle.dsc_symbols.specs.Telecommands.{IsFirst}
use Rattle.symbol_reader.proofs.Steps.{alike, fail}
use Rattle.call_grammar.proofs.SymbolParts.{symbol_alike}
use Rattle.call_grammar.proofs.symbols.first.Goals as goal

pub returns-in_err-symbol : goal.returns-in_err-symbol
returns-in_err-symbol c = fail c.from_residual.ensures.1 (alike (symbol_alike IsFirst) c.in_err-symbol.ensures.reads)

pub unwrap-requires : goal.unwrap-requires
unwrap-requires c = c.new.ensures.some.1 c.in_ok-symbol.ensures.allowed

pub returns : goal.returns
returns c =
    let value : c.unwrap.result ≡ c.in_ok-symbol.symbol = grind (arith, common_steps) in
    rw value (alike (symbol_alike IsFirst) c.in_ok-symbol.ensures.reads)
