use Rattle.std.proofs.Common.{◌≡◌, drop, bit_xor}
use Rattle.symbol_reader.specs.Checks.{check_of}
use Rattle.symbol_reader.proofs.checking.check.Given as goal

abbrev pub invariant-loop-symbol : goal.invariant-loop-symbol
invariant-loop-symbol l = bit_xor l.check (check_of (drop l.symbol-index l.list)) ≡ check_of l.list
