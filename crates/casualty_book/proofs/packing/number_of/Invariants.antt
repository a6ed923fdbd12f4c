use Rattle.std.proofs.Common.{◌≡◌, ◌+◌, drop}
use Rattle.casualty_book.specs.inside.Packing.{number_from, number_of}
use Rattle.casualty_book.proofs.packing.number_of.Given as goal

abbrev pub invariant-loop-digit : goal.invariant-loop-digit
invariant-loop-digit l = l.number + number_from l.weight (drop l.digit-index l.digits) ≡ number_of l.digits
