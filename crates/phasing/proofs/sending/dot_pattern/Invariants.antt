use Rattle.std.proofs.Common.{◌≡◌}
use Rattle.phasing.specs.Sent.{dots}
use Rattle.phasing.proofs.sending.dot_pattern.Given as goal

abbrev pub invariant-loop-number : goal.invariant-loop-number
invariant-loop-number l = l.elements.items ≡ dots l.number
