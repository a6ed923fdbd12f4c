use Rattle.std.proofs.Common.{◌≡◌, ◌+◌, ◌*◌, ◌++◌, length, take, flat_map}
use Rattle.ten_unit.specs.Word.{word_of}
use Rattle.phasing.specs.Sent.{dots, dot_count}
use Rattle.phasing.proofs.sending.transmission.Given as goal

abbrev pub invariant-loop-symbol : goal.invariant-loop-symbol
invariant-loop-symbol l = record {
  sent : l.elements.items ≡ dots (dot_count l.fn.long) ++ flat_map word_of (take l.symbol-index l.slots);
  long : length l.elements.items ≡ dot_count l.fn.long + 10 * l.symbol-index;
}
