use Rattle.std.proofs.Common.{◌≡◌, ◌*◌, take, map, flat_map}
use Rattle.ten_unit.specs.Word.{word_of}
use Rattle.input_lines.specs.ReceiverLine.{sign_of}
use Rattle.encode_calls.proofs.signs.append_words.Given as goal

abbrev pub invariant-loop-number : goal.invariant-loop-number
invariant-loop-number l = take (10 * l.number) l.words ≡ map sign_of (flat_map word_of (take l.number l.symbols))
