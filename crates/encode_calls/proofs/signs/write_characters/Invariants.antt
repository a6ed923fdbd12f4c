use Rattle.std.proofs.Common.{◌≡◌, ◌*◌, take, drop, map, flat_map}
use Rattle.ten_unit.specs.Word.{word_of}
use Rattle.time_diversity.specs.OnAir.{on_air}
use Rattle.input_lines.specs.ReceiverLine.{sign_of}
use Rattle.encode_calls.proofs.signs.write_characters.Given as goal

-- both words of each place so far are there
abbrev pub invariant-loop-place : goal.invariant-loop-place
invariant-loop-place l = take (20 * l.place) l.words ≡ map sign_of (flat_map word_of (take (2 * l.place) (drop 12 (on_air l.list))))
