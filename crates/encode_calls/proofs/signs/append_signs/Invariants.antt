use Rattle.std.proofs.Common.{◌≡◌, ◌<◌, ◌++◌, map, flat_map}
use Rattle.std.specs.List.{All}
use Rattle.std.specs.Slice.Iter.{chunks_rest, chunks_size}
use Rattle.ten_unit.specs.Word.{word_of}
use Rattle.phasing.specs.Sent.{sent}
use Rattle.input_lines.specs.ReceiverLine.{sign_of}
use Rattle.line_engine.specs.Determined.{BeginsWith}
use Rattle.encode_calls.proofs.signs.append_signs.Given as goal

-- with the signs of the symbols that are left, all signs are there, after what was there before
abbrev pub invariant-loop-symbols : goal.invariant-loop-symbols
invariant-loop-symbols l =
    goal.iterator-loop-symbols.can_next l.symbols-iterator
    × goal.iterator-loop-symbols.is_finite l.symbols-iterator
    × (chunks_size l.symbols-iterator ≡ 80)
    × All (λ v. v < 128) (chunks_rest l.symbols-iterator)
    × (l.out.items ++ map sign_of (flat_map word_of (chunks_rest l.symbols-iterator)) ≡ l.fn.out.items ++ map sign_of (sent l.slots l.long))
    × BeginsWith l.out.items l.fn.out.items
