use Rattle.std.proofs.Common.{◌≡◌, take, bit_xor}
use Rattle.std.specs.List.{list_all, fold}
use Rattle.sentence_frame.specs.Refusals.{is_clean}
use Rattle.sentence_frame.proofs.frames.clean_sum.Given as goal

abbrev pub invariant-loop-byte : goal.invariant-loop-byte
invariant-loop-byte l = (l.clean ≡ list_all is_clean (take l.byte-index l.bytes)) × (l.sum ≡ fold bit_xor 0 (take l.byte-index l.bytes))
