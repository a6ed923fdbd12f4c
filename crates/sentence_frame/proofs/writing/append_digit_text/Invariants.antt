use Rattle.std.proofs.Common.{◌≡◌, ◌++◌, take}
use Rattle.sentence_frame.specs.Texts.{digit_text}
use Rattle.sentence_frame.proofs.writing.append_digit_text.Given as goal

abbrev pub invariant-loop-digit : goal.invariant-loop-digit
invariant-loop-digit g l = l.out.items ≡ l.initial.out.items ++ digit_text (take l.digit-index l.digits)
