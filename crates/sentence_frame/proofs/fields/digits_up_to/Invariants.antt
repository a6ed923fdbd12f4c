use Rattle.std.proofs.Common.{◌≡◌, ◌-◌, map, take}
use Rattle.sentence_frame.proofs.fields.digits_up_to.Given as goal

abbrev pub invariant-loop-byte : goal.invariant-loop-byte
invariant-loop-byte g l = l.digits.items ≡ map (λ b. b - 48) (take l.byte-index l.text)
