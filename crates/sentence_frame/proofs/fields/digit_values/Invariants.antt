use Rattle.std.proofs.Common.{◌≡◌, ◌-◌, map, take, length}
use Rattle.sentence_frame.proofs.fields.digit_values.Given as goal

abbrev pub invariant-loop-n : goal.invariant-loop-n
invariant-loop-n g l = (take l.n l.digits ≡ map (λ b. b - 48) (take l.n l.text)) × (length l.digits ≡ g.row.N)
