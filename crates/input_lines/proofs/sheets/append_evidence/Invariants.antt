use Rattle.std.proofs.Common.{◌≡◌, ◌+◌, ◌*◌, ◌≤◌, ◌++◌, codes, decimal}
use Rattle.arrayvec.specs.ArrayVec.{array_vec_len}
use Rattle.input_lines.specs.inside.Reading.{pairs_text}
use Rattle.input_lines.specs.Evidence.{pairs_below}
use Rattle.input_lines.proofs.sheets.append_evidence.Given as goal

abbrev pub invariant-loop-place : goal.invariant-loop-place
invariant-loop-place g l = record {
  items : l.out.items ≡ l.fn.out.items ++ (codes "e g" ++ decimal l.group ++ pairs_text (pairs_below l.place l.sheet));
  len : array_vec_len l.out ≤ array_vec_len l.fn.out + 23 + 14 * l.place;
}
