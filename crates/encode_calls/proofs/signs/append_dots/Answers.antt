use Rattle.std.proofs.Common.{ℕ, Bool, List, ◌++◌, map, sym, ap, ◌∙◌}
use Rattle.phasing.specs.Sent.{dots, dot_count}
use Rattle.input_lines.specs.ReceiverLine.{sign_of}
use Rattle.encode_calls.proofs.SignTable.{short_dots, long_dots}
use Rattle.encode_calls.proofs.signs.append_dots.Goals as goal

pub returns-in_ok-extend_from_slice-clause-signs : goal.returns-in_ok-extend_from_slice-clause-signs
returns-in_ok-extend_from_slice-clause-signs c =
    let out = c.args.out.now.items in
    c.in_ok-extend_from_slice.ensures.items
    ∙ ap (λ (l : List ℕ). out ++ l) long_dots
    ∙ ap (λ (long : Bool). out ++ map sign_of (dots (dot_count long))) (sym c.if-long.true)

pub returns-in_ok-extend_from_slice-2-clause-signs : goal.returns-in_ok-extend_from_slice-2-clause-signs
returns-in_ok-extend_from_slice-2-clause-signs c =
    let out = c.args.out.now.items in
    c.in_ok-extend_from_slice-2.ensures.items
    ∙ ap (λ (l : List ℕ). out ++ l) short_dots
    ∙ ap (λ (long : Bool). out ++ map sign_of (dots (dot_count long))) (sym c.if-long.false)
