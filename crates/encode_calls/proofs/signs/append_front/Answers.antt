use Rattle.std.proofs.Common.{ℕ, Bool, List, ◌++◌, sym, ap, ◌∙◌}
use Rattle.encode_calls.specs.inside.Fronts.{front_signs}
use Rattle.encode_calls.proofs.SignTable.{short_front, long_front}
use Rattle.encode_calls.proofs.signs.append_front.Goals as goal

pub returns-in_ok-extend_from_slice : goal.returns-in_ok-extend_from_slice
returns-in_ok-extend_from_slice c =
    let out = c.args.out.now.items in
    c.in_ok-extend_from_slice.ensures.items
    ∙ ap (λ (l : List ℕ). out ++ l) long_front
    ∙ ap (λ (long : Bool). out ++ front_signs long) (sym c.if-long.true)

pub returns-in_ok-extend_from_slice-2 : goal.returns-in_ok-extend_from_slice-2
returns-in_ok-extend_from_slice-2 c =
    let out = c.args.out.now.items in
    c.in_ok-extend_from_slice-2.ensures.items
    ∙ ap (λ (l : List ℕ). out ++ l) short_front
    ∙ ap (λ (long : Bool). out ++ front_signs long) (sym c.if-long.false)
