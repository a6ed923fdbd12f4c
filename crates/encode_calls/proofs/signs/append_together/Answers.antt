use Rattle.std.proofs.Common.{ℕ, List, ◌++◌, ap, ◌∙◌, append_assoc, map, flat_map, drop}
use Rattle.ten_unit.specs.Word.{word_of}
use Rattle.time_diversity.specs.OnAir.{on_air}
use Rattle.time_diversity.proofs.PublicLaws.{front_of_on_air}
use Rattle.input_lines.specs.ReceiverLine.{sign_of}
use Rattle.encode_calls.specs.inside.Fronts.{front_signs}
use Rattle.encode_calls.proofs.SignTable.{signs_of_rest}
use Rattle.encode_calls.proofs.signs.append_together.Goals as goal

pub returns : goal.returns
returns c =
    let out = c.args.out.now.items in
    let slots = on_air c.args.list.now in
    let rest = map sign_of (flat_map word_of (drop 12 slots)) in
    c.in_ok-extend_from_slice.ensures.items
    ∙ ap (λ (l : List ℕ). c.append_front.new.out.items ++ l) c.write_characters.ensures
    ∙ ap (λ (l : List ℕ). l ++ rest) c.in_ok-append_front.ensures
    ∙ append_assoc out (front_signs c.args.long) rest
    ∙ ap (λ (l : List ℕ). out ++ l) (signs_of_rest slots c.args.long (front_of_on_air c.args.list.now))
