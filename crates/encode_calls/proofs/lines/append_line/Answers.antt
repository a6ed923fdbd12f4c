use Rattle.std.proofs.Common.{◌++◌, List, ℕ, Bool, [], ◌∷◌, map, ap, ◌∙◌}
use Rattle.std.specs.Prelude.{codes, decimal}
use Rattle.phasing.specs.Sent.{sent}
use Rattle.time_diversity.specs.OnAir.{on_air}
use Rattle.input_lines.specs.ReceiverLine.{sign_of}
use Rattle.encode_calls.proofs.Bodies.{front_appended, line_appended}
use Rattle.encode_calls.proofs.lines.append_line.Goals as goal

abbrev signs : List ℕ → Bool → List ℕ
signs list long = map sign_of (sent (on_air list) long)

pub returns : goal.returns
returns c =
    let out = c.args.out.now.items in
    let group = c.args.group in
    let word = c.append.ensures.items ∙ ap (λ (l : List ℕ). l ++ codes "r g") c.new-front.ensures in
    let number = c.append_number.ensures.items ∙ ap (λ (n : ℕ). c.append.new.out.items ++ decimal n) c.from.ensures ∙ ap (λ (l : List ℕ). l ++ decimal group) word in
    let blank = c.push.ensures.items ∙ ap (λ (l : List ℕ). l ++ 32 ∷ []) number in
    let front = c.in_ok-extend_from_slice.ensures.items ∙ ap (λ (l : List ℕ). out ++ l) (c.deref.ensures.0 ∙ blank) ∙ front_appended out group in
    let list = c.deref-2.ensures.0 ∙ c.write_list.ensures.list in
    let words = c.in_ok-append_list.ensures ∙ ap (λ (l : List ℕ). l ++ signs c.deref-2.result.now c.args.long) front in
    let line = c.in_ok-push.ensures.items ∙ ap (λ (l : List ℕ). l ++ 10 ∷ []) words in
    line
    ∙ ap (λ (list : List ℕ). ((((out ++ codes "r g") ++ decimal c.args.group) ++ codes " ") ++ signs list c.args.long) ++ 10 ∷ []) list
    ∙ line_appended out c.args.long c.args.group c.args.call.now c.args.expansion.now
