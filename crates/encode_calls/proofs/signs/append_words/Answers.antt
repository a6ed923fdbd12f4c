use Rattle.std.proofs.Common.{◌≡◌, ℕ, ◌+◌, ◌*◌, List, ◌++◌, length, get_or, take, map, flat_map, ap, ◌∙◌, arith}
use Rattle.std.proofs.lemmas.List.{take_all}
use Rattle.ten_unit.specs.Word.{word_of}
use Rattle.input_lines.specs.ReceiverLine.{sign_of}
use Rattle.encode_calls.proofs.SignTable.{one_more}
use Rattle.encode_calls.proofs.signs.append_words.Goals as goal

pub loop-number-preserved : goal.loop-number-preserved
loop-number-preserved c =
    let n = c.loop-number.number in
    let symbols = c.args.symbols.now in
    let next : 10 * (n + 1) ≡ 10 * n + 10 = omega arith in
    ap (λ (m : ℕ). take m c.write_word.new.words) next
    ∙ c.write_word.ensures
    ∙ ap (λ (l : List ℕ). l ++ map sign_of (word_of (get_or symbols n 0))) c.loop-number.invariant
    ∙ one_more symbols n (omega arith)

pub returns-clause-signs : goal.returns-clause-signs
returns-clause-signs c =
    let symbols = c.args.symbols.now in
    let whole : length symbols ≡ c.loop-number.number = omega arith in
    let signs =
    ap (λ (n : ℕ). take (10 * n) c.loop-number.words) whole
    ∙ c.loop-number.invariant
    ∙ ap (λ (l : List ℕ). map sign_of (flat_map word_of l)) (take_all c.loop-number.number symbols (omega arith))
    in
    c.in_ok-extend_from_slice.ensures.items ∙ ap (λ (l : List ℕ). c.args.out.now.items ++ l) signs
