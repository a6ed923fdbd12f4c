use Rattle.std.proofs.Common.{◌≡◌, ℕ, ◌+◌, ◌*◌, List, length, take, drop, map, flat_map, refl, sym, ap, ◌∙◌, arith}
use Rattle.std.proofs.lemmas.List.{take_all}
use Rattle.ten_unit.specs.Word.{word_of}
use Rattle.time_diversity.specs.OnAir.{on_air}
use Rattle.time_diversity.proofs.PublicLaws.{length_after_front, dx_after_front, rx_after_front, first_rx_after_front}
use Rattle.input_lines.specs.ReceiverLine.{sign_of}
use Rattle.encode_calls.proofs.SignTable.{next_written}
use Rattle.encode_calls.proofs.signs.write_characters.Goals as goal

pub loop-place-init : goal.loop-place-init
loop-place-init c =
    let list = c.args.list.now in
    let slots = drop 12 (on_air list) in
    let many = length_after_front list in
    let phasing = first_rx_after_front list (omega arith) in
    let first = next_written slots c.args.words.now c.write_word.new.words 0 0 _ refl refl (omega (arith, many)) (sym (dx_after_front list 0 (omega arith))) c.write_word.ensures in
    let second = next_written slots c.write_word.new.words c.write_word-2.new.words 1 10 _ refl first (omega (arith, many)) (sym phasing.0) c.write_word-2.ensures in
    let third = next_written slots c.write_word-2.new.words c.write_word-3.new.words 2 20 _ refl second (omega (arith, many)) (sym (dx_after_front list 1 (omega arith))) c.write_word-3.ensures in
    next_written slots c.write_word-3.new.words c.write_word-4.new.words 3 30 _ refl third (omega (arith, many)) (sym phasing.1) c.write_word-4.ensures

pub loop-place-preserved : goal.loop-place-preserved
loop-place-preserved c =
    let list = c.args.list.now in
    let slots = drop 12 (on_air list) in
    let many = length_after_front list in
    let place = c.loop-place.place in
    let words = c.loop-place.words in
    let dx = c.write_word-in-loop-place.new.words in
    let rx = c.write_word-in-loop-place-2.new.words in
    let here : 20 * place ≡ 10 * (2 * place) = omega arith in
    let between : 20 * place + 10 ≡ 10 * (2 * place + 1) = omega arith in
    let after : 20 * (place + 1) ≡ 10 * ((2 * place + 1) + 1) = omega arith in
    let both : 2 * (place + 1) ≡ (2 * place + 1) + 1 = omega arith in
    let first = next_written slots words dx (2 * place) (20 * place) _ here c.loop-place.invariant (omega (arith, many)) (sym (dx_after_front list place (omega arith))) c.write_word-in-loop-place.ensures in
    let second = next_written slots dx rx (2 * place + 1) (20 * place + 10) _ between (ap (λ (m : ℕ). take m dx) between ∙ first) (omega (arith, many)) (sym (rx_after_front list place (omega arith) (omega arith))) c.write_word-in-loop-place-2.ensures in
    ap (λ (m : ℕ). take m rx) after
    ∙ second
    ∙ ap (λ (n : ℕ). map sign_of (flat_map word_of (take n slots))) (sym both)

pub returns : goal.returns
returns c =
    let list = c.args.list.now in
    let slots = drop 12 (on_air list) in
    let whole : length list ≡ c.loop-place.place = omega arith in
    ap (λ (n : ℕ). take (20 * n) c.loop-place.words) whole
    ∙ c.loop-place.invariant
    ∙ ap (λ (l : List ℕ). map sign_of (flat_map word_of l)) (take_all (2 * c.loop-place.place) slots (omega (arith, length_after_front list)))
