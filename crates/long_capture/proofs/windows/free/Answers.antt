use Rattle.std.proofs.Common.{◌≡◌, ℕ, ◌-◌, take, drop, ◌∙◌, ap, sym, arith}
use Rattle.std.proofs.lemmas.List.{take_all, length-drop}
use Rattle.long_capture.proofs.windows.free.Goals as goal

pub returns-then-end-eq-ROOM-clause-same : goal.returns-then-end-eq-ROOM-clause-same
returns-then-end-eq-ROOM-clause-same c =
    let old = c.args.buffer.now in
    let full : 2496 ≡ c.args.end - 1600 = omega (arith, c.if-end-eq-ROOM.true) in
    c.move_to_front.ensures.moved ∙ sym (take_all 1600 (drop 2496 old) (omega (arith, length-drop 2496 old, c.told-buffer)))
    ∙ ap (λ (n : ℕ). take 1600 (drop n old)) full
