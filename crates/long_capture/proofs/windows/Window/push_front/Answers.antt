use Rattle.std.proofs.Common.{◌≡◌, ℕ, ◌+◌, ◌≤◌, ◌++◌, List, length, map, take, drop, ◌∙◌, ap, sym, arith}
use Rattle.std.proofs.lemmas.List.{length-take-le, drop-map, map-append, take-map}
use Rattle.std.proofs.lemmas.Slice.{take-put_mid}
use Rattle.ten_unit.specs.declared.character.Element.{Element}
use Rattle.ten_unit.specs.Signs.{element_of}
use Rattle.long_capture.proofs.LastElements.{last_of, window_put}
use Rattle.long_capture.proofs.windows.Window.push_front.Goals as goal

-- the elements of a list of which the first ones went
elements_put : (n : ℕ) (last signs : List ℕ) → map element_of (drop n (last ++ take n signs)) ≡ drop n (map element_of last ++ take n (map element_of signs))
elements_put n last signs =
    sym (drop-map element_of n (last ++ take n signs))
    ∙ ap (drop n) (map-append element_of last (take n signs) ∙ ap (λ (l : List Element). map element_of last ++ l) (sym (take-map element_of n signs)))

pub returns-clause-pushed : goal.returns-clause-pushed
returns-clause-pushed c =
    let begin = c.free-begin.result in
    let buffer = c.free-begin.new.buffer in
    let count = c.min-count.result in
    let signs = c.args.signs.now in
    let ys = take count signs in
    let put = c.copy_from_slice.new.self in
    let same : put ≡ ys = c.copy_from_slice.ensures.after in
    let size : begin + count ≡ begin + length put = omega (arith, ap length same, length-take-le count signs (omega (arith, c.min-count.ensures))) in
    let room : begin ≤ length buffer = omega (arith, c.free-begin.ensures.high, c.free-begin.ensures.length) in
    ap (map element_of) (window_put buffer _ begin count ys c.free-begin.ensures.low room (take-put_mid begin _ buffer put (begin + count) size room ∙ ap (λ (l : List ℕ). take begin buffer ++ l) same))
    ∙ elements_put count (last_of buffer begin) signs
    ∙ ap (λ (l : List Element). drop count (l ++ take count (map element_of signs))) (ap (map element_of) c.free-begin.ensures.same ∙ c.self.view_is)
