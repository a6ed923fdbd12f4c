use Rattle.std.proofs.Common.{◌<◌, [], ◌∷◌, ◌++◌, List, length, map, drop, ◌∙◌, ap, sym, arith}
use Rattle.std.proofs.lemmas.List.{drop-map, map-append}
use Rattle.ten_unit.specs.declared.character.Element.{Element}
use Rattle.ten_unit.specs.Signs.{element_of}
use Rattle.long_capture.proofs.LastElements.{last_of, window_more}
use Rattle.long_capture.proofs.windows.Window.push.Goals as goal

pub returns : goal.returns
returns c =
    let free = c.free-end in
    let buffer = free.new.buffer in
    let last = last_of buffer free.result in
    let sign = c.sign_of.result in
    let room : free.result < length buffer = omega (arith, free.ensures.high, free.ensures.length) in
    ap (map element_of) (window_more 0 buffer free.result sign free.ensures.low room)
    ∙ map-append element_of (drop 1 last) (sign ∷ [])
    ∙ ap (λ (l : List Element). l ++ element_of sign ∷ []) (sym (drop-map element_of 1 last))
    ∙ ap (λ (x : Element). drop 1 (map element_of last) ++ x ∷ []) c.sign_of.ensures
    ∙ ap (λ (l : List Element). drop 1 l ++ c.args.x ∷ []) (ap (map element_of) free.ensures.same ∙ c.self.view_is)
