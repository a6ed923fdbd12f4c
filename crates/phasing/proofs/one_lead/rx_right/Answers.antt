use Rattle.std.proofs.Common.{◌≡◌, ◌∙◌, Bool, true, false, cond, List, [], get_or, ap, refl, arith}
use mir.Val.{bool_byte}
use Rattle.ten_unit.specs.declared.character.Element.{Element}
use Rattle.dsc_symbols.specs.declared.phasing.TheConstants.{RX_0, RX_1, RX_2, RX_3, RX_4, RX_5, RX_6, RX_7}
use Rattle.phasing.proofs.one_lead.rx_right.Goals as goal

one_byte : (b : Bool) → bool_byte b ≡ cond b 1 0
one_byte true = refl
one_byte false = refl

pub returns : goal.returns
returns c =
    let words = c.requires.words in
    let s0 = c.from.ensures ∙ ap bool_byte (c.has.ensures RX_7 (ap (λ (w : List (List Element)). get_or w 0 []) words)) ∙ one_byte _ in
    let s1 = c.from-2.ensures ∙ ap bool_byte (c.has-2.ensures RX_6 (ap (λ (w : List (List Element)). get_or w 1 []) words)) ∙ one_byte _ in
    let s2 = c.from-3.ensures ∙ ap bool_byte (c.has-3.ensures RX_5 (ap (λ (w : List (List Element)). get_or w 2 []) words)) ∙ one_byte _ in
    let s3 = c.from-4.ensures ∙ ap bool_byte (c.has-4.ensures RX_4 (ap (λ (w : List (List Element)). get_or w 3 []) words)) ∙ one_byte _ in
    let s4 = c.from-5.ensures ∙ ap bool_byte (c.has-5.ensures RX_3 (ap (λ (w : List (List Element)). get_or w 4 []) words)) ∙ one_byte _ in
    let s5 = c.from-6.ensures ∙ ap bool_byte (c.has-6.ensures RX_2 (ap (λ (w : List (List Element)). get_or w 5 []) words)) ∙ one_byte _ in
    let s6 = c.from-7.ensures ∙ ap bool_byte (c.has-7.ensures RX_1 (ap (λ (w : List (List Element)). get_or w 6 []) words)) ∙ one_byte _ in
    let s7 = c.from-8.ensures ∙ ap bool_byte (c.has-8.ensures RX_0 (ap (λ (w : List (List Element)). get_or w 7 []) words)) ∙ one_byte _ in
    omega (arith, s0, s1, s2, s3, s4, s5, s6, s7)
