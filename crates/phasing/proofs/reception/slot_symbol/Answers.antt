use Rattle.std.proofs.Common.{◌<◌, length, take, sym, ◌∙◌, ap, arith}
use Rattle.std.proofs.lemmas.Option.{IfSome_then}
use Rattle.phasing.proofs.Slots.{shows-first, shows-none, slot-short}
use Rattle.phasing.proofs.reception.slot_symbol.Goals as goal

pub returns-in_err-first_chunk-clause-only : goal.returns-in_err-first_chunk-clause-only
returns-in_err-first_chunk-clause-only c =
    λ v small h.
    let e = c.args.e.now in
    let short : length c.elements.result.now < 10 = c.in_err-first_chunk.ensures.cases in
    let none = slot-short e c.args.lead c.args.slot (omega (arith, short, ap length c.elements.ensures)) in
    let missing = shows-none e c.args.lead c.args.slot v none in
    cc

pub returns-clause-some : goal.returns-clause-some
returns-clause-some c =
    let same = c.in_ok-first_chunk.ensures.cases.same ∙ ap (take 10) c.elements.ensures in
    IfSome_then c.symbol.result c.symbol.ensures.some (λ v h. (h.0, shows-first _ _ _ _ v same ∙ h.1))

pub returns-clause-only : goal.returns-clause-only
returns-clause-only c =
    let same = c.in_ok-first_chunk.ensures.cases.same ∙ ap (take 10) c.elements.ensures in
    λ v small h. c.symbol.ensures.only v small (sym (shows-first _ _ _ _ v same) ∙ h)
