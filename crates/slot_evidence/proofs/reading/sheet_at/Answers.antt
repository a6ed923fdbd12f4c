use Rattle.std.proofs.Common.{List, Some, subst, sym}
use Rattle.slot_evidence.specs.declared.places.Seen.{Seen}
use Rattle.slot_evidence.specs.Facts.{facts_at}
use Rattle.slot_evidence.specs.Sheet.{IsEnds}
use Rattle.slot_evidence.proofs.Read.{AreRead, kept_read, ends_read}
use Rattle.slot_evidence.proofs.reading.sheet_at.Goals as goal

pub from_numbers-requires : goal.from_numbers-requires
from_numbers-requires g c =
    let leasts = c.leasts_of.ensures in
    let pasts = c.pasts_of.ensures in
    kept_read (g.E.Elements.list c.args.e) c.args.lead c.read_slots-shown.result.dx c.read_slots-shown.result.rx _ _
    (record { even = c.read_slots-shown.ensures.dx; odd = c.read_slots-shown.ensures.rx; places = leasts.places; as_many = pasts.places; least = leasts.each; past = pasts.each })

pub returns : goal.returns
returns g c =
    let leasts = c.leasts_of.ensures in
    let pasts = c.pasts_of.ensures in
    let read : AreRead (g.E.Elements.list c.args.e) c.args.lead c.read_slots-shown.result.dx c.read_slots-shown.result.rx c.leasts_of.result c.pasts_of.result =
    record { even = c.read_slots-shown.ensures.dx; odd = c.read_slots-shown.ensures.rx; places = leasts.places; as_many = pasts.places; least = leasts.each; past = pasts.each }
    in
    subst (λ (s : List Seen). IsEnds (facts_at (g.E.Elements.list c.args.e) (Some c.args.lead)) s) (sym c.from_numbers.ensures)
    (ends_read (g.E.Elements.list c.args.e) c.args.lead _ _ _ _ read)
