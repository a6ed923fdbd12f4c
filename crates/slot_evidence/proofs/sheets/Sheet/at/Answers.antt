use Rattle.std.proofs.Common.{List, ap, sym, ◌∙◌}
use Rattle.slot_evidence.specs.declared.places.Seen.{Seen}
use Rattle.slot_evidence.specs.Sheet.{seen_at}
use Rattle.slot_evidence.proofs.Kept.{kept_here}
use Rattle.slot_evidence.proofs.Edges.{order_at}
use Rattle.slot_evidence.proofs.sheets.Sheet.at.Goals as goal

pub between-requires : goal.between-requires
between-requires c = order_at c.self.inside.leasts c.self.inside.pasts c.self.invariant c.args.p c.requires

pub returns-clause-seen : goal.returns-clause-seen
returns-clause-seen c =
    let p = c.args.p in
    c.between.ensures.seen
    ∙ sym (kept_here c.self.inside.leasts c.self.inside.pasts c.self.invariant p c.requires)
    ∙ ap (λ (s : List Seen). seen_at s p) c.self.view_is
